use Rattle.sr_hex.specs.Values.{value_of}
use Rattle.sr_hex.proofs.Blocks.{through, half_small}
use Rattle.sr_hex.proofs.reading.values_at.Goals as goal

pub returns : goal.returns
returns c = half_small c.args.octets.now _ c.args.at (through value_of _ _ _ c.load.ensures c.values.ensures)
