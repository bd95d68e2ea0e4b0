use Rattle.sr_hex.specs.Values.{value_of}
use Rattle.sr_hex.proofs.Blocks.{through, block_spelled}
use Rattle.sr_hex.proofs.reading.read_block.Goals as goal

pub returns-clause-spelled : goal.returns-clause-spelled
returns-clause-spelled c =
    block_spelled c.args.digits.now _ _ _ _ c.args.at (through value_of _ _ _ c.load.ensures c.values-first.ensures) (through value_of _ _ _ c.load-2.ensures c.values-second.ensures) c.octets_of.ensures c.store.ensures.stored
