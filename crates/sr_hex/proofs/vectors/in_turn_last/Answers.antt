use Rattle.std.proofs.Common.{◌+◌, ◌*◌, ◌/◌, ◌%◌, ◌++◌, get_or}
use Rattle.sr_hex.proofs.LaneLemmas.{sixteen}
use Rattle.sr_hex.proofs.vectors.in_turn_last.Goals as goal

pub returns : goal.returns
returns c = sixteen (λ i. get_or (c.args.high ++ c.args.low) (8 + i / 2 + 16 * (i % 2)) 0)
