use Rattle.std.proofs.Common.{◌-◌, length, arith}
use Rattle.sr_hex.specs.Values.{AreSmall}
use Rattle.sr_hex.proofs.Blocks.{all_digits}
use Rattle.sr_hex.proofs.reading.are_blocks_digits.Goals as goal

pub returns : goal.returns
returns c =
    let s = c.args.octets.now in
    all_digits s c.loop-at.at (length s - 16) c.are_small.result (AreSmall c.loop-at.worst) (λ k. (c.type_inv.octets k).fits)
    (omega arith) (omega (arith, c.loop-at.invariant.within)) (omega arith) c.loop-at.invariant.good c.are_small.ensures
