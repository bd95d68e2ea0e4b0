use Rattle.std.proofs.Common.{◌-◌, length, arith}
use Rattle.sr_hex.specs.Values.{AreSmall}
use Rattle.sr_hex.proofs.Blocks.{all_read}
use Rattle.sr_hex.proofs.reading.read_blocks.Goals as goal

pub returns : goal.returns
returns c =
    let last = length c.args.octets.now - 16 in
    all_read c.args.digits.now c.loop-at.octets c.read_digits-2.new.octets c.loop-at.at last c.are_small.result (AreSmall c.loop-at.worst) (AreSmall c.read_digits-2.result)
    (λ k. (c.type_inv.digits k).fits) (omega arith) (omega arith) (omega arith) (omega arith) c.loop-at.invariant.spelled c.read_digits-2.ensures.spelled
    c.read_digits-2.ensures.kept c.loop-at.invariant.good c.read_digits-2.ensures.small
    (λ e. c.both.ensures.0 (c.are_small.ensures.0 e), λ h. c.are_small.ensures.1 (c.both.ensures.1 h))
