-- The laws of the figures of a source.
use Rattle.std.proofs.Common.{arith, ◌∙◌}
use Rattle.sr_audit.specs.Stretches.{stretches}
use Rattle.sr_audit.specs.Laws.{CopiesAddUp, LostCopiesAddUp, NumbersAddUp}
use Rattle.sr_audit.proofs.EdgeLemmas.{edges-a-le, edges-b-le}
use Rattle.sr_audit.proofs.TallyLemmas.{rx_a-sum, rx_b-sum, rx-sum}
use Rattle.sr_audit.proofs.FitLemmas.{lengths-sum}
use Rattle.sr_audit.proofs.FollowLemmas.{length-stretches}

pub add_up : CopiesAddUp
add_up xs =
    record {
      at_a = rx_a-sum (stretches xs);
      at_b = rx_b-sum (stretches xs);
      all = rx-sum (stretches xs) ∙ length-stretches xs;
    }

pub lost_add_up : LostCopiesAddUp
lost_add_up spans xs =
    record {
      at_a = omega (arith, rx_a-sum (stretches xs), edges-a-le spans (stretches xs));
      at_b = omega (arith, rx_b-sum (stretches xs), edges-b-le spans (stretches xs));
    }

pub numbers_add : NumbersAddUp
numbers_add spans xs = omega (arith, lengths-sum (stretches xs), edges-a-le spans (stretches xs), edges-b-le spans (stretches xs))
