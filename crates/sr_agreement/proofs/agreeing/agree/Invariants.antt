use Rattle.std.proofs.Common.{◌≡◌, ◌≤◌, ℕ, List, [], ◌∷◌, length, vec_capacity}
use Rattle.std.specs.Prelude.{MatchOption}
use Rattle.sr_agreement.specs.Agreement.{arrivals_in}
use Rattle.sr_forwarding.specs.Limits.{longest_frame}
use Rattle.sr_workers.specs.Work.{parcels_in}
use Rattle.sr_agreement.proofs.Left.{Left}
use Rattle.sr_agreement.proofs.agreeing.agree.Given as goal

abbrev pub invariant-loop-pair : goal.invariant-loop-pair
invariant-loop-pair g l =
    (xs : List (List ℕ)) × MatchOption l.first (xs ≡ []) (λ o. xs ≡ o.now ∷ arrivals_in l.fn.source l.left)
    × Left (g.G.Framing.meaning l.fn.framing) (parcels_in l.fn.takes) (arrivals_in l.fn.source l.fn.arrivals) l.rest xs
    × (longest_frame ≤ vec_capacity l.buffer)

abbrev pub decreases-loop-pair : goal.decreases-loop-pair
decreases-loop-pair g l = length l.rest
