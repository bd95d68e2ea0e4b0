use Rattle.std.proofs.Common.{◌≡◌, ◌+◌, ◌%◌, ◌<◌, ◌^◌, ◌∷◌, length, arith, sym, ap, ◌∙◌, subst}
use Rattle.std.specs.Prelude.{map}
use Rattle.std.proofs.lemmas.List.{length-map}
use Rattle.sr_merge.specs.declared.queue.Queue.TheInside.{Inside}
use Rattle.sr_merge.specs.Merging.{pending_of, HasPlaces}
use Rattle.sr_merge.proofs.PlaceLemmas.{places-pop, places-pop_quiet}
use Rattle.sr_merge.proofs.queue.Queue.pop.Goals as goal
use Rattle.sr_merge.proofs.queue.Queue.pop.Goals.{in-Some, in_default}

pub invariant_of-self-2 : goal.invariant_of-self-2
invariant_of-self-2 c =
    let P : Inside → Type 0 = λ q. ((q.gone + 1) % 2 ^ 64 < 2 ^ 64) × HasPlaces ((q.gone + 1) % 2 ^ 64) q.newest (map pending_of q.waiting.items) in
    let items = c.in_ok-first.ensures.items in
    let ws = map pending_of c.pop_front.new.self.items in
    let w' = pending_of c.in_ok-first.first in
    let has : HasPlaces c.self.inside.gone c.self.inside.newest (w' ∷ ws) =
    subst (λ l. HasPlaces c.self.inside.gone c.self.inside.newest (map pending_of l)) items c.self.invariant.1 in
    let r = c.len-waiting.type_inv in
    let l = c.len-waiting.ensures in
    let m = length-map c.self.inside.waiting.items pending_of in
    let n : length (w' ∷ ws) ≡ length (map pending_of c.self.inside.waiting.items) = ap (λ l. length (map pending_of l)) (sym items) in
    let small : (c.self.inside.gone + 1) % 2 ^ 64 < 2 ^ 64 = omega arith in
    elim c.match-unmet_at.branch [
      | in-Some w ↦ subst P (sym w.self-inside-is) (
        small,
        places-pop c.self.inside.gone c.self.inside.newest w.forget.new.newest w' ws w.in-Some.at c.self.invariant.0
            (omega (arith, n, m, l, r)) (sym c.unmet_at.ensures ∙ w.in-Some.is) has w.forget.ensures,
      )
      | in_default w ↦ subst P (sym w.self-inside-is)
          (small, places-pop_quiet c.self.inside.gone c.self.inside.newest w' ws (sym c.unmet_at.ensures ∙ w.in_default.is) has)
    ]
