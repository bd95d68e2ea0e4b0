use Rattle.std.proofs.Common.{◌≡◌, ◌+◌, ◌%◌, ◌<◌, ◌^◌, ◌++◌, ◌∷◌, [], length, arith, sym, ap, ◌∙◌, subst}
use Rattle.std.specs.Prelude.{map}
use Rattle.std.proofs.lemmas.List.{length-map, map_push}
use Rattle.sr_merge.specs.declared.queue.Queue.TheInside.{Inside}
use Rattle.sr_merge.specs.Merging.{pending_of, HasPlaces, PutsPlace}
use Rattle.sr_merge.proofs.PlaceLemmas.{places-push, places-push_none}
use Rattle.sr_merge.proofs.queue.Queue.push.Goals as goal
use Rattle.sr_merge.proofs.queue.Queue.push.Goals.{in-Some+in_ok-put, in_default}

pub invariant_of-self-2 : goal.invariant_of-self-2
invariant_of-self-2 c =
    let gone = c.self.inside.gone in
    let old = c.self.inside.newest in
    let ws = map pending_of c.self.inside.waiting.items in
    let own = pending_of c.args.waiting in
    let has = c.self.invariant.1 in
    let none = sym c.at.ensures in
    let count : c.len.result ≡ length ws =
    omega (arith, c.len.ensures, c.in_ok-reserve.ensures.len, length-map c.self.inside.waiting.items pending_of) in
    let P : Inside → Type 0 = λ q. (q.gone < 2 ^ 64) × HasPlaces q.gone q.newest (map pending_of c.push_back_reserved.new.self.items) in
    let behind : c.match-at.self-inside.waiting.items ≡ c.reserve.new.self.items → map pending_of c.push_back_reserved.new.self.items ≡ ws ++ own ∷ [] =
    λ is. ap (map pending_of)
    (c.push_back_reserved.ensures.items ∙ ap (λ l. l ++ c.args.waiting ∷ []) (is ∙ c.in_ok-reserve.ensures.items))
    ∙ map_push pending_of c.self.inside.waiting.items c.args.waiting in
    elim c.match-at.branch [
      | in-Some+in_ok-put w ↦ subst P (sym w.self-inside-is) (
        c.self.invariant.0,
        subst (HasPlaces gone w.put.new.newest) (sym (behind (ap (λ q. q.waiting.items) w.self-inside-is)))
            (places-push gone old w.put.new.newest ws own w.in-Some.at c.requires (none ∙ w.in-Some.is) has
            (subst (λ n. PutsPlace w.in-Some.at ((gone + n) % 2 ^ 64) old w.put.new.newest) count w.in_ok-put.ensures.ok)),
      )
      | in_default w ↦ subst P (sym w.self-inside-is) (
        c.self.invariant.0,
        subst (HasPlaces gone old) (sym (behind (ap (λ q. q.waiting.items) w.self-inside-is)))
            (places-push_none gone old ws own c.requires (none ∙ w.in_default.is) has),
      )
    ]
