use Rattle.std.proofs.Common.{rules, ◌≡◌, [], ◌∷◌, ◌++◌, vec_items, ap, ◌∙◌}
use Rattle.sr_lines.specs.declared.ends.Ends.{Ends}
use Rattle.sr_threaded.proofs.Joining.{ring_more, ring_closed, unused_more}
use Rattle.sr_threaded.proofs.wiring.ring_wires.Goals as goal

pub loop-next-preserved : goal.loop-next-preserved
loop-next-preserved c =
    let was = c.loop-next.invariant in
    let pair : Ends × Ends = (c.loop-next.at_a, c.in_ok-at_b.at_b) in
    let is : vec_items c.push_reserved.new.self ≡ vec_items c.loop-next.all ++ pair ∷ [] = c.push_reserved.ensures.items ∙ ap (λ l. l ++ pair ∷ []) c.reserve.ensures.items in (
      search rules,
      ring_more c.in_ok-last_b.last_b _ _ c.loop-next.at_a c.in_ok-at_b.at_b c.in_ok-at_b.next_a is was.1 c.in_ok-at_b.ensures.joined,
      unused_more _ _ pair is was.2 was.3 c.in_ok-at_b.ensures.first,
      c.in_ok-at_b.ensures.second,
      was.4,
    )

pub returns-clause-ring : goal.returns-clause-ring
returns-clause-ring c =
    let pair : Ends × Ends = (c.loop-next.at_a, c.in_ok-last_b.last_b) in
    let is : vec_items c.push_reserved-2.new.self ≡ vec_items c.loop-next.all ++ pair ∷ [] = c.push_reserved-2.ensures.items ∙ ap (λ l. l ++ pair ∷ []) c.reserve-2.ensures.items in
    ring_closed (vec_items c.loop-next.all) (vec_items c.push_reserved-2.new.self) c.loop-next.at_a c.in_ok-last_b.last_b is c.loop-next.invariant.1
