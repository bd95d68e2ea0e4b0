use Rattle.std.proofs.Common.{◌≡◌, ◌∙◌, sym, ap, Some, is_some, false, not}
use Rattle.sr_slots.proofs.PlaceLemmas.{copied_some, held_empty}
use Rattle.sr_slots.proofs.holding.ends_held.Goals as goal

pub returns-then-slot : goal.returns-then-slot
returns-then-slot g c e =
    let none : is_some c.in-Some.slot.now.value ≡ false = ap is_some (sym c.get.ensures) ∙ copied_some c.get.result ∙ c.is_none.ensures ∙ ap not e in
    (c.in-Some.field-0-0.now, sym c.in-Some.ensures.entry ∙ ap (λ s. Some (c.in-Some.field-0-0.now, s)) (held_empty c.in-Some.slot.now c.if-slot.true none))
