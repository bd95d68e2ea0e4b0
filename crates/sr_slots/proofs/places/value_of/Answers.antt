use Rattle.std.proofs.Common.{◌∙◌, sym, ap}
use Rattle.sr_slots.proofs.PlaceLemmas.{lookup-entries, found_value, value_in}
use Rattle.sr_slots.proofs.places.value_of.Goals as goal

pub returns-in-Some : goal.returns-in-Some
returns-in-Some g c = c.get-in-Some.ensures ∙ sym (found_value c.args.key c.in-Some.slot.now c.args.map.now.entries c.len-places.ensures.unique (sym c.in-Some.ensures.value))

pub returns-in-None : goal.returns-in-None
returns-in-None g c = sym (lookup-entries c.args.key c.args.map.now.entries c.len-places.ensures.unique ∙ ap value_in (sym c.in-None.ensures.value))
