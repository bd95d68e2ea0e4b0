use Rattle.std.proofs.Common.{◌≡◌, ◌∙◌, None, true, false, sym, ap, arith}
use Rattle.std.specs.Map.{lookup}
use Rattle.indexmap.specs.Entry.{entry_value}
use Rattle.sr_frame.specs.Addresses.{mac_eq}
use Rattle.sr_slots.specs.Places.{slot_of}
use Rattle.sr_slots.proofs.PlaceLemmas.{held_there, held_last, held_le, held_absent}
use Rattle.sr_slots.proofs.FromLemmas.{from-held_there, from-held_last}
use Rattle.sr_slots.proofs.holding.hold_sought.Goals as goal

pub returns-in_default-clause-fits : goal.returns-in_default-clause-fits
returns-in_default-clause-fits g c = omega (arith, held_le c.args.map.now.entries)

pub returns-in-Occupied-clause-fits : goal.returns-in-Occupied-clause-fits
returns-in-Occupied-clause-fits g c = omega (arith, held_le c.args.map.now.entries)

pub returns-in_ok-value-in-Vacant-clause-fits : goal.returns-in_ok-value-in-Vacant-clause-fits
returns-in_ok-value-in-Vacant-clause-fits g c = omega (arith, held_le c.args.map.now.entries)

pub returns-in_err-value-in-Vacant-clause-fits : goal.returns-in_err-value-in-Vacant-clause-fits
returns-in_err-value-in-Vacant-clause-fits g c = omega (arith, held_le c.args.map.now.entries)

pub returns-in-Occupied-clause-held : goal.returns-in-Occupied-clause-held
returns-in-Occupied-clause-held g c =
    held_there
    c.args.key
    c.into_mut-slot.result.now
    c.hold_place.new.slot
    c.args.map.now.entries
    _
    c.hold_place.result
    c.len-places.ensures.unique
    (sym c.in-Ok.ensures.value ∙ ap entry_value c.in-Occupied.is ∙ c.into_mut-slot.ensures.value)
    c.hold_place.ensures.slot
    c.hold_place.ensures.newly
    (grind (arith, c.in-Ok.ensures.update.1 c.hold_place.new.slot, c.in-Ok.ensures.same_map, c.in-Occupied.is))

pub returns-in_ok-value-in-Vacant-clause-held : goal.returns-in_ok-value-in-Vacant-clause-held
unfolding entry_value
returns-in_ok-value-in-Vacant-clause-held g c =
    held_last
    c.args.key
    c.args.map.now.entries
    _
    (sym c.in-Ok.ensures.value ∙ ap entry_value c.in-Vacant.is)
    (grind (arith, c.in-Ok.ensures.update.1 (slot_of None true), c.in-Ok.ensures.same_map, c.in-Vacant.is))

pub returns-in_default-clause-again : goal.returns-in_default-clause-again
returns-in_default-clause-again g c held =
    let absent : lookup (mac_eq c.args.key) c.args.map.now.entries ≡ None = grind (arith, c.in_default.ensures.absent) in
    let bad : true ≡ false = sym held ∙ held_absent c.args.key c.args.map.now.entries absent in
    cc

pub returns-in_err-value-in-Vacant-clause-again : goal.returns-in_err-value-in-Vacant-clause-again
unfolding entry_value
returns-in_err-value-in-Vacant-clause-again g c held =
    let bad : true ≡ false = sym held ∙ held_absent c.args.key c.args.map.now.entries (sym c.in-Ok.ensures.value ∙ ap entry_value c.in-Vacant.is) in
    cc

pub returns-in-Occupied-clause-from : goal.returns-in-Occupied-clause-from
returns-in-Occupied-clause-from g c n =
    from-held_there
    c.args.key
    c.into_mut-slot.result.now
    c.hold_place.new.slot
    c.args.map.now.entries
    _
    n
    (sym c.in-Ok.ensures.value ∙ ap entry_value c.in-Occupied.is ∙ c.into_mut-slot.ensures.value)
    c.hold_place.ensures.slot
    (grind (arith, c.in-Ok.ensures.update.1 c.hold_place.new.slot, c.in-Ok.ensures.same_map, c.in-Occupied.is))

pub returns-in_ok-value-in-Vacant-clause-from : goal.returns-in_ok-value-in-Vacant-clause-from
unfolding entry_value
returns-in_ok-value-in-Vacant-clause-from g c n =
    from-held_last
    c.args.key
    c.args.map.now.entries
    _
    n
    (sym c.in-Ok.ensures.value ∙ ap entry_value c.in-Vacant.is)
    (grind (arith, c.in-Ok.ensures.update.1 (slot_of None true), c.in-Ok.ensures.same_map, c.in-Vacant.is))
