use Rattle.std.proofs.Common.{◌≡◌, ◌∙◌, sym, ap, refl, None, false, is_some, arith, length, ◌+◌}
use Rattle.std.specs.Map.{lookup}
use Rattle.sr_frame.specs.Addresses.{mac_eq}
use Rattle.sr_slots.specs.Places.{entries_of, entries_from, held_of, slot_of}
use Rattle.sr_slots.specs.EntryLemmas.{one_if}
use Rattle.sr_slots.proofs.PlaceLemmas.{entries-set_same, length-held-set, given_up, none_left_out, held_absent, value_in}
use Rattle.sr_slots.proofs.FromLemmas.{from-set_same}
use Rattle.sr_slots.proofs.holding.give_up.Goals as goal

pub returns-in-Some-clause-entries : goal.returns-in-Some-clause-entries
returns-in-Some-clause-entries g c =
    let was = c.in-Some.slot.now in
    ap entries_of (c.get_mut.follows.holds (slot_of was.value false)).0
    ∙ entries-set_same c.args.key was.value false c.args.map.now.entries (ap value_in (sym c.in-Some.ensures.value))

pub returns-in-Some-clause-held : goal.returns-in-Some-clause-held
returns-in-Some-clause-held g c =
    let left = slot_of c.in-Some.slot.now.value false in
    ap held_of (c.get_mut.follows.holds left).0
    ∙ given_up c.args.key left c.args.map.now.entries c.len-places.ensures.unique refl (sym (ap is_some c.in-Some.ensures.value))

pub returns-in-Some-clause-len : goal.returns-in-Some-clause-len
returns-in-Some-clause-len g c =
    let left = slot_of c.in-Some.slot.now.value false in
    ap (λ l. length (held_of l) + one_if c.in-Some.slot.now.held) (c.get_mut.follows.holds left).0
    ∙ length-held-set c.args.key c.in-Some.slot.now left c.args.map.now.entries (sym c.in-Some.ensures.value)
    ∙ omega arith

pub returns-in-None-clause-held : goal.returns-in-None-clause-held
returns-in-None-clause-held g c =
    let absent : lookup (mac_eq c.args.key) c.args.map.now.entries ≡ None = sym c.in-None.ensures.value in
    grind (arith, none_left_out c.args.key (held_of c.args.map.now.entries) (held_absent c.args.key c.args.map.now.entries absent), c.get_mut.follows.holds-at-none)

pub returns-in-Some-clause-from : goal.returns-in-Some-clause-from
returns-in-Some-clause-from g c n =
    let was = c.in-Some.slot.now in
    ap (entries_from n) (c.get_mut.follows.holds (slot_of was.value false)).0
    ∙ from-set_same c.args.key was.value false c.args.map.now.entries n (ap value_in (sym c.in-Some.ensures.value))
