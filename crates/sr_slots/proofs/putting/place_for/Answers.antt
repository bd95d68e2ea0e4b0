use Rattle.std.proofs.Common.{◌≡◌, ◌∙◌, None, true, false, is_some, sym, ap}
use Rattle.std.specs.Map.{lookup}
use Rattle.sr_frame.specs.Addresses.{mac_eq}
use Rattle.indexmap.specs.IndexMap.{insert_entry}
use Rattle.sr_slots.specs.Places.{slot_of}
use Rattle.sr_slots.proofs.PlaceLemmas.{held_absent, none_from}
use Rattle.sr_slots.proofs.SettleLemmas.{place_there, place_found, place_made}
use Rattle.sr_slots.proofs.putting.place_for.Goals as goal

pub returns-then-stands_at-clause-place : goal.returns-then-stands_at-clause-place
returns-then-stands_at-clause-place g c = place_there c.args.key c.args.map.now.entries c.args.first (c.stands_at.ensures.place c.if-stands_at.true)

pub returns-in-Some-clause-place : goal.returns-in-Some-clause-place
returns-in-Some-clause-place g c = place_found c.args.key c.args.map.now.entries c.in-Some.index c.in-Some.ensures.index c.in-Some.ensures.found

pub returns-in_err-value-clause-reserved : goal.returns-in_err-value-clause-reserved
returns-in_err-value-clause-reserved g c held =
    let absent : lookup (mac_eq c.args.key) c.args.map.now.entries ≡ None = none_from _ (sym (ap is_some c.in_default.is) ∙ c.get_index_of.ensures.found) in
    let bad : true ≡ false = sym held ∙ held_absent c.args.key c.args.map.now.entries absent in
    cc

pub returns-in-Ok-clause-place : goal.returns-in-Ok-clause-place
returns-in-Ok-clause-place g c =
    let absent : lookup (mac_eq c.args.key) c.args.map.now.entries ≡ None = none_from _ (sym (ap is_some c.in_default.is) ∙ c.get_index_of.ensures.found) in
    place_made c.args.key c.args.map.now.entries c.insert.new.self.entries c.len-places.result absent
    (c.in-Ok.ensures.entries ∙ ap (λ v. insert_entry mac_eq c.args.map.now.entries c.args.key (slot_of v false)) c.in_ok-value.ensures) (sym c.len-places.ensures.len)

pub returns-clause-reserved : goal.returns-clause-reserved
returns-clause-reserved g c held =
    let absent : lookup (mac_eq c.args.key) c.args.map.now.entries ≡ None = none_from _ (sym (ap is_some c.in_default.is) ∙ c.get_index_of.ensures.found) in
    sym (held_absent c.args.key c.args.map.now.entries absent) ∙ held
