use Rattle.std.proofs.Common.{◌≡◌, ◌∙◌, sym, ap, Some, true}
use Rattle.sr_frame.specs.Addresses.{mac_eq}
use Rattle.sr_frame.specs.AddressLemmas.{mac_same}
use Rattle.sr_slots.proofs.IndexLemmas.{stands_here}
use Rattle.sr_slots.proofs.places.stands_at.Goals as goal

pub returns-in-Some-clause-place : goal.returns-in-Some-clause-place
returns-in-Some-clause-place g c e =
    let same : mac_eq c.in-Some.stored.now c.args.key ≡ true = sym c.eq.ensures ∙ e in
    (c.in-Some.field-0-1.now, sym c.in-Some.ensures.entry ∙ ap (λ m. Some (m, c.in-Some.field-0-1.now)) (mac_same c.in-Some.stored.now c.args.key same))

pub returns-in-Some-clause-at : goal.returns-in-Some-clause-at
returns-in-Some-clause-at g c e =
    let same : mac_eq c.in-Some.stored.now c.args.key ≡ true = sym c.eq.ensures ∙ e in
    stands_here c.args.key c.in-Some.field-0-1.now c.args.map.now.entries c.args.index
    (sym c.in-Some.ensures.entry ∙ ap (λ m. Some (m, c.in-Some.field-0-1.now)) (mac_same c.in-Some.stored.now c.args.key same)) c.len-places.ensures.unique
