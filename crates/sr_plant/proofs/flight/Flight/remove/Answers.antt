use Rattle.std.proofs.Common.{◌<◌, length, List, sym, subst, ap, ◌∙◌}
use Rattle.std.specs.List.{remove}
use Rattle.sr_plant.specs.declared.flight.copies.Flying.{Flying}
use Rattle.sr_plant.specs.Copies.{Copy}
use Rattle.sr_plant.specs.Flights.{AreCounted, copies_in}
use Rattle.sr_plant.proofs.FlightLemmas.{removed, used_after, counted_at, place_within}
use Rattle.sr_plant.proofs.flight.Flight.remove.Goals as goal

pub drop_copy-requires : goal.drop_copy-requires
drop_copy-requires c =
    let within : c.args.place < length c.self.inside.places.items = place_within c.self.inside.kept c.self.inside.places.items c.args.self.now.copies c.args.place (ap (λ v. v.copies) c.self.view_is) c.requires in
    counted_at c.self.inside.kept c.self.inside.places.items c.args.place c.in-Some.flying within c.in-Some.ensures.item c.self.invariant.0

pub invariant_of-self : goal.invariant_of-self
invariant_of-self c =
    let within : c.args.place < length c.self.inside.places.items = place_within c.self.inside.kept c.self.inside.places.items c.args.self.now.copies c.args.place (ap (λ v. v.copies) c.self.view_is) c.requires in
    let e = c.drop_copy.ensures in
    let r = removed c.self.inside.kept c.drop_copy.new.kept c.self.inside.places.items c.args.place c.in-Some.flying within c.in-Some.ensures.item c.self.invariant.0 e.fewer e.parcel e.others in (
      subst (λ (fs : List Flying). AreCounted c.drop_copy.new.kept fs) (sym (c.in-Some.ensures.items within)) r.0,
      used_after c.self.inside.kept c.drop_copy.new.kept c.in-Some.flying.key c.self.invariant.1 e.others e.gone,
    )

pub returns-in-Some-clause-copies : goal.returns-in-Some-clause-copies
returns-in-Some-clause-copies c =
    let within : c.args.place < length c.self.inside.places.items = place_within c.self.inside.kept c.self.inside.places.items c.args.self.now.copies c.args.place (ap (λ v. v.copies) c.self.view_is) c.requires in
    let e = c.drop_copy.ensures in
    let r = removed c.self.inside.kept c.drop_copy.new.kept c.self.inside.places.items c.args.place c.in-Some.flying within c.in-Some.ensures.item c.self.invariant.0 e.fewer e.parcel e.others in
    ap (copies_in c.drop_copy.new.kept) (c.in-Some.ensures.items within) ∙ (r.1 ∙ ap (λ (v : List Copy). remove v c.args.place) (ap (λ v. v.copies) c.self.view_is))
