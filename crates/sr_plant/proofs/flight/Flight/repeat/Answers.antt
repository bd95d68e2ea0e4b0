use Rattle.std.proofs.Common.{◌≡◌, ◌<◌, ◌++◌, ◌∷◌, [], length, List, ap, ◌∙◌}
use Rattle.sr_plant.specs.declared.flight.copies.Flying.{Flying}
use Rattle.sr_plant.specs.Copies.{Copy}
use Rattle.sr_plant.specs.Flights.{copies_in, copy_in}
use Rattle.sr_plant.proofs.FlightLemmas.{counted_at, place_within, copy_at, is_there}
use Rattle.sr_plant.proofs.flight.Flight.repeat.Goals as goal

pub attach-requires-clause-there : goal.attach-requires-clause-there
attach-requires-clause-there c =
    let within : c.args.place < length c.self.inside.places.items = place_within c.self.inside.kept c.self.inside.places.items c.args.self.now.copies c.args.place (ap (λ v. v.copies) c.self.view_is) c.requires in
    let here = rw c.in_ok-reserve.ensures.items at c.in-Some.ensures.item in
    is_there c.self.inside.kept c.in-Some.double.key (counted_at c.self.inside.kept c.self.inside.places.items c.args.place c.in-Some.double within here c.self.invariant.0)

pub returns-in-Some-clause-ok : goal.returns-in-Some-clause-ok
returns-in-Some-clause-ok c =
    let within : c.args.place < length c.self.inside.places.items = place_within c.self.inside.kept c.self.inside.places.items c.args.self.now.copies c.args.place (ap (λ v. v.copies) c.self.view_is) c.requires in
    let here = rw c.in_ok-reserve.ensures.items at c.in-Some.ensures.item in
    let double = copy_in c.self.inside.kept c.in-Some.double in
    let same : copies_in c.self.inside.kept c.self.inside.places.items ≡ c.args.self.now.copies = ap (λ v. v.copies) c.self.view_is in (
      double,
      copy_at c.self.inside.kept c.self.inside.places.items c.args.self.now.copies c.args.place c.in-Some.double same within here,
      c.attach.ensures.copies
          ∙ (ap (λ (fs : List Flying). copies_in c.self.inside.kept fs ++ double ∷ []) c.in_ok-reserve.ensures.items
          ∙ ap (λ (cs : List Copy). cs ++ double ∷ []) same),
    )
