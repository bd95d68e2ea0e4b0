use Rattle.std.proofs.Common.{◌≡◌, ◌<◌, length, None, IsSome, rules, ap}
use Rattle.slab.specs.Slab.{get}
use Rattle.sr_plant.proofs.FlightLemmas.{counted_at, place_within, is_there}
use Rattle.sr_plant.proofs.flight.Flight.arriving.Goals as goal

pub returns-in-None : goal.returns-in-None
returns-in-None c =
    let within : c.args.place < length c.self.inside.places.items = place_within c.self.inside.kept c.self.inside.places.items c.args.self.now.copies c.args.place (ap (λ v. v.copies) c.self.view_is) c.requires.place in
    let there : IsSome (get c.self.inside.kept c.in-Some.flying.key) = is_there c.self.inside.kept c.in-Some.flying.key (counted_at c.self.inside.kept c.self.inside.places.items c.args.place c.in-Some.flying within c.in-Some.ensures.item c.self.invariant.0) in
    let none : get c.self.inside.kept c.in-Some.flying.key ≡ None = search rules in
    absurd (search rules)
