use Rattle.std.proofs.Common.{◌≡◌, ◌<◌, ◌≤◌, length, None, slice_get, rules, arith, ap}
use Rattle.std.proofs.lemmas.List.{length-map}
use Rattle.std.proofs.lemmas.Option.{slice_get_past}
use Rattle.sr_plant.specs.Flights.{copy_in}
use Rattle.sr_plant.proofs.FlightLemmas.{copy_at}
use Rattle.sr_plant.proofs.flight.Flight.receiver.Goals as goal

pub returns-in_err-flying : goal.returns-in_err-flying
returns-in_err-flying c =
    let same = ap (λ v. v.copies) c.self.view_is in
    let long = ap length same in
    let kept = length-map c.self.inside.places.items (copy_in c.self.inside.kept) in
    let over : length c.self.inside.places.items ≤ c.args.place = search (rules, arith) in
    let none : slice_get c.args.self.now.copies c.args.place ≡ None = slice_get_past c.args.self.now.copies c.args.place (omega (arith, long, kept, over)) in
    rw none (search rules)

pub returns : goal.returns
returns c =
    let same = ap (λ v. v.copies) c.self.view_is in
    let within : c.args.place < length c.self.inside.places.items = search (rules, arith) in
    let here = copy_at c.self.inside.kept c.self.inside.places.items c.args.self.now.copies c.args.place c.in_ok-flying.flying same within c.in_ok-flying.ensures.item in
    rw here (search rules)
