use Rattle.std.proofs.Common.{◌≡◌, ◌++◌, List, refl, sym, ap, ◌∙◌}
use Rattle.std.proofs.lemmas.List.{append-nil}
use Rattle.slab.specs.Slab.{get}
use Rattle.std.specs.Option.{option_to_list}
use Rattle.sr_plant.specs.Copies.{Copy}
use Rattle.sr_plant.specs.Flights.{copies_in, parcel_of}
use Rattle.sr_plant.specs.Puts.{copies_put, all_put, those_passing}
use Rattle.sr_plant.proofs.FlightLemmas.{kept_anew, unused}
use Rattle.sr_plant.proofs.flight.Flight.put.Goals as goal

pub returns-clause-copies : goal.returns-clause-copies
returns-clause-copies c =
    let o = c.args.outlet in
    let i = c.insert_reserved-key.ensures in
    let anew = kept_anew c.self.inside.kept c.insert_reserved-key.new.self c.insert_reserved-key.result _ c.self.inside.places.items c.self.invariant.0 refl i.was_vacant i.updates in
    let e = c.put_copies.ensures in
    let d = c.drop_unused.ensures in
    let gone = unused c.put_copies.new.kept c.drop_unused.new.kept c.put_copies.new.places.items e.counted d.copies (λ k some. ap parcel_of (d.parcel k some)) in
    let base : copies_in c.insert_reserved-key.new.self c.self.inside.places.items ≡ c.args.self.now.copies = anew.1 ∙ ap (λ v. v.copies) c.self.view_is in
    let one : copies_put o.topology o.nodes o.node o.port (parcel_of (get c.insert_reserved-key.new.self c.insert_reserved-key.result))
    ≡ all_put o.topology o.nodes o.node o.port (option_to_list c.args.parcel) =
    rw (i.updates.changed, c.in-Some.is) (sym (append-nil (copies_put o.topology o.nodes o.node o.port c.in-Some.parcel))) in
    gone.1
    ∙ (e.copies
    ∙ (ap (λ (cs : List Copy). cs ++ those_passing c.args.cut.now (copies_put o.topology o.nodes o.node o.port (parcel_of (get c.insert_reserved-key.new.self c.insert_reserved-key.result)))) base
    ∙ ap (λ (cs : List Copy). c.args.self.now.copies ++ those_passing c.args.cut.now cs) one))
