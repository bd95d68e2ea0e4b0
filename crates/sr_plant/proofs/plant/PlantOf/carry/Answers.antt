use Rattle.std.proofs.Common.{◌≡◌, Option, map, refl, subst, rules}
use Rattle.sr_plant.specs.declared.arriving.Arriving.{Arriving}
use Rattle.sr_plant.specs.Images.{plant_state, states_of}
use Rattle.sr_plant.specs.Plants.{plant_of}
use Rattle.sr_plant.specs.Steps.{without}
use Rattle.sr_plant.specs.Carrying.{OneComesAs}
use Rattle.sr_plant.proofs.CarryLemmas.{none_goes, carried_in_order}
use Rattle.sr_plant.proofs.plant.PlantOf.carry.Goals as goal

pub returns-in_default : goal.returns-in_default
returns-in_default g c =
    let p = c.args.self.now in
    let s = plant_state g.R.Role.meaning p in
    let v = c.remove.ensures in
    let t = plant_of p.topology (states_of g.R.Role.meaning p.nodes.items) c.remove.new.self (map (λ h. h.items) p.handed.items) in
    let plant : t ≡ without s c.args.place = rw (v.copies, v.rest.0, v.rest.1) refl in
    let went = none_goes s c.args.place t (subst (λ (o : Option Arriving). OneComesAs p.topology p.traffic.flight.copies c.args.place o) c.in_default.is c.in_ok-arriving.ensures) plant in
    record {
      step = went;
      ok = search rules;
      err = search rules;
      same = search rules;
      in_order = carried_in_order s c.args.place t c.requires went;
    }

pub bring-requires-clause-there : goal.bring-requires-clause-there
bring-requires-clause-there g c =
    let p = c.args.self.now in
    subst (λ (o : Option Arriving). OneComesAs p.topology p.traffic.flight.copies c.args.place o) c.in-Some.is c.in_ok-arriving.ensures
