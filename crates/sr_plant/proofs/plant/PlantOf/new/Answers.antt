use Rattle.std.proofs.Common.{◌≡◌, ◌∙◌, sym, subst, true, map, rules, arith}
use Rattle.std.proofs.lemmas.Grind.{common_steps}
use Rattle.sr_plant.specs.Images.{states_of}
use Rattle.sr_plant.specs.Plants.{plant_of, IsInOrder}
use Rattle.sr_plant.specs.Building.{is_plant, opening}
use Rattle.sr_plant.proofs.BuildingLemmas.{opening_in_order}
use Rattle.sr_plant.proofs.plant.PlantOf.new.Goals as goal

pub returns-in_err-traffic : goal.returns-in_err-traffic
returns-in_err-traffic g c =
    let fit = rw c.deref.ensures.value at (sym c.is_plant.ensures ∙ c.if-not-is_plant.false) in
    record { begun = search rules; in_order = search rules; ok = search rules; err = rw fit (search rules) }

pub returns-in_err-handed : goal.returns-in_err-handed
returns-in_err-handed g c =
    let fit = rw c.deref.ensures.value at (sym c.is_plant.ensures ∙ c.if-not-is_plant.false) in
    record { begun = search rules; in_order = search rules; ok = search rules; err = rw fit (search rules) }

pub returns : goal.returns
returns g c =
    let states = states_of g.R.Role.meaning c.args.nodes.items in
    let fit : is_plant c.args.topology states ≡ true = rw c.deref.ensures.value at (sym c.is_plant.ensures ∙ c.if-not-is_plant.false) in
    let begun : plant_of c.args.topology states c.in_ok-traffic.traffic (map (λ h. h.items) c.in_ok-handed.handed.items) ≡ opening c.args.topology states = grind (arith, common_steps) in
    record {
      begun = begun;
      in_order = subst IsInOrder (sym begun) (opening_in_order c.args.topology states fit);
      ok = fit;
      err = search rules;
    }
