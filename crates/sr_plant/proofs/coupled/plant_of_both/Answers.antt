use Rattle.std.proofs.Common.{◌≡◌, ◌++◌, ◌∙◌, sym, ap, true, false, List, rules}
use Rattle.std.proofs.lemmas.List.{map-append}
use Rattle.std.proofs.lemmas.Result.{err_from_is_err_and}
use Rattle.sr_node.specs.Images.{State}
use Rattle.sr_node.specs.States.{state_of}
use Rattle.sr_plant.specs.Images.{states_of}
use Rattle.sr_plant.specs.Building.{is_plant, is_plant_of_both, opening, plant_fault}
use Rattle.sr_plant.proofs.BuildingLemmas.{plant_of_both}
use Rattle.sr_plant.proofs.coupled.plant_of_both.Goals as goal

pub returns-then-not-is_plant_of_both : goal.returns-then-not-is_plant_of_both
returns-then-not-is_plant_of_both g c =
    let first = states_of g.R.Role.meaning c.args.first.items in
    let behind = states_of g.R.Role.meaning c.args.behind.items in
    let both : is_plant_of_both c.args.topology first behind ≡ false = rw (c.deref.ensures.value, c.deref-2.ensures.value) at (sym c.is_plant_of_both.ensures ∙ c.if-not-is_plant_of_both.true) in
    let unfit : is_plant c.args.topology (first ++ behind) ≡ false = sym (plant_of_both c.args.topology first behind) ∙ both in
    record { begun = search rules; in_order = search rules; ok = search rules; err = rw unfit (search rules) }

pub returns-in_err-append : goal.returns-in_err-append
returns-in_err-append g c =
    let first = states_of g.R.Role.meaning c.args.first.items in
    let behind = states_of g.R.Role.meaning c.args.behind.items in
    let both : is_plant_of_both c.args.topology first behind ≡ true = rw (c.deref.ensures.value, c.deref-2.ensures.value) at (sym c.is_plant_of_both.ensures ∙ c.if-not-is_plant_of_both.false) in
    let fit : is_plant c.args.topology (first ++ behind) ≡ true = sym (plant_of_both c.args.topology first behind) ∙ both in
    record { begun = search rules; in_order = search rules; ok = search rules; err = rw fit (search rules) }

pub returns-in_err-plant : goal.returns-in_err-plant
returns-in_err-plant g c =
    let state = state_of g.R.Role.meaning in
    let e = err_from_is_err_and c.from_residual-in_err-plant.result c.from_residual-in_err-plant.ensures.1 in
    let nodes = ap (states_of g.R.Role.meaning) c.in_ok-append.ensures.items ∙ map-append state c.args.first.items c.args.behind.items in
    rw e.1 (record {
      begun = tt;
      in_order = tt;
      ok = tt;
      err = e.2 ∙ c.in_err-plant.ensures.err ∙ ap (λ (ns : List State). plant_fault (is_plant c.args.topology ns)) nodes;
    })

pub returns : goal.returns
returns g c =
    let state = state_of g.R.Role.meaning in
    let nodes = ap (states_of g.R.Role.meaning) c.in_ok-append.ensures.items ∙ map-append state c.args.first.items c.args.behind.items in
    record {
      begun = c.in_ok-plant.ensures.begun ∙ ap (λ (ns : List State). opening c.args.topology ns) nodes;
      in_order = c.in_ok-plant.ensures.in_order;
      ok = sym (ap (λ (ns : List State). is_plant c.args.topology ns) nodes) ∙ c.in_ok-plant.ensures.ok;
      err = search rules;
    }
