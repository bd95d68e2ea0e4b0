use Rattle.std.proofs.Common.{List, ap, ◌∙◌}
use Rattle.std.proofs.lemmas.Result.{err_from_is_err_and}
use Rattle.sr_node.specs.Images.{State}
use Rattle.sr_plant.specs.Building.{is_plant, plant_fault}
use Rattle.sr_plant.proofs.BuildingLemmas.{sized_small, sized_joined}
use Rattle.sr_plant_script.proofs.NewPlants.{makes_plant}
use Rattle.sr_plant_picture.proofs.network.Network.new.Goals as goal

pub returns-in_err-plant-clause-lack : goal.returns-in_err-plant-clause-lack
returns-in_err-plant-clause-lack c =
    let setup = c.args.setup.now in
    let e = err_from_is_err_and c.from_residual-in_err-plant.result c.from_residual-in_err-plant.ensures.1 in
    rw e.1 (e.2 ∙ c.in_err-plant.ensures.err
    ∙ ap (λ (ns : List State). plant_fault (is_plant setup.topology ns)) c.in_ok-nodes.ensures
    ∙ ap plant_fault (makes_plant setup.topology setup.settings setup.nodes setup.sized))

pub new_nodes-requires-clause-few : goal.new_nodes-requires-clause-few
new_nodes-requires-clause-few c = let setup = c.args.setup.now in sized_small setup.topology setup.nodes setup.sized

pub new_nodes-requires-clause-joined : goal.new_nodes-requires-clause-joined
new_nodes-requires-clause-joined c = let setup = c.args.setup.now in sized_joined setup.topology setup.nodes setup.sized
