use Rattle.std.proofs.Common.{◌≡◌, ◌∙◌, sym, true, false, arith, rules}
use Rattle.sr_node.specs.States.{state_of}
use Rattle.sr_plant.specs.Images.{states_of}
use Rattle.sr_plant.specs.Building.{has_address}
use Rattle.sr_plant.proofs.BuildingLemmas.{apart_further, taken_here}
use Rattle.sr_plant.proofs.building.are_apart_from.Goals as goal

pub loop-node-preserved : goal.loop-node-preserved
loop-node-preserved g c =
    let free : has_address (g.R.Role.meaning c.node-item.result.role).mac (states_of g.R.Role.meaning c.args.others.now) ≡ false = search rules in
    c.loop-node.invariant
    ∙ apart_further (state_of g.R.Role.meaning) c.args.nodes.now c.loop-node.node-index _ c.node-item.result (states_of g.R.Role.meaning c.args.others.now) (omega arith) (omega arith) (sym c.node-item.is) free

pub returns-then-has_address : goal.returns-then-has_address
returns-then-has_address g c =
    let taken : has_address (g.R.Role.meaning c.node-item.result.role).mac (states_of g.R.Role.meaning c.args.others.now) ≡ true = search rules in
    sym (c.loop-node.invariant
    ∙ taken_here (state_of g.R.Role.meaning) c.args.nodes.now c.loop-node.node-index c.node-item.result (states_of g.R.Role.meaning c.args.others.now) (omega arith) (sym c.node-item.is) taken)
