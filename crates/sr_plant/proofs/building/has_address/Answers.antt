use Rattle.std.proofs.Common.{◌≡◌, ◌∙◌, sym, true, false, arith, rules}
use Rattle.sr_frame.specs.Addresses.{mac_eq}
use Rattle.sr_node.specs.States.{state_of}
use Rattle.sr_plant.proofs.BuildingLemmas.{has_here, has_further}
use Rattle.sr_plant.proofs.building.has_address.Goals as goal

pub loop-node-preserved : goal.loop-node-preserved
loop-node-preserved g c =
    let other : mac_eq (g.R.Role.meaning c.node-item.result.role).mac c.args.mac ≡ false = search rules in
    c.loop-node.invariant
    ∙ has_further (state_of g.R.Role.meaning) c.args.nodes.now c.loop-node.node-index _ c.node-item.result c.args.mac (omega arith) (omega arith) (sym c.node-item.is) other

pub returns-then-eq : goal.returns-then-eq
returns-then-eq g c =
    let same : mac_eq (g.R.Role.meaning c.node-item.result.role).mac c.args.mac ≡ true = search rules in
    sym (c.loop-node.invariant
    ∙ has_here (state_of g.R.Role.meaning) c.args.nodes.now c.loop-node.node-index c.node-item.result c.args.mac (omega arith) (sym c.node-item.is) same)
