use Rattle.std.proofs.Common.{◌≡◌, ap, ◌∙◌, arith}
use Rattle.sr_frame.specs.declared.fields.Mac.{Mac}
use Rattle.sr_forwarding.specs.RoleImages.{role_of}
use Rattle.sr_forwarding.specs.declared.kind.RoleKind.{RoleKind}
use Rattle.sr_node.specs.Images.{begun, node_state}
use Rattle.sr_plant.specs.Topologies.{kind_of}
use Rattle.sr_plant_script.specs.Members.{new_node, routed_as}
use Rattle.sr_plant_script.proofs.NewPlants.{are_members, nodes_more}
use Rattle.sr_plant_picture.proofs.network.new_nodes.Goals as goal

pub of-routing-requires : goal.of-routing-requires
of-routing-requires c = rw c.kind_of.ensures (are_members c.args.topology c.loop-number.number)

pub loop-number-preserved : goal.loop-number-preserved
loop-number-preserved c =
    let role = c.of-role.result in
    let kind = ap routed_as c.of-role.ensures.routing ∙ (c.of-routing.ensures ∙ c.kind_of.ensures) in
    let made : begun (role_of (routed_as role.routing) role.mac) c.args.settings ≡ new_node c.args.topology c.args.settings c.loop-number.number =
    ap (λ (k : RoleKind). begun (role_of k role.mac) c.args.settings) kind
    ∙ ap (λ (mac : Mac). begun (role_of (kind_of c.args.topology c.loop-number.number) mac) c.args.settings) (c.of-role.ensures.mac ∙ c.mac_of.ensures) in
    record {
      nodes = rw c.push_reserved.ensures.items (nodes_more c.loop-number.nodes.items (λ m. node_state (role_of (routed_as m.role.routing) m.role.mac) m.core)
          c.args.topology c.args.settings c.loop-number.number c.in_ok-with.field-0 c.loop-number.invariant.nodes (c.in_ok-with.ensures.begun ∙ made));
      length = omega arith;
      room = omega arith;
    }
