-- One node more begins.
use Rattle.std.proofs.Common.{◌≡◌, ◌+◌, ◌++◌, ◌∷◌, [], ℕ, List, map, ap, sym, ◌∙◌, add-one}
use Rattle.std.proofs.lemmas.List.{map-append}
use Rattle.sr_frame.specs.declared.fields.Mac.{Mac}
use Rattle.sr_frame.specs.declared.ports.Port.TheVariants as port
use Rattle.sr_forwarding.specs.declared.kind.RoleKind.{RoleKind}
use Rattle.sr_forwarding.specs.declared.own_role.OwnRole.{OwnRole}
use Rattle.sr_forwarding.specs.Kinds.{carriage}
use Rattle.sr_forwarding.specs.PortFramings.{carried_as}
use Rattle.sr_forwarding.specs.RoleImages.{role_of}
use Rattle.sr_node.specs.Images.{begun}
use Rattle.sr_node.specs.States.{state_of}
use Rattle.sr_plant_script.specs.declared.members.MemberRouting.{MemberRouting}
use Rattle.sr_plant_script.specs.Members.{mac_of, routed_as}
use Rattle.sr_threaded_script.specs.declared.setup.ThreadedSetup.{ThreadedSetup}
use Rattle.sr_threaded_script.specs.Beginnings.{beginning_of, starting_node, starting_nodes, role_image}
use Rattle.sr_threaded_script.specs.Hosts.{host_image, new_host}
use Rattle.sr_threaded_script.specs.Members.{member_kind}
use Rattle.sr_threaded_script.specs.Networks.{Kit}
use Rattle.sr_threaded_script.specs.Sent.{own_frames}

pub one_more : (setup : ThreadedSetup) (sent : List (ℕ × List ℕ)) (n : ℕ) (kits later : List Kit) (kit : Kit) (frames : List (List ℕ))
    → map beginning_of kits ≡ starting_nodes setup sent n → beginning_of kit ≡ starting_node setup n frames → frames ≡ own_frames n sent
    → later ≡ kits ++ kit ∷ [] → map beginning_of later ≡ starting_nodes setup sent (n + 1)
one_more setup sent n kits later kit frames so_far new own grown =
    ap (map beginning_of) grown ∙ map-append beginning_of kits (kit ∷ [])
    ∙ ap (λ bs. bs ++ beginning_of kit ∷ []) so_far ∙ ap (λ b. starting_nodes setup sent n ++ b ∷ []) new
    ∙ ap (λ fs. starting_nodes setup sent n ++ starting_node setup n fs ∷ []) own
    ∙ ap (starting_nodes setup sent) (sym (add-one n))

-- the parts of a node that begins
pub begins : (setup : ThreadedSetup) (number : ℕ) (frames : List (List ℕ)) (kit : Kit) (role : OwnRole MemberRouting) (kind : RoleKind)
    → state_of role_image kit.node ≡ begun (role_image role) setup.settings → routed_as role.routing ≡ member_kind setup.net
    → role.mac ≡ mac_of number → kind ≡ member_kind setup.net → carried_as kit.a ≡ carriage kind port.A
    → carried_as kit.b ≡ carriage kind port.B → carried_as kit.host ≡ carriage kind port.H → host_image kit.feed ≡ new_host frames
    → beginning_of kit ≡ starting_node setup number frames
begins setup number frames kit role kind node routed mac kinds at_a at_b at_host host =
    let state : state_of role_image kit.node ≡ begun (role_of (member_kind setup.net) (mac_of number)) setup.settings =
    node ∙ ap (λ (k : RoleKind). begun (role_of k role.mac) setup.settings) routed
    ∙ ap (λ (m : Mac). begun (role_of (member_kind setup.net) m) setup.settings) mac in
    let a : carried_as kit.a ≡ carriage (member_kind setup.net) port.A = at_a ∙ ap (λ (k : RoleKind). carriage k port.A) kinds in
    let b : carried_as kit.b ≡ carriage (member_kind setup.net) port.B = at_b ∙ ap (λ (k : RoleKind). carriage k port.B) kinds in
    let h : carried_as kit.host ≡ carriage (member_kind setup.net) port.H = at_host ∙ ap (λ (k : RoleKind). carriage k port.H) kinds in
    cc
