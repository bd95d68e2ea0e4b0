-- Nodes as members of the laws of networks: where a role wants a frame, by the table of routes of the laws.
use Rattle.std.specs.Prelude.{◌≡◌, ℕ, ◌/◌, ◌==◌, Bool, true, false, not}
use Rattle.sr_frame.specs.declared.ports.Port.{Port}
use Rattle.sr_frame.specs.declared.ports.Port.TheVariants.{H}
use Rattle.sr_frame.specs.Addresses.{mac_eq}
use Rattle.sr_prp_trailer.specs.declared.trailer.Lan.{Lan}
use Rattle.sr_forwarding.specs.declared.header.Header.{Header}
use Rattle.sr_forwarding.specs.declared.role_image.RoleImage.{RoleImage}
use Rattle.sr_forwarding.specs.declared.kind.RoleKind.TheVariants.{Danp, Danh, Prp, Hsr}
use Rattle.sr_forwarding.specs.declared.net_id.NetId.{NetId}
use Rattle.sr_forwarding.specs.NetIds.{number_of}
use Rattle.sr_forwarding.specs.Outlets.{has}
use Rattle.sr_forwarding.specs.RoleImages.{is_group}
use Rattle.sr_forwarding.specs.Routes.{routes}
use Rattle.sr_laws_plant.specs.Frames.{Dest, one, group, is_only, Frame}
use Rattle.sr_laws_plant.specs.OneNode.{Routes}
use Rattle.sr_laws_plant.specs.Ports.{is_at, is_side}
use Rattle.sr_laws_plant.specs.Rings as rings
use Rattle.sr_laws_plant.specs.RingLans.{Shape, is_in_ring, lan_box_routes}
use Rattle.sr_laws_plant.specs.TwinLans as lans
use Rattle.sr_laws_plant.specs.Ways as ways

abbrev pub is_to_group : Dest → Bool
is_to_group (one k) = false
is_to_group group = true

-- What the header of another member's frame shows to member k, whose role this is. Supervision is for a group, so for no member alone.
pub record HeaderShows (k : ℕ) (role : RoleImage) (h : Header) (f : Frame) : Type 0 where
  pub other : mac_eq h.src role.mac ≡ false
  pub supervision : h.supervision ≡ f.supervision
  pub alone : mac_eq h.dst role.mac ≡ is_only k f.dest
  pub all : is_group h.dst ≡ is_to_group f.dest
  pub group : f.supervision ≡ true → is_only k f.dest ≡ false

-- so a frame shows at an inlet; of what a member's own host sends nothing is asked
abbrev pub IsShown : Port → ℕ → RoleImage → Header → Frame → Type 0
IsShown p k role h f = is_at H p ≡ false → HeaderShows k role h f

-- at a ring port the path names the network exactly where no member of the ring numbered the frame
abbrev pub IsPathOf : Shape → ℕ → Port → Header → Frame → Type 0
IsPathOf s net p h f = is_side p ≡ true → (h.path / 2 == net) ≡ not (is_in_ring s f.src)

-- the role of member k wants a frame where this table says
abbrev pub WantsBy : Routes → ℕ → RoleImage → Header → Frame → Port → Type 0
WantsBy table k role h f p = (o : Port) (now : ℕ) → has (routes role h p now) o ≡ table k f p o

abbrev pub DanhsAreMembers : Type 0
DanhsAreMembers =
    (k : ℕ) (role : RoleImage) (h : Header) (f : Frame) (p : Port) → role.kind ≡ Danh → IsShown p k role h f →
    WantsBy rings.danh_routes k role h f p

abbrev pub DanpsAreMembers : Type 0
DanpsAreMembers =
    (k : ℕ) (role : RoleImage) (h : Header) (f : Frame) (p : Port) → role.kind ≡ Danp → IsShown p k role h f →
    WantsBy lans.danp_routes k role h f p

-- whichever LAN is the box's
abbrev pub PrpBoxesAreMembers : Type 0
PrpBoxesAreMembers =
    (s : Shape) (net : NetId) (k : ℕ) (lan : Lan) (role : RoleImage) (h : Header) (f : Frame) (p : Port) → role.kind ≡ Prp lan net →
    IsShown p k role h f → IsPathOf s (number_of net) p h f → WantsBy (lan_box_routes s) k role h f p

abbrev pub HsrBoxesAreMembers : Type 0
HsrBoxesAreMembers =
    (k : ℕ) (role : RoleImage) (h : Header) (f : Frame) (p : Port) → role.kind ≡ Hsr → IsShown p k role h f →
    WantsBy ways.box_routes k role h f p
