-- What holds of the roles of every kind.
use Rattle.std.proofs.Common.{◌≡◌, ℕ, ◌<◌, ◌≤◌, arith, Bool, true, false, [], ◌∷◌, Option, None, Some, refl}
use Rattle.std.specs.Prelude.{if◌then◌else◌, ◌||◌}
use Rattle.sr_frame.specs.declared.ports.Port.{Port}
use Rattle.sr_frame.specs.declared.ports.Port.TheVariants.{H, A, B, C}
use Rattle.sr_forwarding.specs.declared.header.Header.{Header}
use Rattle.sr_forwarding.specs.declared.role_image.RoleImage.{RoleImage}
use Rattle.sr_forwarding.specs.declared.kind.RoleKind.{RoleKind}
use Rattle.sr_forwarding.specs.declared.kind.RoleKind.TheVariants.{Danp, Danh, San, Prp, Hsr}
use Rattle.sr_prp_trailer.specs.declared.trailer.Lan.{Lan}
use Rattle.sr_forwarding.specs.Framings.{FramingImage, Tagged, Trailed, Ordinary}
use Rattle.sr_forwarding.specs.Kinds.{interlink_framing, side_framing, stands_alone, takes_unnumbered}
use Rattle.sr_forwarding.specs.declared.net_id.NetId.{NetId}
use Rattle.sr_forwarding.specs.declared.net_id.NetId.TheVariants.{One, Two, Three, Four, Five, Six}
use Rattle.sr_forwarding.specs.Limits.{greatest_net}
use Rattle.sr_forwarding.specs.NetIds.{number_of}
use Rattle.sr_forwarding.specs.Outlets.{has, to}
use Rattle.sr_forwarding.specs.Proxies.{learned, learned_at}
use Rattle.sr_forwarding.specs.Routes.{is_own, to_group, danp_from_lan, routes_of}

-- a role that learns keeps its kind and its address
pub learned_keeps : (r : RoleImage) (h : Header) (port : Port) (now : ℕ) →
    ((learned r h port now).kind ≡ r.kind) × ((learned r h port now).mac ≡ r.mac)
learned_keeps r h port now = by (stands_alone r.kind) port
  where
    by : (alone : Bool) (port : Port) →
        ((if alone then r else learned_at port r h now).kind ≡ r.kind) × ((if alone then r else learned_at port r h now).mac ≡ r.mac)
    by true port = (refl, refl)
    by false H = (refl, refl)
    by false A = (refl, refl)
    by false B = (refl, refl)
    by false C = (refl, refl)

-- at a doubly attached node of a PRP network what comes from a LAN goes to the host alone
pub lan_to_host : (r : RoleImage) (h : Header) (outlet : Port) → has (to (H ∷ [])) outlet ≡ false → has (to []) outlet ≡ false →
    has (danp_from_lan r h) outlet ≡ false
lan_to_host r h outlet host none = by h.supervision (is_own r h || to_group h)
  where
    by : (b c : Bool) → has (if b then to [] else if c then to (H ∷ []) else to []) outlet ≡ false
    by true c = none
    by false true = host
    by false false = none

-- where a frame may come in without a number, at A or B, it goes to the host alone
pub unnumbered_to_host : (kind : RoleKind) (r : RoleImage) (h : Header) (outlet : Port) (now : ℕ) → takes_unnumbered kind ≡ true →
    has (to (H ∷ [])) outlet ≡ false → has (to []) outlet ≡ false →
    (has (routes_of kind r h A now) outlet ≡ false) × (has (routes_of kind r h B now) outlet ≡ false)
unnumbered_to_host Danp r h outlet now takes host none = (lan_to_host r h outlet host none, lan_to_host r h outlet host none)
unnumbered_to_host Danh r h outlet now takes host none = absurd cc
unnumbered_to_host San r h outlet now takes host none = absurd cc
unnumbered_to_host (Prp lan net) r h outlet now takes host none = absurd cc
unnumbered_to_host Hsr r h outlet now takes host none = absurd cc

-- a PRP network at a ring has a number above 0
pub is_numbered : (net : NetId) → 0 < number_of net
is_numbered One = omega arith
is_numbered Two = omega arith
is_numbered Three = omega arith
is_numbered Four = omega arith
is_numbered Five = omega arith
is_numbered Six = omega arith

-- its number is at most 6
pub has_fit_number : (net : NetId) → number_of net ≤ greatest_net
has_fit_number One = omega arith
has_fit_number Two = omega arith
has_fit_number Three = omega arith
has_fit_number Four = omega arith
has_fit_number Five = omega arith
has_fit_number Six = omega arith

-- a port with this framing has frames with a tag or a trailer
abbrev pub HasMarks : FramingImage → Type 0
HasMarks (Tagged path) = Unit {0}
HasMarks (Trailed lan net) = Unit {0}
HasMarks Ordinary = ⊥

-- at A and B frames have them
pub side_has_marks : (kind : RoleKind) (side : Lan) → HasMarks (side_framing kind side)
side_has_marks Danp side = tt
side_has_marks Danh side = tt
side_has_marks San side = tt
side_has_marks (Prp lan net) side = tt
side_has_marks Hsr side = tt

-- what comes in at a port with this framing has a number, or gets one
abbrev pub Numbers : FramingImage → Type 0
Numbers (Tagged path) = Unit {0}
Numbers (Trailed lan net) = 0 < net
Numbers Ordinary = Unit {0}

abbrev pub NumbersAt : Option FramingImage → Type 0
NumbersAt None = Unit {0}
NumbersAt (Some f) = Numbers f

-- at A and B of a role that takes no frame without one
pub side_numbers : (kind : RoleKind) (side : Lan) → takes_unnumbered kind ≡ false → Numbers (side_framing kind side)
side_numbers Danp side none = absurd cc
side_numbers Danh side none = tt
side_numbers San side none = tt
side_numbers (Prp lan net) side none = tt
side_numbers Hsr side none = tt

-- what comes in at the interlink has a number, or gets one
pub interlink_numbers : (kind : RoleKind) → NumbersAt (interlink_framing kind)
interlink_numbers Danp = tt
interlink_numbers Danh = tt
interlink_numbers San = tt
interlink_numbers (Prp lan net) = is_numbered net
interlink_numbers Hsr = tt
