-- Frames of a PRP network in the ring, and that none goes back into it.
use Rattle.std.specs.Prelude.{◌≡◌, ℕ, ◌/◌, ◌<◌, ◌⊎◌, List, false}
use Rattle.sr_frame.specs.declared.ports.Port.{Port}
use Rattle.sr_frame.specs.declared.ports.Port.TheVariants.{A, B, C}
use Rattle.sr_prp_trailer.specs.declared.trailer.Lan.{Lan}
use Rattle.sr_forwarding.specs.declared.header.Header.{Header}
use Rattle.sr_forwarding.specs.declared.role_image.RoleImage.{RoleImage}
use Rattle.sr_forwarding.specs.declared.kind.RoleKind.TheVariants.{Prp}
use Rattle.sr_forwarding.specs.declared.net_id.NetId.{NetId}
use Rattle.sr_forwarding.specs.NetIds.{number_of}
use Rattle.sr_forwarding.specs.Outlets.{has}
use Rattle.sr_forwarding.specs.Routes.{routes}
use Rattle.sr_forwarding.specs.Parcels.{ParcelImage}
use Rattle.sr_forwarding.specs.Framings.{Tagged, Trailed}
use Rattle.sr_forwarding.specs.Decoding.{IsRead}
use Rattle.sr_forwarding.specs.Encoding.{IsWritten}

-- the path of the tag names the network
abbrev pub IsOfNet : ℕ → ℕ → Type 0
IsOfNet net path = path / 2 ≡ net

-- octets of the ring that came from a LAN of this network: one of its boxes read them there, and wrote them with a tag; every
-- node of the ring keeps them
pub record IsFromLan (net : ℕ) (octets : List ℕ) : Type 0 where
  pub lan : Lan
  pub received : List ℕ
  pub parcel : ParcelImage
  pub read : IsRead (Trailed lan net) received parcel
  pub path : ℕ
  pub written : IsWritten (Tagged path) parcel.form parcel octets

-- whoever reads them sees the network in the path
abbrev pub PathsNameNets : Type 0
PathsNameNets =
    (net path : ℕ) (octets : List ℕ) (p : ParcelImage)
    → 0 < net → IsFromLan net octets → IsRead (Tagged path) octets p → IsOfNet net p.path

-- no box of the network, of whichever LAN, puts a frame with such a path from the ring into its LAN
abbrev pub NoFrameGoesBack : Type 0
NoFrameGoesBack =
    (r : RoleImage) (lan : Lan) (net : NetId) (h : Header) (inlet : Port) (now : ℕ)
    → r.kind ≡ Prp lan net → IsOfNet (number_of net) h.path → (inlet ≡ A) ⊎ (inlet ≡ B) → has (routes r h inlet now) C ≡ false
