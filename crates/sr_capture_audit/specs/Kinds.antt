-- What a packet of a capture is to an audit.
use Rattle.std.specs.Prelude.{
  ◌≡◌,
  ℕ,
  ◌-◌,
  ◌%◌,
  ◌<◌,
  ◌≤◌,
  ◌==◌,
  ◌⊎◌,
  Bool,
  true,
  false,
  List,
  [],
  ◌∷◌,
  length,
  take,
  drop,
  slice_index,
  Option,
  None,
  Some,
}
use Rattle.std.specs.Str.{bytes_eq}
use Rattle.sr_frame.specs.Frame.{least_len}
use Rattle.sr_frame.specs.declared.fields.Mac.{Mac}
use Rattle.sr_prp_trailer.specs.declared.trailer.Lan.{Lan}
use Rattle.sr_prp_trailer.specs.declared.trailer.Lan.TheVariants as lan
use Rattle.sr_supervision.specs.declared.message.Supervision.{Supervision}
use Rattle.sr_supervision.specs.Supervised.{IsSupervision, life_type}
use Rattle.sr_forwarding.specs.declared.fault.ReadFault.{ReadFault}
use Rattle.sr_forwarding.specs.Decoding.{IsRead, IsUnread}
use Rattle.sr_forwarding.specs.Framings.{FramingImage, Trailed, Tagged}
use Rattle.sr_forwarding.specs.Octets.{dst_in, src_in, is_supervision}
use Rattle.sr_forwarding.specs.Parcels.{ParcelImage, plain_of}
use Rattle.sr_audit.specs.declared.side.Side.{Side}
use Rattle.sr_audit.specs.declared.side.Side.TheVariants as side
use Rattle.sr_capture.specs.Limits.{longest_kept}
use Rattle.sr_capture.specs.Records.{Captured}
use Rattle.sr_capture.specs.declared.packet.Extent.TheVariants as extent
use Rattle.sr_capture_audit.specs.declared.kind.Kind.{Kind}
use Rattle.sr_capture_audit.specs.declared.kind.Kind.TheVariants as kind
use Rattle.sr_capture_audit.specs.declared.kind.Numbered.{Numbered}
use Rattle.sr_capture_audit.specs.declared.kind.Sign.{Sign}
use Rattle.sr_capture_audit.specs.declared.network.Network.{Network}
use Rattle.sr_capture_audit.specs.declared.network.Network.TheVariants as network
use Rattle.sr_capture_audit.specs.declared.network.Tap.{Tap}
use Rattle.sr_capture_audit.specs.declared.network.Tap.TheVariants as tap

-- the LAN whose trailers are expected where a capture was made: at a mirror port all are read as those of LAN A
abbrev pub expected_lan : Tap → Lan
expected_lan (tap.Side side.A) = lan.A
expected_lan (tap.Side side.B) = lan.B
expected_lan tap.Mirror = lan.A

-- how frames have their numbers where a capture was made
abbrev pub tap_framing : Network → Tap → FramingImage
tap_framing network.Prp tap = Trailed (expected_lan tap) 0
tap_framing network.Hsr tap = Tagged 0

-- whether a frame itself names side B: its trailer is not one of LAN A, or the path of its tag is odd
abbrev pub names_b : Network → ParcelImage → Bool
names_b network.Prp p = p.wrong_lan
names_b network.Hsr p = p.path % 2 == 1

abbrev pub side_if : Bool → Side
side_if true = side.B
side_if false = side.A

-- the side where a numbered frame came in: that of the capture, or at a mirror port the one that it names
abbrev pub numbered_side : Network → Tap → ParcelImage → Side
numbered_side network (tap.Side own) p = own
numbered_side network tap.Mirror p = side_if (names_b network p)

-- whether its trailer names the other LAN than that of the capture: a mirror port has both
abbrev pub is_astray_at : Tap → ParcelImage → Bool
is_astray_at (tap.Side own) p = p.wrong_lan
is_astray_at tap.Mirror p = false

-- the sign of life in a supervision frame, if it can be read: the address that it is for, the type of its first TLV, and the RedBox that
-- the address stands behind
abbrev pub IsSignIn : List ℕ → Option Sign → Type 0
IsSignIn plain (Some sign) = (s : Supervision) × IsSupervision plain s × (sign.mac ≡ s.mac) × (sign.kind ≡ life_type s.life)
    × (sign.redbox ≡ s.redbox)
IsSignIn plain None = (s : Supervision) → IsSupervision plain s → ⊥

-- the sign of life that a frame is, if its destination and type are those of supervision
abbrev pub IsSignIf : Bool → List ℕ → Option Sign → Type 0
IsSignIf true plain sign = IsSignIn plain sign
IsSignIf false plain sign = sign ≡ None

abbrev pub IsSignOf : List ℕ → Option Sign → Type 0
IsSignOf plain sign = IsSignIf (is_supervision plain) plain sign

-- an address is that of a group: the lowest bit of its first octet is set
abbrev pub is_group_address : Mac → Bool
is_group_address mac = slice_index mac.0 0 % 2 == 1

-- what a parcel with a number says
pub record IsNumberedAs (network : Network) (tap : Tap) (p : ParcelImage) (n : Numbered) : Type 0 where
  pub seq : p.seq ≡ Some n.seq
  pub src : n.src ≡ src_in (plain_of p)
  pub dst : n.dst ≡ dst_in (plain_of p)
  pub side : n.side ≡ numbered_side network tap p
  pub to_group : n.to_group ≡ is_group_address (dst_in (plain_of p))
  pub astray : n.is_astray ≡ is_astray_at tap p
  pub sign : IsSignOf (plain_of p) n.sign

-- the octets end as a trailer does
abbrev pub ends_as_trailer : List ℕ → Bool
ends_as_trailer octets = bytes_eq (0x88 ∷ 0xFB ∷ []) (drop (length octets - 2) octets)

-- what a frame is that was read: one with a number, or without
abbrev pub IsParcelKind : Network → Tap → ParcelImage → List ℕ → Kind → Type 0
IsParcelKind network tap p octets (kind.Numbered n) = IsNumberedAs network tap p n
IsParcelKind network tap p octets kind.Plain = (p.seq ≡ None) × (ends_as_trailer octets ≡ false)
IsParcelKind network tap p octets kind.Misfit = (p.seq ≡ None) × (ends_as_trailer octets ≡ true)
IsParcelKind network tap p octets kind.Cut = ⊥
IsParcelKind network tap p octets kind.Long = ⊥
IsParcelKind network tap p octets kind.Empty = ⊥

-- what octets are: a frame as it is read where the capture was made; what is read as none there counts as one without a number
abbrev pub IsOctetsKind : Network → Tap → List ℕ → Kind → Type 0
IsOctetsKind network tap octets k =
    ((p : ParcelImage) × IsRead (tap_framing network tap) octets p × IsParcelKind network tap p octets k)
    ⊎ ((fault : ReadFault) × IsUnread (tap_framing network tap) octets fault × (k ≡ kind.Plain))

-- all of a packet is there, and it is neither empty nor longer than a frame
pub record IsFit (packet : Captured) : Type 0 where
  pub whole : packet.extent ≡ extent.Whole
  pub some : 0 < length packet.octets
  pub most : length packet.octets ≤ longest_kept

-- what a packet is: one that was cut, is longer than a frame or is empty, or what its octets are
abbrev pub IsKind : Network → Tap → Captured → Kind → Type 0
IsKind network tap packet kind.Cut = packet.extent ≡ extent.Cut
IsKind network tap packet kind.Long = (packet.extent ≡ extent.Whole) × (longest_kept < length packet.octets)
IsKind network tap packet kind.Empty = (packet.extent ≡ extent.Whole) × (packet.octets ≡ [])
IsKind network tap packet (kind.Numbered n) = IsFit packet × IsOctetsKind network tap packet.octets (kind.Numbered n)
IsKind network tap packet kind.Plain = IsFit packet × IsOctetsKind network tap packet.octets kind.Plain
IsKind network tap packet kind.Misfit = IsFit packet × IsOctetsKind network tap packet.octets kind.Misfit

-- the octets have the end of a trailer four octets before their own: a check sequence may stand behind it
abbrev pub is_checked : List ℕ → Bool
is_checked octets = ends_as_trailer (take (length octets - 4) octets)

-- the octets have the type of an HSR tag
abbrev pub is_tagged : List ℕ → Bool
is_tagged octets = bytes_eq (0x89 ∷ 0x2F ∷ []) (take 2 (drop (least_len octets - 2) octets))
