-- What a packet of the capture of a LAN is: the kinds of an audit.
use Rattle.std.specs.Prelude.{◌≡◌, ℕ, ◌-◌, ◌<◌, ◌≤◌, ◌%◌, ◌==◌, ◌⊎◌, Bool, true, false, List, [], ◌∷◌, length, drop, None, Some}
use Rattle.std.specs.Str.{bytes_eq}
use Rattle.sr_prp_trailer.specs.declared.trailer.Lan.{Lan}
use Rattle.sr_prp_trailer.specs.declared.trailer.Lan.TheVariants as lan
use Rattle.sr_forwarding.specs.declared.fault.ReadFault.{ReadFault}
use Rattle.sr_forwarding.specs.Decoding.{IsRead, IsUnread}
use Rattle.sr_forwarding.specs.Framings.{FramingImage, Trailed, Tagged}
use Rattle.sr_forwarding.specs.Octets.{src_in}
use Rattle.sr_forwarding.specs.Parcels.{ParcelImage, plain_of}
use Rattle.sr_capture.specs.Limits.{longest_kept}
use Rattle.sr_capture.specs.Records.{Captured}
use Rattle.sr_capture.specs.declared.packet.Extent.TheVariants as extent
use Rattle.sr_intake.specs.declared.kind.Kind.{Kind}
use Rattle.sr_intake.specs.declared.kind.Kind.TheVariants as kind
use Rattle.sr_intake.specs.declared.kind.Network.{Network}
use Rattle.sr_intake.specs.declared.kind.Network.TheVariants as network
use Rattle.sr_intake.specs.declared.kind.Numbered.{Numbered}

-- how frames have their numbers in a LAN
abbrev pub capture_framing : Network → Lan → FramingImage
capture_framing network.Prp lan = Trailed lan 0
capture_framing network.Hsr lan = Tagged 0

-- what a parcel with a number says
pub record IsNumberedAs (p : ParcelImage) (n : Numbered) : Type 0 where
  pub seq : p.seq ≡ Some n.seq
  pub src : n.src ≡ src_in (plain_of p)
  pub astray : n.is_astray ≡ p.wrong_lan
  pub path : n.path ≡ p.path

-- whether a frame that was read as one of LAN A names LAN B: by its trailer, or by a path that is odd
abbrev pub names_lan_b : Network → Numbered → Bool
names_lan_b network.Prp n = n.is_astray
names_lan_b network.Hsr n = n.path % 2 == 1

-- the LAN of a frame that names LAN B, or not
abbrev pub lan_if : Bool → Lan
lan_if true = lan.B
lan_if false = lan.A

-- the LAN for which a packet of a mirror port counts, which was read as one of LAN A, and what it is: none is astray there
abbrev pub mirrored : Network → Kind → Lan × Kind
mirrored network (kind.Numbered n) = (lan_if (names_lan_b network n), kind.Numbered (record n { is_astray = false }))
mirrored network other = (lan.A, other)

-- the octets end as a trailer does
abbrev pub ends_as_trailer : List ℕ → Bool
ends_as_trailer octets = bytes_eq (0x88 ∷ 0xFB ∷ []) (drop (length octets - 2) octets)

-- what a frame is that was read: one with a number, or without
abbrev pub IsParcelKind : ParcelImage → List ℕ → Kind → Type 0
IsParcelKind p octets (kind.Numbered n) = IsNumberedAs p n
IsParcelKind p octets kind.Plain = (p.seq ≡ None) × (ends_as_trailer octets ≡ false)
IsParcelKind p octets kind.Misfit = (p.seq ≡ None) × (ends_as_trailer octets ≡ true)
IsParcelKind p octets kind.Cut = ⊥
IsParcelKind p octets kind.Long = ⊥
IsParcelKind p octets kind.Empty = ⊥

-- what octets are: a frame as it is read in the LAN; what is read as none there counts as one without a number
abbrev pub IsOctetsKind : Network → Lan → List ℕ → Kind → Type 0
IsOctetsKind network lan octets k =
    ((p : ParcelImage) × IsRead (capture_framing network lan) octets p × IsParcelKind p octets k)
    ⊎ ((fault : ReadFault) × IsUnread (capture_framing network lan) octets fault × (k ≡ kind.Plain))

-- all of a packet is there, and it is neither empty nor longer than a frame
pub record IsFit (packet : Captured) : Type 0 where
  pub whole : packet.extent ≡ extent.Whole
  pub some : 0 < length packet.octets
  pub most : length packet.octets ≤ longest_kept

-- what a packet is: one that was cut, is longer than a frame or is empty, or what its octets are
abbrev pub IsKind : Network → Lan → Captured → Kind → Type 0
IsKind network lan packet kind.Cut = packet.extent ≡ extent.Cut
IsKind network lan packet kind.Long = (packet.extent ≡ extent.Whole) × (longest_kept < length packet.octets)
IsKind network lan packet kind.Empty = (packet.extent ≡ extent.Whole) × (packet.octets ≡ [])
IsKind network lan packet (kind.Numbered n) = IsFit packet × IsOctetsKind network lan packet.octets (kind.Numbered n)
IsKind network lan packet kind.Plain = IsFit packet × IsOctetsKind network lan packet.octets kind.Plain
IsKind network lan packet kind.Misfit = IsFit packet × IsOctetsKind network lan packet.octets kind.Misfit
