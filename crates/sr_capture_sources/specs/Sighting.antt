-- The sources of captures: what all their packets tell of them.
use Rattle.std.specs.Prelude.{
  ◌≡◌,
  ◌≤◌,
  ◌<◌,
  ◌⊎◌,
  ℕ,
  ◌-◌,
  Bool,
  true,
  false,
  not,
  ◌&&◌,
  ◌||◌,
  List,
  [],
  ◌∷◌,
  ◌++◌,
  length,
  drop,
  take,
  Option,
  Some,
  None,
  is_some,
  if◌then◌else◌,
}
use Rattle.std.specs.Str.{bytes_eq}
use Rattle.sr_capture.specs.Limits.{longest_kept}
use Rattle.sr_capture.specs.Records.{Captured}
use Rattle.sr_capture.specs.declared.packet.Extent.TheVariants as extent
use Rattle.sr_capture_audit.specs.declared.network.Network.{Network}
use Rattle.sr_capture_audit.specs.declared.network.Network.TheVariants as network
use Rattle.sr_capture_audit.specs.declared.network.Ports.{Ports}
use Rattle.sr_capture_audit.specs.declared.network.Ports.TheVariants.{Two, Mirror}
use Rattle.sr_capture_audit.specs.declared.network.Subject.{Subject}
use Rattle.sr_capture_script.specs.declared.choice.Choice.{Choice}
use Rattle.sr_capture_script.specs.declared.choice.Inlet.{Inlet}
use Rattle.sr_capture_script.specs.declared.choice.Inlet.TheVariants as inlet
use Rattle.sr_capture_script.specs.Coming.{AllCame}
use Rattle.sr_capture_script.specs.Items.{Item}
use Rattle.sr_capture_script.specs.Merging.{Feed}
use Rattle.sr_capture_script.specs.Passing.{Handed, wanted}
use Rattle.sr_forwarding.specs.declared.fault.ReadFault.{ReadFault}
use Rattle.sr_forwarding.specs.Decoding.{IsRead, IsUnread}
use Rattle.sr_forwarding.specs.Framings.{FramingImage, Trailed, Tagged}
use Rattle.sr_forwarding.specs.Octets.{dst_in, src_in, is_supervision}
use Rattle.sr_forwarding.specs.Parcels.{ParcelImage, plain_of}
use Rattle.sr_frame.specs.Addresses.{mac_eq}
use Rattle.sr_frame.specs.declared.fields.Mac.{Mac}
use Rattle.sr_prp_trailer.specs.declared.trailer.Lan.{Lan}
use Rattle.sr_prp_trailer.specs.declared.trailer.Lan.TheVariants as lan
use Rattle.sr_supervision.specs.declared.message.Supervision.{Supervision}
use Rattle.sr_supervision.specs.Supervised.{IsSupervision}
use Rattle.sr_sources.specs.declared.source.Event.{Event}
use Rattle.sr_sources.specs.declared.source.Event.TheVariants.{Frame, Alive, Behind, IsBox}
use Rattle.sr_sources.specs.declared.table.Sources.{Sources}
use Rattle.sr_sources.specs.Limits.{most_sources}
use Rattle.sr_sources.specs.Sources.{Noted, AreSourcesOf, IsPassedOver}
use Rattle.sr_capture_sources.specs.declared.sighting.Beside.{Beside}
use Rattle.sr_capture_sources.specs.declared.sighting.Sighting.{Sighting}

-- The LAN of a capture, if it is one of the audit. A mirror port has the frames of both, which are taken as those of LAN A.
abbrev pub lan_at : Ports → Inlet → Option Lan
lan_at Two inlet.A = Some lan.A
lan_at Two inlet.B = Some lan.B
lan_at Two inlet.C = None
lan_at Mirror inlet.A = Some lan.A
lan_at Mirror inlet.B = None
lan_at Mirror inlet.C = None

-- how frames have their numbers there
abbrev pub lan_framing : Network → Lan → FramingImage
lan_framing network.Prp lan = Trailed lan 0
lan_framing network.Hsr lan = Tagged 0

-- all of a packet is there, and it is no longer than a frame
abbrev pub IsWholePacket : Captured → Type 0
IsWholePacket packet = (packet.extent ≡ extent.Whole) × (length packet.octets ≤ longest_kept)

abbrev pub IsNoWholePacket : Captured → Type 0
IsNoWholePacket packet = (packet.extent ≡ extent.Cut) ⊎ (longest_kept < length packet.octets)

-- An address that no node of a LAN is asked by for a number: a frame to it stays on its link (01-80-C2-xx), or is one of PTP or MRP.
abbrev pub is_of_link : Mac → Bool
is_of_link dst =
    bytes_eq (0x01 ∷ 0x80 ∷ 0xC2 ∷ []) (take 3 dst.0) || (bytes_eq (0x01 ∷ 0x1B ∷ 0x19 ∷ []) (take 3 dst.0)
    || bytes_eq (0x01 ∷ 0x15 ∷ 0x4E ∷ 0x00 ∷ 0x00 ∷ []) (take 5 dst.0))

-- the octets end as a trailer does, which they are none of: what changed them is not told
abbrev pub ends_like_trailer : List ℕ → Bool
ends_like_trailer octets = bytes_eq (0x88 ∷ 0xFB ∷ []) (drop (length octets - 2) octets)

-- a frame tells of its source: it has a number, or it might have one
abbrev pub is_telling : List ℕ → ParcelImage → Bool
is_telling octets p = is_some p.seq || not (is_of_link (dst_in (plain_of p)) || ends_like_trailer octets)

-- whether a trailer names the other LAN: at a mirror port each is of one of both
abbrev pub is_astray_in : Ports → ParcelImage → Bool
is_astray_in Two p = p.wrong_lan
is_astray_in Mirror p = false

-- what a frame tells of its source
abbrev pub frame_event : Subject → Lan → ℕ → ParcelImage → Event
frame_event subject lan time p = Frame lan (record { time = time; number = p.seq; is_astray = is_astray_in subject.ports p })

abbrev pub noted_of : Subject → Lan → ℕ → List ℕ → ParcelImage → List Noted
noted_of subject lan time octets p =
    if is_telling octets p then (src_in (plain_of p), frame_event subject lan time p) ∷ [] else []

-- what supervision tells: how a node announces itself, and the RedBox that it stands behind; the last first
abbrev pub noted_behind : Mac → Mac → List Noted
noted_behind mac redbox = if mac_eq mac redbox then [] else (mac, Behind redbox) ∷ []

abbrev pub noted_box : Mac → Option Mac → List Noted
noted_box mac (Some redbox) = noted_behind mac redbox ++ (redbox, IsBox) ∷ []
noted_box mac None = []

abbrev pub noted_sign : Supervision → List Noted
noted_sign s = noted_box s.mac s.redbox ++ (s.mac, Alive s.life) ∷ []

pub data AreSigns (plain : List ℕ) (own : List Noted) : Type 0 where
  sign : (s : Supervision) → IsSupervision plain s → own ≡ noted_sign s → AreSigns plain own
  no_sign : ((s : Supervision) → IsSupervision plain s → ⊥) → own ≡ [] → AreSigns plain own

-- supervision, where destination and type are those of it, and the frame has a number
abbrev pub AreSignsIf : Bool → List ℕ → List Noted → Type 0
AreSignsIf true plain own = AreSigns plain own
AreSignsIf false plain own = own ≡ []

-- what a packet tells, in a LAN: the last first
pub data AreTold (subject : Subject) (lan : Lan) (x : Handed) (own : List Noted) : Type 0 where
  frame : (p : ParcelImage) (signs : List Noted) → IsWholePacket x.packet → IsRead (lan_framing subject.network lan) x.packet.octets p →
      AreSignsIf (is_some p.seq && is_supervision (plain_of p)) (plain_of p) signs →
      own ≡ signs ++ noted_of subject lan x.time x.packet.octets p → AreTold subject lan x own
  no_frame : (fault : ReadFault) → IsWholePacket x.packet → IsUnread (lan_framing subject.network lan) x.packet.octets fault → own ≡ [] →
      AreTold subject lan x own
  not_whole : IsNoWholePacket x.packet → own ≡ [] → AreTold subject lan x own

abbrev pub AreToldAt : Subject → Option Lan → Handed → List Noted → Type 0
AreToldAt subject (Some lan) x own = AreTold subject lan x own
AreToldAt subject None x own = own ≡ []

-- what packets tell, the last first
abbrev pub AreToldBy : Subject → List Handed → List Noted → Type 0
AreToldBy subject [] told = told ≡ []
AreToldBy subject (x ∷ xs) told =
    (own : List Noted) × (later : List Noted) × (told ≡ later ++ own) × AreToldAt subject (lan_at subject.ports x.inlet) x own
    × AreToldBy subject xs later

-- the sources are of all that was told: of each all of its own, of at most 1024, and a count of what was told of others
pub record KeepsSources (told : List Noted) (sources : Sources) : Type 0 where
  pub each : AreSourcesOf told sources.sources.entries
  pub out : IsPassedOver sources.sources.entries told sources.left_out
  pub few : length sources.sources.entries ≤ most_sources

-- those of a packet more
pub record SightsMore (x : Handed) (old new : Sighting) : Type 0 where
  pub subject : new.subject ≡ old.subject
  pub own : List Noted
  pub is_own : AreToldAt old.subject (lan_at old.subject.ports x.inlet) x own
  pub takes : (told : List Noted) → KeepsSources told old.sources → KeepsSources (own ++ told) new.sources

-- a packet is taken for the sources, and by the other pass
pub record SightsBeside {P : Type 0} (takes : P → Handed → P → Type 0) (x : Handed) (old new : Beside P) : Type 0 where
  pub sighted : SightsMore x old.sighting new.sighting
  pub other : takes old.other x new.other

-- the sources of three files: of all their packets that are wanted
pub record AreSourcesOfAll (choice : Choice) (subject : Subject) (x y z : Feed) (sources : Sources) : Type 0 where
  pub merged : List Item
  pub came : AllCame x y z merged
  pub told : List Noted
  pub are_told : AreToldBy subject (wanted choice merged) told
  pub of_all : KeepsSources told sources
