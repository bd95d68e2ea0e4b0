-- What the packets of captures are to a merge.
use Rattle.std.specs.Prelude.{
  ◌≡◌,
  ℕ,
  ◌-◌,
  ◌^◌,
  min,
  Bool,
  true,
  false,
  not,
  ◌&&◌,
  nat_lt,
  List,
  [],
  ◌∷◌,
  ◌++◌,
  length,
  Option,
  None,
  Some,
  Result,
  Ok,
  Err,
}
use Rattle.sr_sequence.specs.declared.Seq.{Seq}
use Rattle.sr_prp_trailer.specs.declared.trailer.Lan.{Lan}
use Rattle.sr_prp_trailer.specs.declared.trailer.Lan.TheVariants as lan
use Rattle.sr_forwarding.specs.declared.fault.ReadFault.{ReadFault}
use Rattle.sr_forwarding.specs.Decoding.{Reads}
use Rattle.sr_forwarding.specs.Framings.{FramingImage, Trailed, Tagged}
use Rattle.sr_forwarding.specs.Octets.{src_in}
use Rattle.sr_forwarding.specs.Parcels.{ParcelImage, plain_of}
use Rattle.sr_audit.specs.declared.side.Side.{Side}
use Rattle.sr_audit.specs.declared.side.Side.TheVariants as side
use Rattle.sr_capture.specs.Limits.{longest_kept}
use Rattle.sr_capture.specs.declared.packet.Extent.{Extent}
use Rattle.sr_capture.specs.declared.packet.Extent.TheVariants.{Whole, Cut}
use Rattle.sr_capture_audit.specs.declared.network.Network.{Network}
use Rattle.sr_capture_audit.specs.declared.network.Network.TheVariants.{Prp, Hsr}
use Rattle.sr_capture_script.specs.declared.choice.Choice.{Choice}
use Rattle.sr_capture_script.specs.declared.choice.Inlet.{Inlet}
use Rattle.sr_capture_script.specs.declared.choice.Inlet.TheVariants as inlet
use Rattle.sr_capture_script.specs.Items.{Item}
use Rattle.sr_capture_script.specs.Texts.{is_wanted, time_since}
use Rattle.sr_capture_merge.specs.declared.plan.Plan.{Plan}
use Rattle.sr_capture_merge.specs.declared.plan.Spelling.{Spelling}
use Rattle.sr_capture_merge.specs.declared.plan.Spelling.TheVariants.{Plain, Kept}
use Rattle.sr_merge.specs.Merging.{Read}

-- the LAN of a side
abbrev pub lan_of : Side → Lan
lan_of side.A = lan.A
lan_of side.B = lan.B

-- how frames have their numbers at a side
abbrev pub framing_by : Network → Side → FramingImage
framing_by Prp side = Trailed (lan_of side) 0
framing_by Hsr side = Tagged 0

-- a packet without a number
abbrev pub unnumbered : Side → ℕ → ℕ → List ℕ → Read
unnumbered side number time octets =
    record { came = record { side = side; time = time; frame = None }; number = number; is_astray = false; octets = octets }

-- the octets that are written of a frame: without its trailer or tag, or as it came
abbrev pub spelled : Spelling → ParcelImage → List ℕ → List ℕ
spelled Plain p octets = plain_of p
spelled Kept p octets = octets

-- a frame with a number or without
abbrev pub frame_read : Spelling → Side → ℕ → ℕ → List ℕ → ParcelImage → Option Seq → Read
frame_read spelling side number time octets p None = unnumbered side number time octets
frame_read spelling side number time octets p (Some seq) = record {
  came = record { side = side; time = time; frame = Some (record { src = src_in (plain_of p); seq = seq }) };
  number = number;
  is_astray = p.wrong_lan;
  octets = spelled spelling p octets;
}

-- what is read as no frame has no number
abbrev pub packet_read : Spelling → Side → ℕ → ℕ → List ℕ → Result ParcelImage ReadFault → Read
packet_read spelling side number time octets (Ok p) = frame_read spelling side number time octets p p.seq
packet_read spelling side number time octets (Err fault) = unnumbered side number time octets

-- the octets are read as this packet
abbrev pub IsPacketRead : Plan → Side → ℕ → ℕ → List ℕ → Read → Type 0
IsPacketRead plan side number time octets p = (answer : Result ParcelImage ReadFault) × Reads (framing_by plan.network side) octets answer
    × (p ≡ packet_read plan.spelling side number time octets answer)

-- a packet that is taken, or is not
abbrev pub IsReadIf : Bool → Plan → Side → ℕ → ℕ → List ℕ → List Read → Type 0
IsReadIf true plan side number time octets ps = (p : Read) × (ps ≡ p ∷ []) × IsPacketRead plan side number time octets p
IsReadIf false plan side number time octets ps = ps ≡ []

-- whether the recorder cut nothing of a packet, and it is no longer than a frame
abbrev pub is_whole : Extent → ℕ → Bool
is_whole Cut len = false
is_whole Whole len = not (nat_lt longest_kept len)

-- what is not whole: whether the recorder cut a packet, or did not and it is longer than a frame
abbrev pub was_cut : Extent → Bool
was_cut Cut = true
was_cut Whole = false

abbrev pub is_long : Extent → ℕ → Bool
is_long Cut len = false
is_long Whole len = nat_lt longest_kept len

-- the side of an inlet
abbrev pub side_at : Inlet → Side
side_at inlet.A = side.A
side_at inlet.B = side.B
side_at inlet.C = side.B

-- whether a packet of a file is taken: it is wanted and whole; times are counted from a start
abbrev pub is_taken : Choice → ℕ → Item → Bool
is_taken choice start item =
    is_wanted choice (time_since start item.moment) && is_whole item.packet.extent (length item.packet.octets)

-- what it is taken as, if it is
abbrev pub IsItemRead : Choice → Plan → ℕ → Item → List Read → Type 0
IsItemRead choice plan start item ps = IsReadIf (is_taken choice start item) plan (side_at item.inlet) (min item.number (2 ^ 64 - 1))
    (item.moment - start) item.packet.octets ps

-- what the packets of files are taken as, in order
abbrev pub AreRead : Choice → Plan → ℕ → List Item → List Read → Type 0
AreRead choice plan start [] ps = ps ≡ []
AreRead choice plan start (item ∷ items) ps = (own : List Read) × (rest : List Read) × (ps ≡ own ++ rest)
    × IsItemRead choice plan start item own × AreRead choice plan start items rest
