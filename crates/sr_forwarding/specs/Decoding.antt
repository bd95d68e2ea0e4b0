-- What octets at a port are read as, by its framing.
use Rattle.std.specs.Prelude.{◌≡◌, ◌≢◌, ℕ, ◌+◌, ◌<◌, ◌≤◌, ◌⊎◌, Bool, false, not, ◌==◌, List, length, Some, None, Result, Ok, Err}
use Rattle.sr_frame.specs.Frame.{HasFrameLength, least_len}
use Rattle.sr_hsr_tag.specs.Tagged.{IsTagged}
use Rattle.sr_hsr_tag.specs.declared.tag.HsrTag.{HsrTag}
use Rattle.sr_prp_trailer.specs.Trailed.{IsTrailed}
use Rattle.sr_prp_trailer.specs.declared.trailer.Lan.{Lan}
use Rattle.sr_prp_trailer.specs.declared.trailer.Trailer.{Trailer}
use Rattle.sr_forwarding.specs.declared.fault.ReadFault.{ReadFault}
use Rattle.sr_forwarding.specs.declared.fault.ReadFault.TheVariants.{TooShort, TooLong, Truncated, NotOwn, Untagged, NoMemory}
use Rattle.sr_forwarding.specs.declared.form.Form.TheVariants as form
use Rattle.sr_forwarding.specs.Limits.{longest_frame, longest_plain}
use Rattle.sr_forwarding.specs.Octets.{type_in}
use Rattle.sr_forwarding.specs.Parcels.{ParcelImage, plain_parcel}
use Rattle.sr_forwarding.specs.Framings.{FramingImage, Tagged, Trailed, Ordinary, lane_of, path_of}

-- a frame with this tag, which is a frame without it too
pub record IsTaggedParcel (octets : List ℕ) (p : ParcelImage) : Type 0 where
  pub plain : List ℕ
  pub tag : HsrTag
  pub tagged : IsTagged octets plain tag
  pub frame : HasFrameLength plain
  pub parcel : p ≡ record { form = form.Hsr; octets = octets; seq = Some tag.seq; path = tag.path; wrong_lan = false }

-- whether two LANs are one
abbrev pub same_lan : Lan → Lan → Bool
same_lan x y = lane_of x == lane_of y

-- a frame with a trailer, at a port of this LAN: its path is that of the port's LAN, also where the trailer names the other
pub record IsTrailedParcel (lan : Lan) (net : ℕ) (octets : List ℕ) (p : ParcelImage) : Type 0 where
  pub plain : List ℕ
  pub trailer : Trailer
  pub trailed : IsTrailed octets plain trailer
  pub frame : HasFrameLength octets
  pub parcel : p ≡ record {
    form = form.Prp;
    octets = octets;
    seq = Some trailer.seq;
    path = path_of lan net;
    wrong_lan = not (same_lan trailer.lan lan);
  }

-- the octets are no frame with a trailer behind it
abbrev pub HasNoTrailer : List ℕ → Type 0
HasNoTrailer octets = (plain : List ℕ) (t : Trailer) → IsTrailed octets plain t → ⊥

-- a frame without a number
pub record IsPlainParcel (octets : List ℕ) (p : ParcelImage) : Type 0 where
  pub frame : HasFrameLength octets
  pub parcel : p ≡ plain_parcel octets None

-- a frame of a SAN: without trailer, at a port of a node of a PRP network
pub record IsSanParcel (net : ℕ) (octets : List ℕ) (p : ParcelImage) : Type 0 where
  pub node : net ≡ 0
  pub alone : HasNoTrailer octets
  pub unnumbered : IsPlainParcel octets p

-- the octets are read as this parcel
abbrev pub IsRead : FramingImage → List ℕ → ParcelImage → Type 0
IsRead (Tagged path) octets p = IsTaggedParcel octets p
IsRead (Trailed lan net) octets p = IsTrailedParcel lan net octets p ⊎ IsSanParcel net octets p
IsRead Ordinary octets p = IsPlainParcel octets p × (length octets ≤ longest_plain)

-- the most octets of a frame at a port
abbrev pub longest : FramingImage → ℕ
longest (Tagged path) = longest_frame
longest (Trailed lan net) = longest_frame
longest Ordinary = longest_plain

-- why octets as they came are no frame of at most so many
abbrev pub IsNoFrame : ℕ → List ℕ → ReadFault → Type 0
IsNoFrame most octets TooShort = length octets < least_len octets
IsNoFrame most octets TooLong = most < length octets
IsNoFrame most octets Truncated = ⊥
IsNoFrame most octets NotOwn = ⊥
IsNoFrame most octets Untagged = ⊥
IsNoFrame most octets NoMemory = ⊥

-- the octets as they came are a frame of the port
pub record IsWhole (f : FramingImage) (octets : List ℕ) : Type 0 where
  pub least : least_len octets ≤ length octets
  pub most : length octets ≤ longest f

-- the frame has not what carries a number at this port, and needs it
abbrev pub LacksNumber : FramingImage → List ℕ → Type 0
LacksNumber (Tagged path) octets = type_in octets ≢ 0x892F
LacksNumber (Trailed lan net) octets = (0 < net) × HasNoTrailer octets
LacksNumber Ordinary octets = ⊥

-- the type says that a tag follows, and fewer than six octets do
abbrev pub IsCutShort : FramingImage → List ℕ → Type 0
IsCutShort (Tagged path) octets = (type_in octets ≡ 0x892F) × (length octets < least_len octets + 6)
IsCutShort (Trailed lan net) octets = ⊥
IsCutShort Ordinary octets = ⊥

-- without its tag it is no frame
pub record HasShortPlain (octets : List ℕ) : Type 0 where
  pub plain : List ℕ
  pub tag : HsrTag
  pub tagged : IsTagged octets plain tag
  pub short : length plain < least_len plain

abbrev pub IsShortInside : FramingImage → List ℕ → Type 0
IsShortInside (Tagged path) octets = HasShortPlain octets
IsShortInside (Trailed lan net) octets = ⊥
IsShortInside Ordinary octets = ⊥

-- why a frame is read as none with a tag
abbrev pub IsUntagged : List ℕ → ReadFault → Type 0
IsUntagged octets TooShort = HasShortPlain octets
IsUntagged octets TooLong = ⊥
IsUntagged octets Truncated = (type_in octets ≡ 0x892F) × (length octets < least_len octets + 6)
IsUntagged octets NotOwn = ⊥
IsUntagged octets Untagged = type_in octets ≢ 0x892F
IsUntagged octets NoMemory = ⊥

-- why octets are not read
abbrev pub IsUnread : FramingImage → List ℕ → ReadFault → Type 0
IsUnread f octets TooShort = ((length octets < least_len octets) ⊎ IsShortInside f octets)
IsUnread f octets TooLong = longest f < length octets
IsUnread f octets Truncated = IsWhole f octets × IsCutShort f octets
IsUnread f octets NotOwn = ⊥
IsUnread f octets Untagged = IsWhole f octets × LacksNumber f octets
IsUnread f octets NoMemory = ⊥

-- why octets are not made a parcel of its own: they are not read, or they are, and a growth was refused
abbrev pub IsUndecoded : FramingImage → List ℕ → ReadFault → Type 0
IsUndecoded f octets NoMemory = (p : ParcelImage) × IsRead f octets p
IsUndecoded f octets TooShort = IsUnread f octets TooShort
IsUndecoded f octets TooLong = IsUnread f octets TooLong
IsUndecoded f octets Truncated = IsUnread f octets Truncated
IsUndecoded f octets NotOwn = IsUnread f octets NotOwn
IsUndecoded f octets Untagged = IsUnread f octets Untagged

-- what a framing answers to octets: the parcel that they are, or why they are not read
abbrev pub Reads : FramingImage → List ℕ → Result ParcelImage ReadFault → Type 0
Reads f octets (Ok p) = IsRead f octets p
Reads f octets (Err fault) = IsUnread f octets fault
