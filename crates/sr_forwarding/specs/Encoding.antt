-- What octets a parcel is written as, by the framing of the outlet.
use Rattle.std.specs.Prelude.{◌≡◌, ℕ, nat_lt, List, ◌++◌, length, Option, Some, None, if◌then◌else◌}
use Rattle.sr_frame.specs.Frame.{HasFrameLength, least_len, padded}
use Rattle.sr_sequence.specs.declared.Seq.{Seq}
use Rattle.sr_hsr_tag.specs.Tagged.{IsTagged, octets_behind_type}
use Rattle.sr_hsr_tag.specs.declared.tag.HsrTag.{HsrTag}
use Rattle.sr_prp_trailer.specs.Trailed.{IsTrailed}
use Rattle.sr_prp_trailer.specs.declared.trailer.Lan.{Lan}
use Rattle.sr_forwarding.specs.declared.fault.ReadFault.{ReadFault}
use Rattle.sr_forwarding.specs.declared.fault.ReadFault.TheVariants.{TooLong, Untagged, NoMemory}
use Rattle.sr_forwarding.specs.declared.form.Form.{Form}
use Rattle.sr_forwarding.specs.declared.form.Form.TheVariants.{Plain, Hsr, Prp}
use Rattle.sr_forwarding.specs.Limits.{longest_plain}
use Rattle.sr_forwarding.specs.Octets.{plain_in}
use Rattle.sr_forwarding.specs.Parcels.{ParcelImage, plain_of}
use Rattle.sr_forwarding.specs.Framings.{FramingImage, Tagged, Trailed, Ordinary}

-- the plain form with zeros up to the least frame of Ethernet, which is what gets a tag or a trailer anew
abbrev pub padded_plain : ParcelImage → List ℕ
padded_plain p = padded (plain_of p)

-- a tag with this number and path stands before the type, at the place of the type without it, behind a VLAN tag where there is one; its
-- size counts what stands behind the type 0x892F
pub record IsTaggedAnew (path : ℕ) (p : ParcelImage) (octets : List ℕ) : Type 0 where
  pub tag : HsrTag
  pub tagged : IsTagged octets (padded_plain p) tag
  pub seq : p.seq ≡ Some tag.seq
  pub path_is : tag.path ≡ path
  pub size : tag.size ≡ octets_behind_type octets
  pub place : least_len octets ≡ least_len (padded_plain p)

-- a trailer with this number and LAN stands behind
pub record IsTrailedAnew (lan : Lan) (p : ParcelImage) (octets : List ℕ) : Type 0 where
  pub seq : Seq
  pub size : ℕ
  pub trailed : IsTrailed octets (padded_plain p) (record { seq = seq; lan = lan; size = size })
  pub seq_is : p.seq ≡ Some seq

-- The octets that a parcel is written as. The framing's own form stays as it is. A tag and a trailer are written anew, with the plain form
-- padded: in HSR with the framing's path where it was plain, and with the parcel's where it came from a LAN. An ordinary port writes
-- the plain form as it is.
abbrev pub IsWritten : FramingImage → Form → ParcelImage → List ℕ → Type 0
IsWritten (Tagged path) Plain p octets = IsTaggedAnew path p octets
IsWritten (Tagged path) Hsr p octets = octets ≡ p.octets
IsWritten (Tagged path) Prp p octets = IsTaggedAnew p.path p octets
IsWritten (Trailed lan net) Plain p octets = IsTrailedAnew lan p octets
IsWritten (Trailed lan net) Hsr p octets = IsTrailedAnew lan p octets
IsWritten (Trailed lan net) Prp p octets = octets ≡ p.octets
IsWritten Ordinary form p octets = octets ≡ plain_in form p.octets

-- why a parcel that is written anew with its number is not written
abbrev pub number_fault : ParcelImage → Option Seq → Option ReadFault
number_fault p None = Some Untagged
number_fault p (Some seq) = if nat_lt longest_plain (length (padded_plain p)) then Some TooLong else None

-- why a parcel is not written
abbrev pub write_fault_in : FramingImage → Form → ParcelImage → Option ReadFault
write_fault_in (Tagged path) Plain p = number_fault p p.seq
write_fault_in (Tagged path) Hsr p = None
write_fault_in (Tagged path) Prp p = number_fault p p.seq
write_fault_in (Trailed lan net) Plain p = number_fault p p.seq
write_fault_in (Trailed lan net) Hsr p = number_fault p p.seq
write_fault_in (Trailed lan net) Prp p = None
write_fault_in Ordinary form p = None

abbrev pub write_fault : FramingImage → ParcelImage → Option ReadFault
write_fault f p = write_fault_in f p.form p

-- the fault, or want of memory where there is none
abbrev pub or_no_memory : Option ReadFault → ReadFault
or_no_memory None = NoMemory
or_no_memory (Some fault) = fault

-- the list grew by octets of which this holds, and which are a frame
pub record Grows (P : List ℕ → Type 0) (old new : List ℕ) : Type 0 where
  pub written : List ℕ
  pub is_written : P written
  pub frame : HasFrameLength written
  pub appended : new ≡ old ++ written

-- the list grew by the octets that the parcel is written as
abbrev pub Appends : FramingImage → ParcelImage → List ℕ → List ℕ → Type 0
Appends f p old new = Grows (IsWritten f p.form p) old new
