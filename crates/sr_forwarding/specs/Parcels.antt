-- Parcels: frames on their way through a node.
use Rattle.std.specs.Prelude.{◌≡◌, ℕ, ◌<◌, Bool, List, Option, Some, false}
use Rattle.sr_frame.specs.Frame.{HasFrameLength}
use Rattle.sr_sequence.specs.declared.Seq.{Seq}
use Rattle.sr_hsr_tag.specs.Tagged.{IsTagged}
use Rattle.sr_hsr_tag.specs.declared.tag.HsrTag.{HsrTag}
use Rattle.sr_prp_trailer.specs.Trailed.{IsTrailed}
use Rattle.sr_prp_trailer.specs.declared.trailer.Trailer.{Trailer}
use Rattle.sr_forwarding.specs.declared.form.Form.{Form}
use Rattle.sr_forwarding.specs.declared.form.Form.TheVariants.{Plain, Hsr, Prp}
use Rattle.sr_forwarding.specs.Limits.{paths}
use Rattle.sr_forwarding.specs.Octets.{plain_in}

-- a parcel as data: how it carries its number, the whole frame in this form, the number if it has one, the path, and
-- whether its trailer named the other LAN than that of the port where it came in
pub record ParcelImage : Type 0 where
  pub form : Form
  pub octets : List ℕ
  pub seq : Option Seq
  pub path : ℕ
  pub wrong_lan : Bool

-- the octets have a tag with this number and path, and are a frame without it too
pub record HasTag (octets : List ℕ) (seq : Option Seq) (path : ℕ) : Type 0 where
  pub plain : List ℕ
  pub tag : HsrTag
  pub tagged : IsTagged octets plain tag
  pub frame : HasFrameLength plain
  pub seq_is : seq ≡ Some tag.seq
  pub path_is : path ≡ tag.path

-- the octets have a trailer with this number
pub record HasTrailer (octets : List ℕ) (seq : Option Seq) : Type 0 where
  pub plain : List ℕ
  pub trailer : Trailer
  pub trailed : IsTrailed octets plain trailer
  pub seq_is : seq ≡ Some trailer.seq

-- what carries the number says what the parcel says
abbrev pub Carries : Form → List ℕ → Option Seq → ℕ → Type 0
Carries Plain octets seq path = Unit {0}
Carries Hsr octets seq path = HasTag octets seq path
Carries Prp octets seq path = HasTrailer octets seq

-- the octets are a frame in this form, with this number and path
pub record IsParcel (p : ParcelImage) : Type 0 where
  pub frame : HasFrameLength p.octets
  pub carries : Carries p.form p.octets p.seq p.path
  pub path : p.path < paths

-- the plain form: the frame without what carries its number
abbrev pub plain_of : ParcelImage → List ℕ
plain_of p = plain_in p.form p.octets

-- the parcel in plain form; what it says stays
abbrev pub as_plain : ParcelImage → ParcelImage
as_plain p = record { form = Plain; octets = plain_of p; seq = p.seq; path = p.path; wrong_lan = p.wrong_lan }

-- a plain parcel with this number, or none
abbrev pub plain_parcel : List ℕ → Option Seq → ParcelImage
plain_parcel octets seq = record { form = Plain; octets = octets; seq = seq; path = 0; wrong_lan = false }

-- the parcel with this number in place of any it has
abbrev pub with_number : ParcelImage → Seq → ParcelImage
with_number p seq = record p { seq = Some seq }
