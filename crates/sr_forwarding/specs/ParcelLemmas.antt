-- What the parts of a parcel say of its plain form.
use Rattle.std.proofs.Common.{ℕ, List, Option, Some, false, refl, subst, sym}
use Rattle.sr_frame.specs.Frame.{Fields, IsLegal, IsFrame, HasFrameLength, spelling}
use Rattle.sr_frame.specs.LengthLemmas.{HasFrameLength-spelling}
use Rattle.sr_hsr_tag.specs.Tagged.{IsTagged}
use Rattle.sr_hsr_tag.specs.declared.tag.HsrTag.{HsrTag}
use Rattle.sr_sequence.specs.declared.Seq.{Seq}
use Rattle.sr_forwarding.specs.declared.form.Form.{Form}
use Rattle.sr_forwarding.specs.declared.form.Form.TheVariants.{Plain, Hsr, Prp}
use Rattle.sr_forwarding.specs.Octets.{plain_in}
use Rattle.sr_forwarding.specs.OctetLemmas.{without_tag_is, without_trailer_is}
use Rattle.sr_forwarding.specs.Parcels.{ParcelImage, IsParcel, Carries, as_plain}

plain_frame : (form : Form) (octets : List ℕ) (seq : Option Seq) (path : ℕ) → HasFrameLength octets → Carries form octets seq path →
    HasFrameLength (plain_in form octets)
plain_frame Plain octets seq path frame carries = frame
plain_frame Hsr octets seq path frame carries =
    subst HasFrameLength (sym (without_tag_is octets carries.plain carries.tag carries.tagged)) carries.frame
plain_frame Prp octets seq path frame carries =
    subst HasFrameLength (sym (without_trailer_is octets carries.plain carries.trailer carries.trailed)) carries.trailed.frame

-- a parcel in plain form is a parcel
pub as_plain_is_parcel : (p : ParcelImage) → IsParcel p → IsParcel (as_plain p)
as_plain_is_parcel p is = record {
  frame = plain_frame p.form p.octets p.seq p.path is.frame is.carries;
  carries = tt;
  path = is.path;
}

-- a frame whose tag was taken out is a parcel
pub tagged_is_parcel : (octets : List ℕ) (f g : Fields) (t : HsrTag) → IsFrame octets f → IsLegal g → IsTagged octets (spelling g) t →
    IsParcel (record { form = Hsr; octets = octets; seq = Some t.seq; path = t.path; wrong_lan = false })
tagged_is_parcel octets f g t is legal tagged = record {
  frame = subst HasFrameLength (sym is.spelled) (HasFrameLength-spelling f is.legal);
  carries = record { plain = spelling g; tag = t; tagged = tagged; frame = HasFrameLength-spelling g legal; seq_is = refl; path_is = refl };
  path = tagged.tag.path;
}
