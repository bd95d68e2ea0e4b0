-- A parcel is written in one way, and want of memory is no reason of its own.
use Rattle.std.proofs.Common.{◌≡◌, ◌≢◌, ◌↔◌, ℕ, ◌⊎◌, Bool, true, false, List, length, Option, Some, None, refl, sym, ap, ◌∙◌, inl, inr}
use Rattle.std.specs.Prelude.{if◌then◌else◌, nat_lt}
use Rattle.sr_sequence.specs.declared.Seq.{Seq}
use Rattle.sr_hsr_tag.specs.TagLemmas.{tagged_anew_once}
use Rattle.sr_prp_trailer.specs.TrailerLemmas.{trailed_anew_once}
use Rattle.sr_prp_trailer.specs.declared.trailer.Lan.{Lan}
use Rattle.sr_prp_trailer.specs.declared.trailer.Trailer.{Trailer}
use Rattle.sr_forwarding.specs.declared.fault.ReadFault.{ReadFault}
use Rattle.sr_forwarding.specs.declared.fault.ReadFault.TheVariants.{TooLong, NoMemory}
use Rattle.sr_forwarding.specs.declared.form.Form.{Form}
use Rattle.sr_forwarding.specs.declared.form.Form.TheVariants.{Plain, Hsr, Prp}
use Rattle.sr_forwarding.specs.Limits.{longest_plain}
use Rattle.sr_forwarding.specs.Parcels.{ParcelImage}
use Rattle.sr_forwarding.specs.Framings.{FramingImage, Tagged, Trailed, Ordinary}
use Rattle.sr_forwarding.specs.Decoding.{IsRead, IsTrailedParcel, IsSanParcel}
use Rattle.sr_forwarding.specs.Encoding.{IsTaggedAnew, IsTrailedAnew, IsWritten, number_fault, write_fault_in, write_fault, or_no_memory, padded_plain}

same_number : (p : ParcelImage) (s t : Seq) → p.seq ≡ Some s → p.seq ≡ Some t → s.0 ≡ t.0
same_number p s t a b = let same : Some s ≡ Some t = sym a ∙ b in cc

new_tag_once : (path : ℕ) (p : ParcelImage) (a b : List ℕ) → IsTaggedAnew path p a → IsTaggedAnew path p b → a ≡ b
new_tag_once path p a b x y =
    tagged_anew_once a b (padded_plain p) x.tag y.tag x.tagged y.tagged (x.path_is ∙ sym y.path_is) (same_number p x.tag.seq y.tag.seq x.seq y.seq)
    (x.place ∙ sym y.place) x.size y.size

same_seq : (s t : Seq) → s.0 ≡ t.0 → s ≡ t
same_seq s t e = λ j. record { 0 = e j }

new_trailer_once : (lan : Lan) (p : ParcelImage) (a b : List ℕ) → IsTrailedAnew lan p a → IsTrailedAnew lan p b → a ≡ b
new_trailer_once lan p a b x y =
    let s : Trailer = record { seq = x.seq; lan = lan; size = x.size } in
    let t : Trailer = record { seq = y.seq; lan = lan; size = y.size } in
    trailed_anew_once a b (padded_plain p) s t x.trailed y.trailed (same_seq x.seq y.seq (same_number p x.seq y.seq x.seq_is y.seq_is)) refl

in_form_once : (f : FramingImage) (form : Form) (p : ParcelImage) (a b : List ℕ) → IsWritten f form p a → IsWritten f form p b → a ≡ b
in_form_once (Tagged path) Plain p a b x y = new_tag_once path p a b x y
in_form_once (Tagged path) Hsr p a b x y = x ∙ sym y
in_form_once (Tagged path) Prp p a b x y = new_tag_once p.path p a b x y
in_form_once (Trailed lan net) Plain p a b x y = new_trailer_once lan p a b x y
in_form_once (Trailed lan net) Hsr p a b x y = new_trailer_once lan p a b x y
in_form_once (Trailed lan net) Prp p a b x y = x ∙ sym y
in_form_once Ordinary form p a b x y = x ∙ sym y

pub written_once : (f : FramingImage) (p : ParcelImage) (a b : List ℕ) → IsWritten f p.form p a → IsWritten f p.form p b → a ≡ b
written_once f p a b x y = in_form_once f p.form p a b x y

in_lan_whole : (lan : Lan) (net : ℕ) (octets : List ℕ) (p : ParcelImage) → (IsTrailedParcel lan net octets p ⊎ IsSanParcel net octets p) → p.octets ≡ octets
in_lan_whole lan net octets p (inl a) = ap (λ (q : ParcelImage). q.octets) a.parcel
in_lan_whole lan net octets p (inr a) = ap (λ (q : ParcelImage). q.octets) a.unnumbered.parcel

pub read_whole : (f : FramingImage) (octets : List ℕ) (p : ParcelImage) → IsRead f octets p → p.octets ≡ octets
read_whole (Tagged path) octets p a = ap (λ (q : ParcelImage). q.octets) a.parcel
read_whole (Trailed lan net) octets p a = in_lan_whole lan net octets p a
read_whole Ordinary octets p a = ap (λ (q : ParcelImage). q.octets) a.0.parcel

too_long : (b : Bool) → (if b then Some TooLong else None) ≢ Some NoMemory
too_long true is = cc
too_long false is = cc

number : (p : ParcelImage) (s : Option Seq) → number_fault p s ≢ Some NoMemory
number p None is = cc
number p (Some seq) is = too_long (nat_lt longest_plain (length (padded_plain p))) is

in_form_no_memory : (f : FramingImage) (form : Form) (p : ParcelImage) → write_fault_in f form p ≢ Some NoMemory
in_form_no_memory (Tagged path) Plain p is = number p p.seq is
in_form_no_memory (Tagged path) Hsr p is = cc
in_form_no_memory (Tagged path) Prp p is = number p p.seq is
in_form_no_memory (Trailed lan net) Plain p is = number p p.seq is
in_form_no_memory (Trailed lan net) Hsr p is = number p p.seq is
in_form_no_memory (Trailed lan net) Prp p is = cc
in_form_no_memory Ordinary form p is = cc

pub never_no_memory : (f : FramingImage) (p : ParcelImage) → write_fault f p ≢ Some NoMemory
never_no_memory f p is = in_form_no_memory f p.form p is

from_memory : (o : Option ReadFault) → o ≢ Some NoMemory → or_no_memory o ≡ NoMemory → o ≡ None
from_memory None bare is = refl
from_memory (Some e) bare is = absurd (bare (ap (λ x. Some x) is))

pub memory_tells : (f : FramingImage) (p : ParcelImage) (e : ReadFault) → e ≡ or_no_memory (write_fault f p) → (e ≡ NoMemory) ↔ (write_fault f p ≡ None)
memory_tells f p e is = (
  λ memory. from_memory (write_fault f p) (never_no_memory f p) (sym is ∙ memory),
  λ none. is ∙ ap or_no_memory none,
)
