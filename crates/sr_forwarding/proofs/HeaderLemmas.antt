-- The header of a frame, by its fields, and by its octets in any form.
use Rattle.std.proofs.Common.{◌≡◌, ℕ, ◌+◌, ◌-◌, ◌≤◌, ◌&&◌, Bool, false, Option, sym, ap, subst, refl, ◌∙◌, arith, List, ◌++◌, length, take, drop}
use Rattle.std.proofs.lemmas.List.{take_at, drop_at, append_assoc, length-append, take-append-le, drop-append-le, length-drop}
use Rattle.std.specs.Int.{w16, to_be_bytes}
use Rattle.sr_frame.specs.Frame.{HasFrameLength, Fields, IsLegal, head_of, spelling, tag_of}
use Rattle.sr_frame.specs.Addresses.{mac_eq}
use Rattle.sr_frame.specs.View.{fields_of}
use Rattle.sr_frame.specs.declared.fields.FrameView.{FrameView}
use Rattle.sr_frame.specs.declared.fields.Mac.{Mac}
use Rattle.sr_sequence.specs.declared.Seq.{Seq}
use Rattle.sr_forwarding.specs.declared.form.Form.{Form}
use Rattle.sr_forwarding.specs.declared.form.Form.TheVariants.{Plain, Hsr, Prp}
use Rattle.sr_forwarding.specs.declared.header.Header.{Header}
use Rattle.sr_forwarding.specs.Headers.{header_in, header_of}
use Rattle.sr_forwarding.specs.Octets.{is_supervision, dst_in, src_in, plain_in}
use Rattle.sr_forwarding.specs.OctetLemmas.{dst_of_spelling, src_of_spelling, without_tag_is, without_trailer_is}
use Rattle.sr_forwarding.specs.Parcels.{ParcelImage, IsParcel, Carries}
use Rattle.sr_supervision.specs.Supervised.{supervision_address}

pub header_is : (v : FrameView) (b : Bool) (seq : Option Seq) (path : ℕ) → b ≡ is_supervision (spelling (fields_of v)) → (let h : Header = record { dst = v.dst; src = v.src; seq = seq; path = path; supervision = b; dst_known = false } in h ≡ header_in (spelling (fields_of v)) seq path)
header_is v b seq path says =
    let d : v.dst.0 ≡ take 6 (spelling (fields_of v)) = sym (dst_of_spelling (fields_of v) v.legal) in
    let s : v.src.0 ≡ take 6 (drop 6 (spelling (fields_of v))) = sym (src_of_spelling (fields_of v) v.legal) in
    λ j. record { dst = record { 0 = d j }; src = record { 0 = s j }; seq = seq; path = path; supervision = says j; dst_known = false }

-- two lists begin with the same addresses
pub record BeginAlike (xs ys : List ℕ) : Type 0 where
  pub dst : take 6 xs ≡ take 6 ys
  pub src : take 6 (drop 6 xs) ≡ take 6 (drop 6 ys)

-- what stands behind twelve octets or more plays no part
behind : (xs ys : List ℕ) → 12 ≤ length xs → BeginAlike (xs ++ ys) xs
behind xs ys long = record {
  dst = take-append-le 6 xs ys (omega (arith, long));
  src = ap (take 6) (drop-append-le 6 xs ys (omega (arith, long))) ∙ take-append-le 6 (drop 6 xs) ys (omega (arith, long, length-drop 6 xs));
}

head_long : (f : Fields) → IsLegal f → 12 ≤ length (head_of f)
head_long f legal = omega (arith, legal.dst, legal.src, length-append f.dst f.src, length-append (f.dst ++ f.src) (tag_of f.vlan))

-- frames with one head begin alike, whatever their types and payloads
heads : (f : Fields) (k l p q : List ℕ) → IsLegal f → BeginAlike ((head_of f ++ k) ++ p) ((head_of f ++ l) ++ q)
heads f k l p q legal =
    let long = head_long f legal in
    let one = behind (head_of f) (k ++ p) long in
    let two = behind (head_of f) (l ++ q) long in
    subst (λ o. BeginAlike o ((head_of f ++ l) ++ q)) (sym (append_assoc (head_of f) k p))
    (subst (BeginAlike (head_of f ++ (k ++ p))) (sym (append_assoc (head_of f) l q))
    (record { dst = one.dst ∙ sym two.dst; src = one.src ∙ sym two.src }))

long_enough : (xs : List ℕ) → HasFrameLength xs → 12 ≤ length xs
long_enough xs frame = grind (arith, frame.least)

-- the addresses stand at the front in every form
pub front : (form : Form) (octets : List ℕ) (seq : Option Seq) (path : ℕ) → HasFrameLength octets → Carries form octets seq path
    → BeginAlike (plain_in form octets) octets
front Plain octets seq path frame has = record { dst = refl; src = refl }
front Hsr octets seq path frame has =
    let f = has.tagged.fields in
    subst (λ o. BeginAlike o octets) (sym (without_tag_is octets has.plain has.tag has.tagged))
    (subst (λ o. BeginAlike o octets) (sym has.tagged.plain_is)
    (subst (BeginAlike _) (sym has.tagged.spelled)
    (heads f (to_be_bytes w16 has.tag.inner) (to_be_bytes w16 f.ethertype) has.tagged.rest f.payload has.tagged.legal)))
front Prp octets seq path frame has =
    let plain = has.plain in
    let alike = behind plain _ (long_enough plain has.trailed.frame) in
    subst (λ o. BeginAlike o octets) (sym (without_trailer_is octets plain has.trailer has.trailed))
    (subst (BeginAlike plain) (sym has.trailed.spelled) (record { dst = sym alike.dst; src = sym alike.src }))

false_and : (a b : Bool) → a ≡ false → (a && b) ≡ false
false_and a b e = rw e refl

-- the header of a parcel that does not go where supervision goes, by the addresses at the front of its octets
pub header_by_front : (p : ParcelImage) (dst src : Mac) → IsParcel p → dst ≡ dst_in p.octets → src ≡ src_in p.octets → mac_eq dst (record { 0 = supervision_address }) ≡ false
    → (let h : Header = record { dst = dst; src = src; seq = p.seq; path = p.path; supervision = false; dst_known = false } in h ≡ header_of p)
header_by_front p dst src is at_dst at_src other =
    let alike = front p.form p.octets p.seq p.path is.frame is.carries in
    let d : dst ≡ dst_in (plain_in p.form p.octets) = at_dst ∙ (λ j. record { 0 = sym alike.dst j }) in
    let s : src ≡ src_in (plain_in p.form p.octets) = at_src ∙ (λ j. record { 0 = sym alike.src j }) in
    let none : is_supervision (plain_in p.form p.octets) ≡ false = false_and _ _ (ap (λ (m : Mac). mac_eq m (record { 0 = supervision_address })) (sym d) ∙ other) in
    λ j. record { dst = d j; src = s j; seq = p.seq; path = p.path; supervision = sym none j; dst_known = false }
