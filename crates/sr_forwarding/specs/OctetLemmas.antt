-- What stands where in the octets of a frame.
use Rattle.std.proofs.Common.{
  ◌≡◌,
  ℕ,
  ◌+◌,
  ◌-◌,
  ◌*◌,
  ◌≤◌,
  ◌<◌,
  ◌&&◌,
  Bool,
  true,
  false,
  IsTrue,
  ◌↔◌,
  nat_eq,
  List,
  ◌++◌,
  length,
  take,
  drop,
  sym,
  ap,
  subst,
  refl,
  ◌∙◌,
  arith,
  eqb-true,
  eq-eqb,
}
use Rattle.std.proofs.lemmas.Bool.{and_parts}
use lib.Pointwise.{pointwise_decides}
use Rattle.sr_supervision.specs.Supervised.{IsAddressed, supervision_address}
use Rattle.std.specs.Int.{w16, to_be_bytes, from_be_bytes}
use Rattle.std.proofs.lemmas.List.{take_at, drop_at, append_assoc, length-append}
use Rattle.std.proofs.lemmas.Nat.{from_be_bytes-to_be_bytes_2}
use Rattle.sr_frame.specs.Frame.{Fields, IsLegal, IsFrame, HasFrameLength, head_of, spelling, least_len, tag_of}
use Rattle.sr_frame.specs.FrameLemmas.{regrouped}
use Rattle.sr_frame.specs.LengthLemmas.{least_len-spelling, length-spelling, HasFrameLength-spelling}
use Rattle.sr_hsr_tag.specs.Tagged.{IsTagged, tag_octets}
use Rattle.sr_hsr_tag.specs.declared.tag.HsrTag.{HsrTag}
use Rattle.sr_prp_trailer.specs.Trailed.{IsTrailed, trailer_octets}
use Rattle.sr_prp_trailer.specs.declared.trailer.Trailer.{Trailer}
use Rattle.sr_forwarding.specs.Octets.{is_supervision, type_in, without_tag, without_trailer}

pub dst_of_spelling : (f : Fields) → IsLegal f → take 6 (spelling f) ≡ f.dst
dst_of_spelling f legal = ap (take 6) (regrouped f) ∙ take_at f.dst _ 6 legal.dst

pub src_of_spelling : (f : Fields) → IsLegal f → take 6 (drop 6 (spelling f)) ≡ f.src
src_of_spelling f legal =
    ap (λ o. take 6 (drop 6 o)) (regrouped f)
    ∙ ap (take 6) (drop_at f.dst (f.src ++ (tag_of f.vlan ++ (to_be_bytes w16 f.ethertype ++ f.payload))) 6 legal.dst)
    ∙ take_at f.src _ 6 legal.src

-- the type stands behind the head
head_len : (f : Fields) → IsLegal f → least_len (spelling f) - 2 ≡ length (head_of f)
head_len f legal =
    omega (arith, least_len-spelling f legal, length-append (head_of f) (to_be_bytes w16 f.ethertype))

pub type_of_spelling : (f : Fields) → IsLegal f → type_in (spelling f) ≡ f.ethertype
type_of_spelling f legal =
    let ethertype = to_be_bytes w16 f.ethertype in
    let at : drop (least_len (spelling f) - 2) (spelling f) ≡ ethertype ++ f.payload =
    ap (drop (least_len (spelling f) - 2)) (append_assoc (head_of f) ethertype f.payload)
    ∙ drop_at (head_of f) (ethertype ++ f.payload) (least_len (spelling f) - 2) (sym (head_len f legal)) in
    ap (λ o. from_be_bytes w16 (take 2 o)) at
    ∙ ap (from_be_bytes w16) (take_at ethertype f.payload 2 refl)
    ∙ from_be_bytes-to_be_bytes_2 f.ethertype legal.ethertype

nat_decides : (x y : ℕ) → (nat_eq x y ≡ true → x ≡ y) × (x ≡ y → nat_eq x y ≡ true)
nat_decides x y = (λ h. eqb-true x y h, λ h. eq-eqb x y h)

both_ways : (a b : Bool) → (a ≡ true → b ≡ true) → (b ≡ true → a ≡ true) → a ≡ b
both_ways true b h g = sym (h refl)
both_ways false true h g = g refl
both_ways false false h g = refl

both_true : (a b : Bool) → a ≡ true → b ≡ true → (a && b) ≡ true
both_true true true h g = refl
both_true true false h g = g
both_true false b h g = h

-- what says that a frame is addressed as supervision says the same of its octets
pub supervision_is : (f : Fields) (b : Bool) → IsLegal f → (IsTrue b ↔ IsAddressed f) → b ≡ is_supervision (spelling f)
supervision_is f b legal says =
    let dst = dst_of_spelling f legal in
    let ethertype = type_of_spelling f legal in
    let there = pointwise_decides nat_decides (take 6 (spelling f)) supervision_address in
    both_ways b (is_supervision (spelling f))
    (λ t. both_true _ _ (there.1 (dst ∙ (says.0 t).dst)) (eq-eqb (type_in (spelling f)) 0x88FB (ethertype ∙ (says.0 t).ethertype)))
    (λ t. let parts = and_parts _ _ t in
    says.1 (record { dst = sym dst ∙ there.0 parts.0; ethertype = sym ethertype ∙ eqb-true (type_in (spelling f)) 0x88FB parts.1 }))

-- a tagged frame, cut before its type and behind the tag
tagged_split : (head ethertype path_size seq inner rest : List ℕ) →
    (head ++ ethertype) ++ ((path_size ++ seq ++ inner) ++ rest) ≡ head ++ ((ethertype ++ path_size ++ seq) ++ (inner ++ rest))
tagged_split head ethertype path_size seq inner rest =
    append_assoc head ethertype ((path_size ++ seq ++ inner) ++ rest)
    ∙ ap (λ x. head ++ (ethertype ++ x)) (append_assoc (path_size ++ seq) inner rest ∙ append_assoc path_size seq (inner ++ rest))
    ∙ ap (λ x. head ++ x) (sym (append_assoc ethertype path_size (seq ++ (inner ++ rest))) ∙ sym
    (append_assoc (ethertype ++ path_size) seq (inner ++ rest)))

cut_out : (head middle tail : List ℕ) (a b : ℕ) → length head ≡ a → length middle ≡ 6 → b ≡ a + 6 →
    take a (head ++ (middle ++ tail)) ++ drop b (head ++ (middle ++ tail)) ≡ head ++ tail
cut_out head middle tail a b h m e =
    let behind : drop b (head ++ (middle ++ tail)) ≡ tail =
    ap (drop b) (sym (append_assoc head middle tail)) ∙ drop_at (head ++ middle) tail b (omega (arith, length-append head middle)) in
    ap (λ x. x ++ drop b (head ++ (middle ++ tail))) (take_at head (middle ++ tail) a h) ∙ ap (λ x. head ++ x) behind

-- a tagged frame without the tag is its plain form
pub without_tag_is : (octets plain : List ℕ) (t : HsrTag) → IsTagged octets plain t → without_tag octets ≡ plain
without_tag_is octets plain t is =
    let f = is.fields in
    let ethertype = to_be_bytes w16 f.ethertype in
    let inner = to_be_bytes w16 t.inner in
    let path_size = to_be_bytes w16 (t.path * 4096 + t.size) in
    let seq = to_be_bytes w16 t.seq.0 in
    let split : spelling f ≡ head_of f ++ ((ethertype ++ path_size ++ seq) ++ (inner ++ is.rest)) =
    ap (λ p. head_of f ++ ethertype ++ p) is.payload ∙ tagged_split (head_of f) ethertype path_size seq inner is.rest in
    ap without_tag is.spelled
    ∙ ap (λ o. take (least_len (spelling f) - 2) o ++ drop (least_len (spelling f) + 4) o) split
    ∙ cut_out (head_of f) (ethertype ++ path_size ++ seq) (inner ++ is.rest) (least_len (spelling f) - 2) (least_len (spelling f) + 4)
    (sym (head_len f is.legal)) refl (omega (arith, least_len-spelling f is.legal, length-append (head_of f) ethertype))
    ∙ sym (append_assoc (head_of f) inner is.rest)
    ∙ sym is.plain_is

-- a frame with a trailer, without the trailer, is its plain form
pub without_trailer_is : (octets plain : List ℕ) (t : Trailer) → IsTrailed octets plain t → without_trailer octets ≡ plain
without_trailer_is octets plain t is =
    let size : length octets ≡ length plain + 6 = ap length is.spelled ∙ length-append plain (trailer_octets t) in
    ap (take (length octets - 6)) is.spelled ∙ take_at plain (trailer_octets t) (length octets - 6) (omega (arith, size))

-- a frame's type, by its octets
pub type_of_frame : (octets : List ℕ) (f : Fields) → IsFrame octets f → type_in octets ≡ f.ethertype
type_of_frame octets f is = ap type_in is.spelled ∙ type_of_spelling f is.legal

-- fewer than six octets of payload, by the octets of the frame
pub short_payload : (octets : List ℕ) (f : Fields) → IsFrame octets f → length f.payload < 6 → length octets < least_len octets + 6
short_payload octets f is short =
    omega (arith, ap length is.spelled, ap least_len is.spelled, least_len-spelling f is.legal, length-spelling f, short)

-- a tag has six octets
pub tagged_len : (octets plain : List ℕ) (t : HsrTag) → IsTagged octets plain t → length octets ≡ length plain + 6
tagged_len octets plain t is =
    let head = head_of is.fields in
    omega (
      arith,
      ap length is.spelled,
      ap length is.plain_is,
      ap length is.payload,
      length-append (head ++ to_be_bytes w16 is.fields.ethertype) is.fields.payload,
      length-append head (to_be_bytes w16 is.fields.ethertype),
      length-append (tag_octets t) is.rest,
      length-append (head ++ to_be_bytes w16 t.inner) is.rest,
      length-append head (to_be_bytes w16 t.inner),
    )

-- a tagged frame is a frame of that type, with six octets behind it
pub tagged_frame : (octets plain : List ℕ) (t : HsrTag) → IsTagged octets plain t → HasFrameLength octets
tagged_frame octets plain t is = subst HasFrameLength (sym is.spelled) (HasFrameLength-spelling is.fields is.legal)

pub tagged_type : (octets plain : List ℕ) (t : HsrTag) → IsTagged octets plain t → type_in octets ≡ 0x892F
tagged_type octets plain t is = ap type_in is.spelled ∙ type_of_spelling is.fields is.legal ∙ is.ethertype

pub tagged_long : (octets plain : List ℕ) (t : HsrTag) → IsTagged octets plain t → least_len octets + 6 ≤ length octets
tagged_long octets plain t is =
    omega (
      arith,
      ap length is.spelled,
      ap least_len is.spelled,
      least_len-spelling is.fields is.legal,
      length-spelling is.fields,
      ap length is.payload,
      length-append (tag_octets t) is.rest,
    )
