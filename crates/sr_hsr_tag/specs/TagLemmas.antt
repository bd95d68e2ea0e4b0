-- A tag at the front of a payload, and a tag in a whole frame.
use Rattle.std.proofs.Common.{◌≡◌, ℕ, ◌+◌, ◌*◌, ◌≤◌, List, [], ◌++◌, length, take, drop, sym, ap, subst, refl, ◌∙◌, arith}
use Rattle.std.specs.Int.{w16, to_be_bytes}
use Rattle.std.proofs.lemmas.List.{length-append, take-append-drop}
use Rattle.sr_frame.specs.Frame.{Fields, IsLegal, head_of, least_len, spelling}
use Rattle.sr_frame.specs.LengthLemmas.{header_of, length-spelling, least_len-spelling}
use Rattle.sr_frame.specs.FrameLemmas.{same_parts, number_once, number_and_rest, spelled_once}
use Rattle.sr_hsr_tag.specs.declared.tag.HsrTag.{HsrTag}
use Rattle.sr_hsr_tag.specs.Tagged.{IsTag, IsTagged, tag_octets, with_type, octets_behind_type}

abbrev made : ℕ → ℕ → ℕ → ℕ → HsrTag
made path size seq inner = record { path = path; size = size; seq = record { 0 = seq }; inner = inner }

same_made : (a b c d k l m n : ℕ) → a ≡ k → b ≡ l → c ≡ m → d ≡ n → made a b c d ≡ made k l m n
same_made a b c d k l m n e1 e2 e3 e4 = cc

-- tags that six octets spell are one
pub tag_once : (s t : HsrTag) → IsTag s → IsTag t → tag_octets s ≡ tag_octets t → s ≡ t
tag_once s t fs ft e =
    let word = number_and_rest (s.path * 4096 + s.size) (t.path * 4096 + t.size) (to_be_bytes w16 s.seq.0 ++ to_be_bytes w16 s.inner)
    (to_be_bytes w16 t.seq.0 ++ to_be_bytes w16 t.inner) (omega (arith, fs.path, fs.size)) (omega (arith, ft.path, ft.size)) e in
    let seq = number_and_rest s.seq.0 t.seq.0 (to_be_bytes w16 s.inner) (to_be_bytes w16 t.inner) fs.seq ft.seq word.1 in
    let inner = number_and_rest s.inner t.inner [] [] fs.inner ft.inner seq.1 in
    same_made s.path s.size s.seq.0 s.inner t.path t.size t.seq.0 t.inner (omega (arith, fs.size, ft.size, word.0))
    (omega (arith, fs.size, ft.size, word.0)) seq.0 inner.0

-- where a frame is tagged, its own payload begins with the tag
pub tag_in_payload : (f : Fields) (plain : List ℕ) (t : HsrTag) → IsLegal f → IsTagged (spelling f) plain t →
    (rest : List ℕ) × (f.ethertype ≡ 0x892F) × (f.payload ≡ tag_octets t ++ rest) × (plain ≡ with_type f t.inner rest)
tag_in_payload f plain t legal is =
    let same : is.fields ≡ f = spelled_once is.fields f is.legal legal (sym is.spelled) in (
      is.rest,
      ap (λ (g : Fields). g.ethertype) (sym same) ∙ is.ethertype,
      ap (λ (g : Fields). g.payload) (sym same) ∙ is.payload,
      is.plain_is ∙ ap (λ (g : Fields). with_type g t.inner is.rest) same,
    )

-- a tagged frame has six octets behind its type
pub tagged_is_long : (f : Fields) (plain : List ℕ) (t : HsrTag) → IsLegal f → IsTagged (spelling f) plain t →
    (f.ethertype ≡ 0x892F) × (6 ≤ length f.payload)
tagged_is_long f plain t legal is =
    let at = tag_in_payload f plain t legal is in
    (at.1, omega (arith, ap length at.2, length-append (tag_octets t) at.0))

-- the tag that the first six octets spell is the tag, and what stands behind them is the rest
pub tag_at_front : (f : Fields) (front rest plain : List ℕ) (s t : HsrTag) → IsLegal f → front ≡ take 6 f.payload → rest ≡ drop 6 f.payload
    → front ≡ tag_octets s → IsTag s → IsTagged (spelling f) plain t → (s ≡ t) × (with_type f s.inner rest ≡ plain)
tag_at_front f front rest plain s t legal front_is rest_is spelled fits is =
    let at = tag_in_payload f plain t legal is in
    let split : tag_octets s ++ rest ≡ f.payload = ap (λ (l : List ℕ). l ++ rest) (sym spelled ∙ front_is) ∙ ap
    (λ (l : List ℕ). take 6 f.payload ++ l) rest_is ∙ take-append-drop 6 f.payload in
    let both = same_parts (tag_octets s) (tag_octets t) rest at.0 refl (split ∙ at.2) in
    let same : s ≡ t = tag_once s t fits is.tag both.0 in
    (same, ap (λ (u : HsrTag). with_type f u.inner rest) same ∙ ap (λ (l : List ℕ). with_type f t.inner l) both.1 ∙ sym at.3)

-- octets are tagged in one way
pub tagged_once : (octets plain others : List ℕ) (s t : HsrTag) → IsTagged octets plain s → IsTagged octets others t →
    (plain ≡ others) × (s ≡ t)
tagged_once octets plain others s t a b =
    let f = a.fields in
    let Tagged : List ℕ → Type 0 = λ o. IsTagged o others t in
    let at = tag_in_payload f others t a.legal (subst Tagged a.spelled b) in
    let both = same_parts (tag_octets s) (tag_octets t) a.rest at.0 refl (sym a.payload ∙ at.2) in
    let same : s ≡ t = tag_once s t a.tag b.tag both.0 in
    (a.plain_is ∙ ap (λ (u : HsrTag). with_type f u.inner a.rest) same ∙ ap (λ (l : List ℕ). with_type f t.inner l) both.1 ∙ sym at.3, same)

-- how long a tagged frame is, and what stands before its payload
lengths : (octets plain : List ℕ) (t : HsrTag) (is : IsTagged octets plain t) → (length octets ≡ length plain + 6)
    × (least_len octets ≡ length (head_of is.fields) + 2) × (length plain ≡ length (head_of is.fields) + 2 + length is.rest)
lengths octets plain t is =
    let f = is.fields in
    let header : length (header_of f) ≡ length (head_of f) + 2 = length-append (head_of f) (to_be_bytes w16 f.ethertype) in
    let payload : length f.payload ≡ 6 + length is.rest = ap length is.payload ∙ length-append (tag_octets t) is.rest in
    let plain_len : length plain ≡ length (head_of f) + 2 + length is.rest = ap length is.plain_is ∙ omega
    (arith, length-append (head_of f ++ to_be_bytes w16 t.inner) is.rest, length-append (head_of f) (to_be_bytes w16 t.inner)) in (
      ap length is.spelled ∙ omega (arith, length-spelling f, header, payload, plain_len),
      ap least_len is.spelled ∙ least_len-spelling f is.legal ∙ header,
      plain_len,
    )

-- a frame and a tag of the right size are spelled in one way
pub tagged_spelled_once : (octets others plain : List ℕ) (t : HsrTag) → IsTagged octets plain t → IsTagged others plain t →
    t.size ≡ octets_behind_type octets → t.size ≡ octets_behind_type others → octets ≡ others
tagged_spelled_once octets others plain t a b sized_a sized_b =
    let f = a.fields in
    let g = b.fields in
    let la = lengths octets plain t a in
    let lb = lengths others plain t b in
    let inner = to_be_bytes w16 t.inner in
    let heads_len : length (head_of f) ≡ length (head_of g) = omega (arith, la.0, la.1, la.2, lb.0, lb.1, lb.2, sized_a, sized_b) in
    let fronts_len : length (head_of f ++ inner)
    ≡ length (head_of g ++ inner) = omega (arith, length-append (head_of f) inner, length-append (head_of g) inner, heads_len) in
    let rests = same_parts (head_of f ++ inner) (head_of g ++ inner) a.rest b.rest fronts_len (sym a.plain_is ∙ b.plain_is) in
    let heads = same_parts (head_of f) (head_of g) inner inner heads_len rests.0 in
    let whole = λ (head payload : List ℕ) (ethertype : ℕ). head ++ to_be_bytes w16 ethertype ++ payload in
    a.spelled ∙ ap (λ (k : ℕ). whole (head_of f) f.payload k) a.ethertype ∙ ap (λ (p : List ℕ). whole (head_of f) p 0x892F) a.payload
    ∙ ap (λ (r : List ℕ). whole (head_of f) (tag_octets t ++ r) 0x892F) rests.1 ∙ ap
    (λ (h : List ℕ). whole h (tag_octets t ++ b.rest) 0x892F) heads.0
    ∙ sym (b.spelled ∙ ap (λ (k : ℕ). whole (head_of g) g.payload k) b.ethertype
    ∙ ap (λ (p : List ℕ). whole (head_of g) p 0x892F) b.payload)

-- tags before the type of one frame, at one place, have one inner type
placed_once : (octets others plain : List ℕ) (s t : HsrTag) → IsTagged octets plain s → IsTagged others plain t →
    least_len octets ≡ least_len others → s.inner ≡ t.inner
placed_once octets others plain s t a b place =
    let f = a.fields in
    let g = b.fields in
    let la = lengths octets plain s a in
    let lb = lengths others plain t b in
    let one = to_be_bytes w16 s.inner in
    let other = to_be_bytes w16 t.inner in
    let heads_len : length (head_of f) ≡ length (head_of g) = omega (arith, la.1, lb.1, place) in
    let fronts_len : length (head_of f ++ one)
    ≡ length (head_of g ++ other) = omega (arith, length-append (head_of f) one, length-append (head_of g) other, heads_len) in
    let rests = same_parts (head_of f ++ one) (head_of g ++ other) a.rest b.rest fronts_len (sym a.plain_is ∙ b.plain_is) in
    let heads = same_parts (head_of f) (head_of g) one other heads_len rests.0 in
    number_once s.inner t.inner a.tag.inner b.tag.inner heads.1

-- a frame gets a tag of this path and number, of the right size, at its type's place in one way
pub tagged_anew_once : (octets others plain : List ℕ) (s t : HsrTag) → IsTagged octets plain s → IsTagged others plain t →
    s.path ≡ t.path → s.seq.0 ≡ t.seq.0 → least_len octets ≡ least_len others →
    s.size ≡ octets_behind_type octets → t.size ≡ octets_behind_type others → octets ≡ others
tagged_anew_once octets others plain s t a b path seq place sized_a sized_b =
    let la = lengths octets plain s a in
    let lb = lengths others plain t b in
    let size : s.size ≡ t.size = omega (arith, la.0, lb.0, place, sized_a, sized_b) in
    let same : s ≡ t = same_made s.path s.size s.seq.0 s.inner t.path t.size t.seq.0 t.inner path size seq
    (placed_once octets others plain s t a b place) in
    tagged_spelled_once octets others plain t (subst (λ u. IsTagged octets plain u) same a) b (sym size ∙ sized_a) sized_b
