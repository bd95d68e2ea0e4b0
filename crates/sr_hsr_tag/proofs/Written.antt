-- A tag written into a frame, with zeros behind it.
use Rattle.std.proofs.Common.{◌≡◌, ℕ, ◌+◌, ◌-◌, ◌<◌, ◌≤◌, ◌^◌, List, ◌++◌, length, take, ap, sym, subst, refl, ◌∙◌, arith}
use Rattle.std.specs.Prelude.{replicate, max}
use Rattle.std.specs.Int.{w16, to_be_bytes}
use Rattle.std.proofs.lemmas.List.{append_assoc, length-append, take_all, length-replicate}
use Rattle.sr_frame.specs.Frame.{Fields, IsLegal, head_of, spelling, least_len, padded}
use Rattle.sr_frame.specs.LengthLemmas.{header_of, length-spelling, least_len-spelling, least_len_more, least_len_bounds}
use Rattle.sr_sequence.specs.declared.Seq.{Seq}
use Rattle.sr_hsr_tag.specs.declared.tag.HsrTag.{HsrTag}
use Rattle.sr_hsr_tag.specs.Tagged.{IsTagged, tag_octets, octets_behind_type}

abbrev tag : ℕ → ℕ → Seq → ℕ → HsrTag
tag path size seq inner = record { path = path; size = size; seq = seq; inner = inner }

-- the fields of the tagged frame
abbrev tagged_fields : Fields → List ℕ → Fields
tagged_fields f payload = record f { ethertype = 0x892F; payload = payload }

legal_tagged : (f : Fields) (payload : List ℕ) → IsLegal f → length (header_of f) + length payload ≤ 1524 → IsLegal (tagged_fields f payload)
legal_tagged f payload legal most = record {
  dst = legal.dst;
  src = legal.src;
  vlan = legal.vlan;
  ethertype = omega arith;
  untagged = λ _ e. absurd (omega (arith, e));
  size = omega (arith, most, length-append (head_of f) (to_be_bytes w16 f.ethertype), length-append (head_of f) (to_be_bytes w16 0x892F), length-spelling (tagged_fields f payload));
}

-- what is written, resized to its size, is the padded frame with the tag in it
pub resized_is_tagged : (f : Fields) (own written : List ℕ) (path n h : ℕ) (seq : Seq) → IsLegal f → h ≡ least_len (spelling f) → n ≡ max (length f.payload) 46 + 6 → h + n ≤ 1524 → path < 16 → seq.0 < 2 ^ 16 → written ≡ head_of f ++ to_be_bytes w16 0x892F ++ (tag_octets (tag path n seq f.ethertype) ++ f.payload) → own ≡ take (h + n) written ++ replicate (h + n - length written) 0 → IsTagged own (padded (spelling f)) (tag path (octets_behind_type own) seq f.ethertype) × (least_len own ≡ least_len (padded (spelling f)))
resized_is_tagged f own written path n h seq legal h_is n_is most path_fits seq_fits written_is own_is =
    let t = tag path n seq f.ethertype in
    let head_len : length (head_of f) + 2 ≡ h = omega (arith, length-append (head_of f) (to_be_bytes w16 f.ethertype), least_len-spelling f legal, h_is) in
    let whole_len : length (spelling f) ≡ h + length f.payload = omega (arith, length-spelling f, least_len-spelling f legal, h_is) in
    let written_len : length written ≡ h + 6 + length f.payload = ap length written_is ∙ omega (arith, length-append (head_of f ++ to_be_bytes w16 0x892F) (tag_octets t ++ f.payload), length-append (head_of f) (to_be_bytes w16 0x892F), length-append (tag_octets t) f.payload, head_len) in
    let k = least_len (spelling f) + 46 - length (spelling f) in
    let zeros : List ℕ = replicate k 0 in
    let zeros_len : length zeros ≡ k = length-replicate k 0 in
    let count : h + n - length written ≡ k = omega (arith, written_len, n_is, whole_len, h_is) in
    let all : take (h + n) written ≡ written = take_all (h + n) written (omega (arith, written_len, n_is)) in
    let payload = tag_octets t ++ (f.payload ++ zeros) in
    let g = tagged_fields f payload in
    let payload_len : length payload ≡ n = omega (arith, length-append (tag_octets t) (f.payload ++ zeros), length-append f.payload zeros, zeros_len, n_is, whole_len, h_is) in
    let legal_g : IsLegal g = legal_tagged f payload legal (omega (arith, payload_len, head_len, length-append (head_of f) (to_be_bytes w16 f.ethertype), most)) in
    let front = head_of f ++ to_be_bytes w16 0x892F in
    let spelled : own ≡ spelling g =
    own_is ∙ ap (λ (l : List ℕ). l ++ replicate (h + n - length written) 0) (all ∙ written_is) ∙ ap (λ (j : ℕ). front ++ (tag_octets t ++ f.payload) ++ replicate j 0) count
    ∙ append_assoc front (tag_octets t ++ f.payload) zeros ∙ ap (λ (l : List ℕ). front ++ l) (append_assoc (tag_octets t) f.payload zeros) in
    let own_len : length own ≡ h + n = omega (arith, ap length spelled, length-spelling g, length-append (head_of f) (to_be_bytes w16 0x892F), head_len, payload_len) in
    let least : least_len own ≡ h = omega (arith, ap least_len spelled, least_len-spelling g legal_g, length-append (head_of f) (to_be_bytes w16 0x892F), head_len) in
    let size : n ≡ octets_behind_type own = omega (arith, own_len, least) in
    let is : IsTagged own (padded (spelling f)) t = record {
      fields = g;
      rest = f.payload ++ zeros;
      legal = legal_g;
      spelled = spelled;
      ethertype = refl;
      payload = refl;
      plain_is = append_assoc (header_of f) f.payload zeros;
      tag = record { path = path_fits; size = omega (arith, most); seq = seq_fits; inner = legal.ethertype };
    } in
    let Sized : ℕ → Type 0 = λ s. IsTagged own (padded (spelling f)) (tag path s seq f.ethertype) in
    let behind : least_len (padded (spelling f)) ≡ least_len (spelling f) = least_len_more (spelling f) zeros (omega (arith, whole_len, h_is, least_len_bounds (spelling f))) in
    (subst Sized size is, least ∙ h_is ∙ sym behind)

-- a list that is resized behind an old part
pub resized_behind : (old whole : List ℕ) (end n len : ℕ) → end ≡ length old + n → length whole ≤ n → len ≡ length (old ++ whole) → take end (old ++ whole) ++ replicate (end - len) 0 ≡ old ++ (take n whole ++ replicate (n - length whole) 0)
resized_behind old whole end n len end_is fits len_is =
    let both : length (old ++ whole) ≡ length old + length whole = length-append old whole in
    let all : take end (old ++ whole) ≡ old ++ whole = take_all end (old ++ whole) (omega (arith, both, end_is, fits)) in
    let mine : whole ≡ take n whole = sym (take_all n whole fits) in
    let count : end - len ≡ n - length whole = omega (arith, len_is, both, end_is) in
    ap (λ (l : List ℕ). l ++ replicate (end - len) 0) all
    ∙ ap (λ (k : ℕ). old ++ whole ++ replicate k 0) count
    ∙ append_assoc old whole (replicate (n - length whole) 0)
    ∙ ap (λ (l : List ℕ). old ++ (l ++ replicate (n - length whole) 0)) mine

-- how long a frame is with a tag in it
pub length-tagged : (f : Fields) (t : HsrTag) → IsLegal f → length (head_of f ++ to_be_bytes w16 0x892F ++ (tag_octets t ++ f.payload)) ≡ least_len (spelling f) + 6 + length f.payload
length-tagged f t legal =
    omega (arith, length-append (head_of f ++ to_be_bytes w16 0x892F) (tag_octets t ++ f.payload), length-append (head_of f) (to_be_bytes w16 0x892F), length-append (tag_octets t) f.payload, least_len-spelling f legal, length-append (head_of f) (to_be_bytes w16 f.ethertype))
