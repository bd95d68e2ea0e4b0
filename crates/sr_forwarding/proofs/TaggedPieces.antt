-- A frame with a tag before its type, put together of two pieces.
use Rattle.std.proofs.Common.{◌≡◌, ℕ, ◌+◌, ◌*◌, ◌/◌, ◌%◌, ◌<◌, ◌≤◌, ◌^◌, List, [], ◌∷◌, ◌++◌, length, take, drop, get_or, None, sym, ap, subst, refl, ◌∙◌, arith}
use Rattle.std.specs.Int.{w16, to_be_bytes}
use Rattle.std.proofs.lemmas.List.{append-nil, append_assoc, length-append, length-take, length-drop, take-append-drop, take_at, drop_at, drop_all, get_or-drop}
use Rattle.sr_frame.specs.Frame.{Fields, IsLegal, AreOctets, head_of, least_len, padded, spelling}
use Rattle.sr_frame.specs.LengthLemmas.{least_len-spelling}
use Rattle.sr_sequence.specs.declared.Seq.{Seq}
use Rattle.sr_hsr_tag.specs.declared.tag.HsrTag.{HsrTag}
use Rattle.sr_hsr_tag.specs.Tagged.{IsTagged, tag_octets, octets_behind_type}
use borrow.Rule.Slice.PartMut.{put_mid}
use Rattle.sr_forwarding.proofs.TrailedPieces.{unpadded}

-- a part that is written behind the first
pub behind_first : (first zeros second : List ℕ) (n k : ℕ) → length first ≡ n → length zeros ≡ k → put_mid n k (first ++ zeros) second ≡ first ++ second
behind_first first zeros second n k long rest =
    let none : drop k (drop n (first ++ zeros)) ≡ [] = ap (drop k) (drop_at first zeros n long) ∙ drop_all k zeros (omega (arith, rest)) in
    ap (λ (l : List ℕ). l ++ (second ++ drop k (drop n (first ++ zeros)))) (take_at first zeros n long) ∙ ap (λ (l : List ℕ). first ++ (second ++ l)) none
    ∙ ap (λ (l : List ℕ). first ++ l) (append-nil second)

-- the first two octets spell a number
number_first : (l : List ℕ) → AreOctets l → 2 ≤ length l → (n : ℕ) × (n < 2 ^ 16) × (l ≡ to_be_bytes w16 n ++ drop 2 l)
number_first [] octets long = absurd (omega (arith, long))
number_first (x ∷ []) octets long = absurd (omega (arith, long))
number_first (x ∷ y ∷ l) octets long =
    let a : x < 256 = octets 0 in
    let b : y < 256 = octets 1 in
    let high : x ≡ (x * 256 + y) / 256 % 256 = omega (arith, a, b) in
    let low : y ≡ (x * 256 + y) % 256 = omega (arith, a, b) in
    (x * 256 + y, omega (arith, a, b), λ i. high i ∷ low i ∷ l)

abbrev tag : ℕ → ℕ → Seq → ℕ → HsrTag
tag path size seq inner = record { path = path; size = size; seq = seq; inner = inner }

-- what stands before the type, and the tag up to the type
abbrev pub front_of : List ℕ → ℕ → ℕ → Seq → List ℕ
front_of addresses path size seq = addresses ++ (to_be_bytes w16 0x892F ++ (to_be_bytes w16 (path * 4096 + size) ++ to_be_bytes w16 seq.0))

abbrev Anew : List ℕ → List ℕ → ℕ → Seq → Type 0
Anew whole plain path seq = (inner : ℕ) × IsTagged whole plain (tag path (octets_behind_type whole) seq inner) × (least_len whole ≡ least_len plain)

pub tagged_whole : (octets whole addresses behind : List ℕ) (path size : ℕ) (seq : Seq) → AreOctets octets → least_len octets ≡ 14 → 60 ≤ length octets → length octets + 6 ≤ 1524
    → path < 16 → seq.0 < 2 ^ 16 → addresses ≡ take 12 octets → behind ≡ drop 12 octets → size + 8 ≡ length octets
    → whole ≡ front_of addresses path size seq ++ behind → Anew whole (padded octets) path seq
tagged_whole octets whole addresses behind path size seq fits least long most path_fits seq_fits first second size_is is =
    let addresses_len : length addresses ≡ 12 = ap length first ∙ omega (arith, length-take 12 octets, long) in
    let behind_len : length behind + 12 ≡ length octets = omega (arith, ap length second, length-drop 12 octets, long) in
    let behind_fits : AreOctets behind = λ i. subst (λ (n : ℕ). n < 256) (sym (ap (λ (l : List ℕ). get_or l i 0) second ∙ get_or-drop 12 octets i 0)) (fits (12 + i)) in
    let number = number_first behind behind_fits (omega (arith, behind_len, long)) in
    let inner = number.0 in
    let rest = drop 2 behind in
    let t = tag path size seq inner in
    let g : Fields = record { dst = take 6 addresses; src = drop 6 addresses; vlan = None; ethertype = 0x892F; payload = tag_octets t ++ rest } in
    let head : head_of g ≡ addresses = append-nil (take 6 addresses ++ drop 6 addresses) ∙ take-append-drop 6 addresses in
    let middle = to_be_bytes w16 0x892F ++ (to_be_bytes w16 (path * 4096 + size) ++ to_be_bytes w16 seq.0) in
    let type_octets = to_be_bytes w16 inner in
    let spelled : whole ≡ spelling g =
    is ∙ append_assoc addresses middle behind ∙ ap (λ (l : List ℕ). addresses ++ (middle ++ l)) number.2
    ∙ ap (λ (l : List ℕ). l ++ (middle ++ (type_octets ++ rest))) (sym head)
    ∙ sym (append_assoc (head_of g) (to_be_bytes w16 0x892F) (tag_octets t ++ rest)) in
    let whole_len : length whole ≡ length octets + 6 =
    ap length is ∙ omega (arith, length-append (front_of addresses path size seq) behind, length-append addresses middle, addresses_len, behind_len) in
    let legal : IsLegal g = record {
      dst = omega (arith, length-take 6 addresses, addresses_len);
      src = omega (arith, length-drop 6 addresses, addresses_len);
      vlan = λ control e. absurd cc;
      ethertype = omega arith;
      untagged = λ _ e. absurd (omega (arith, e));
      size = omega (arith, ap length spelled, whole_len, most);
    } in
    let least_whole : least_len whole ≡ 14 =
    ap least_len spelled ∙ least_len-spelling g legal ∙ omega (arith, length-append (head_of g) (to_be_bytes w16 0x892F), ap length head, addresses_len) in
    let plain : octets ≡ head_of g ++ type_octets ++ rest =
    sym (take-append-drop 12 octets) ∙ ap (λ (l : List ℕ). l ++ drop 12 octets) (sym first) ∙ ap (λ (l : List ℕ). addresses ++ l) (sym second ∙ number.2)
    ∙ ap (λ (l : List ℕ). l ++ (type_octets ++ rest)) (sym head) ∙ sym (append_assoc (head_of g) type_octets rest) in
    let size_whole : size ≡ octets_behind_type whole = omega (arith, least_whole, whole_len, size_is) in
    let same = unpadded octets (omega (arith, least, long)) in
    let is_tagged : IsTagged whole (padded octets) t = record {
      fields = g;
      rest = rest;
      legal = legal;
      spelled = spelled;
      ethertype = refl;
      payload = refl;
      plain_is = same ∙ plain;
      tag = record { path = path_fits; size = omega (arith, size_is, most); seq = seq_fits; inner = number.1 };
    } in
    (inner, subst (λ n. IsTagged whole (padded octets) (tag path n seq inner)) size_whole is_tagged, least_whole ∙ sym (ap least_len same ∙ least))
