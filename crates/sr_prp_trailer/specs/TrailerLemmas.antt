-- A frame has one trailer behind it.
use Rattle.std.proofs.Common.{◌≡◌, ℕ, ◌+◌, ◌*◌, ◌<◌, ◌≤◌, ◌^◌, List, [], ◌∷◌, ◌++◌, length, refl, sym, ap, ◌∙◌, arith}
use Rattle.std.specs.Int.{w16, to_be_bytes}
use Rattle.std.proofs.lemmas.List.{length-append}
use Rattle.sr_frame.specs.Frame.{HasFrameLength, least_len}
use Rattle.sr_frame.specs.FrameLemmas.{same_parts, number_once}
use Rattle.sr_frame.specs.LengthLemmas.{least_len_more, least_len_bounds}
use Rattle.sr_prp_trailer.specs.Trailed.{IsTrailed, trailer_octets, lan_id}
use Rattle.sr_prp_trailer.specs.declared.trailer.Lan.{Lan}
use Rattle.sr_prp_trailer.specs.declared.trailer.Lan.TheVariants.{A, B}
use Rattle.sr_prp_trailer.specs.declared.trailer.Trailer.{Trailer}

lan_small : (x : Lan) → lan_id x < 16
lan_small A = omega arith
lan_small B = omega arith

lan_once : (x y : Lan) → lan_id x ≡ lan_id y → x ≡ y
lan_once A A e = refl
lan_once B B e = refl
lan_once A B e = cc
lan_once B A e = cc

-- what a trailer says, by its six octets and its size
trailer_once : (t v : Trailer) → t.seq.0 < 2 ^ 16 → v.seq.0 < 2 ^ 16 → t.size < 4096 → t.size ≡ v.size → trailer_octets t ≡ trailer_octets v
    → t ≡ v
trailer_once t v tf vf small size e =
    let word : Trailer → List ℕ = λ t. to_be_bytes w16 (lan_id t.lan * 4096 + t.size) in
    let ends = same_parts (to_be_bytes w16 t.seq.0 ++ word t) (to_be_bytes w16 v.seq.0 ++ word v) (0x88 ∷ 0xFB ∷ []) (0x88 ∷ 0xFB ∷ []) refl
    e in
    let parts = same_parts (to_be_bytes w16 t.seq.0) (to_be_bytes w16 v.seq.0) (word t) (word v) refl ends.0 in
    let seq : t.seq.0 ≡ v.seq.0 = number_once t.seq.0 v.seq.0 tf vf parts.0 in
    let words : lan_id t.lan * 4096 + t.size ≡ lan_id v.lan * 4096 + v.size = number_once _ _ (omega (arith, lan_small t.lan, small))
    (omega (arith, lan_small v.lan, small, size)) parts.1 in
    let own : lan_id t.lan ≡ lan_id v.lan = omega (arith, words, size) in
    λ j. record { seq = record { 0 = seq j }; lan = lan_once t.lan v.lan own j; size = size j }

-- a frame with a trailer is parted in one way
pub trailed_once : (octets a b : List ℕ) (t v : Trailer) → IsTrailed octets a t → IsTrailed octets b v → (a ≡ b) × (t ≡ v)
trailed_once octets a b t v p q =
    let long : length octets ≡ length a + 6 = ap (λ (o : List ℕ). length o) p.spelled ∙ length-append a (trailer_octets t) in
    let along : length octets ≡ length b + 6 = ap (λ (o : List ℕ). length o) q.spelled ∙ length-append b (trailer_octets v) in
    let both = same_parts a b (trailer_octets t) (trailer_octets v) (omega (arith, long, along)) (sym p.spelled ∙ q.spelled) in
    let least : least_len a ≡ least_len b = ap (λ (o : List ℕ). least_len o) both.0 in
    (both.0, trailer_once t v p.seq q.seq (omega (arith, long, p.frame.most, p.size)) (omega (arith, p.size, q.size, least)) both.1)

-- a frame with a trailer is a frame, where it is not too long
pub trailed_frame : (octets plain : List ℕ) (t : Trailer) → IsTrailed octets plain t → length octets ≤ 1524 → HasFrameLength octets
trailed_frame octets plain t is most =
    let long = is.frame.least in
    let same : least_len octets ≡ least_len plain = ap least_len is.spelled ∙ least_len_more plain (trailer_octets t)
    (omega (arith, least_len_bounds plain, long)) in
    record { least = omega (arith, same, long, ap length is.spelled, length-append plain (trailer_octets t)); most = most }

-- a frame gets a trailer of this number and network in one way
pub trailed_anew_once : (octets others plain : List ℕ) (s t : Trailer) → IsTrailed octets plain s → IsTrailed others plain t →
    s.seq ≡ t.seq → s.lan ≡ t.lan → octets ≡ others
trailed_anew_once octets others plain s t a b seq lan =
    let long : length octets ≡ length plain + 6 = ap (λ (o : List ℕ). length o) a.spelled ∙ length-append plain (trailer_octets s) in
    let along : length others ≡ length plain + 6 = ap (λ (o : List ℕ). length o) b.spelled ∙ length-append plain (trailer_octets t) in
    let size : s.size ≡ t.size = omega (arith, long, along, a.size, b.size) in
    let same : s ≡ t = λ j. record { seq = seq j; lan = lan j; size = size j } in
    a.spelled ∙ ap (λ (u : Trailer). plain ++ trailer_octets u) same ∙ sym b.spelled
