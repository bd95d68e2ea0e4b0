-- A trailer at the end of a payload, and a trailer at the end of a whole frame.
use Rattle.std.proofs.Common.{◌≡◌, ℕ, ◌+◌, ◌-◌, ◌<◌, ◌≤◌, ◌^◌, List, ◌++◌, length, take, drop, sym, ap, refl, ◌∙◌, arith}
use Rattle.std.specs.Prelude.{replicate, max}
use Rattle.std.proofs.lemmas.List.{append_assoc, length-append, take-append-drop, length-take}
use Rattle.sr_frame.specs.Frame.{Fields, IsLegal, least_len, spelling, padded}
use Rattle.sr_frame.specs.FrameLemmas.{same_parts}
use Rattle.sr_frame.specs.LengthLemmas.{header_of, with_payload, least_len_more, least_len_bounds, least_len-spelling, length-spelling, HasFrameLength-spelling, IsLegal-shorter, length-padded}
use Rattle.sr_sequence.specs.declared.Seq.{Seq}
use Rattle.sr_prp_trailer.specs.declared.trailer.Trailer.{Trailer}
use Rattle.sr_prp_trailer.specs.declared.trailer.Lan.{Lan}
use Rattle.sr_prp_trailer.specs.Trailed.{IsTrailed, trailer_octets}

-- a trailer behind a part of the payload is one behind the frame of that part
pub IsTrailed-payload : (f : Fields) (front : List ℕ) (t : Trailer) → IsLegal f → f.payload ≡ front ++ trailer_octets t → t.size ≡ length f.payload → t.seq.0 < 2 ^ 16 → IsTrailed (spelling f) (spelling (with_payload f front)) t
IsTrailed-payload f front t legal parts size seq =
    let short : length front ≤ length f.payload = omega (arith, length-append front (trailer_octets t), ap length parts) in
    let plain = IsLegal-shorter f front legal short in
    record {
      frame = HasFrameLength-spelling (with_payload f front) plain;
      spelled = rw parts (sym (append_assoc (header_of f) front (trailer_octets t)));
      size = omega (arith, size, least_len-spelling (with_payload f front) plain, length-spelling f);
      seq = seq;
    }

-- a trailer behind a frame stands at the end of the payload
pub payload_of_trailed : (f : Fields) (plain : List ℕ) (t : Trailer) → IsLegal f → IsTrailed (spelling f) plain t → (front : List ℕ) × (f.payload ≡ front ++ trailer_octets t) × (t.size ≡ length f.payload) × (plain ≡ spelling (with_payload f front))
payload_of_trailed f plain t legal is =
    let long : 14 ≤ length plain = omega (arith, is.frame.least, least_len_bounds plain) in
    let same : least_len plain ≡ length (header_of f) = sym (least_len_more plain (trailer_octets t) long) ∙ ap least_len (sym is.spelled) ∙ least_len-spelling f legal in
    let n = length (header_of f) in
    let head = take n plain in
    let front = drop n plain in
    let head_len : length head ≡ n = omega (arith, length-take n plain, is.frame.least, same) in
    let plain_is : head ++ front ≡ plain = take-append-drop n plain in
    let whole : head ++ (front ++ trailer_octets t) ≡ header_of f ++ f.payload = sym (append_assoc head front (trailer_octets t)) ∙ ap (λ (p : List ℕ). p ++ trailer_octets t) plain_is ∙ sym is.spelled in
    let both = same_parts head (header_of f) (front ++ trailer_octets t) f.payload head_len whole in
    (front, sym both.1, omega (arith, is.size, same, length-spelling f), sym plain_is ∙ ap (λ (p : List ℕ). p ++ front) both.0)

-- a payload that was split in two
pub parts_of_split : (payload front last : List ℕ) (n : ℕ) → front ≡ take n payload → last ≡ drop n payload → payload ≡ front ++ last
parts_of_split payload front last n a b = rw (a, b) (sym (take-append-drop n payload))

-- the last six octets of a frame with a trailer are that trailer
pub last_of_trailed : (f : Fields) (front last plain : List ℕ) (t : Trailer) → IsLegal f → f.payload ≡ front ++ last → length front + 6 ≡ length f.payload → IsTrailed (spelling f) plain t → (last ≡ trailer_octets t) × (t.size ≡ length f.payload) × (length f.payload < 4096) × (plain ≡ spelling (with_payload f front))
last_of_trailed f front last plain t legal parts sizes is =
    let at = payload_of_trailed f plain t legal is in
    let front_len : length front ≡ length at.0 = omega (arith, sizes, ap length at.1, length-append at.0 (trailer_octets t)) in
    let both = same_parts front at.0 last (trailer_octets t) front_len (sym parts ∙ at.1) in
    let bound : length f.payload < 4096 = omega (arith, legal.size, length-spelling f) in
    (both.1, at.2, bound, at.3 ∙ ap (λ (p : List ℕ). spelling (with_payload f p)) (sym both.0))

-- a padded frame with a trailer of its size behind it
pub IsTrailed-padded : (f : Fields) (octets : List ℕ) (t : Trailer) → IsLegal f → octets ≡ padded (spelling f) ++ trailer_octets t → length octets ≤ 1524 → t.seq.0 < 2 ^ 16 → t.size ≡ length octets - least_len (padded (spelling f)) → IsTrailed octets (padded (spelling f)) t
IsTrailed-padded f octets t legal parts most seq size =
    let frame = HasFrameLength-spelling f legal in
    let bounds = least_len_bounds (spelling f) in
    let zeros : List ℕ = replicate (least_len (spelling f) + 46 - length (spelling f)) 0 in
    let same : least_len (padded (spelling f)) ≡ least_len (spelling f) = least_len_more (spelling f) zeros (omega (arith, bounds, frame.least)) in
    let longer : length (padded (spelling f)) ≡ length (spelling f) + length zeros = length-append (spelling f) zeros in
    let whole : length octets ≡ length (padded (spelling f)) + 6 = ap length parts ∙ length-append (padded (spelling f)) (trailer_octets t) in
    record {
      frame = record { least = omega (arith, same, frame.least, longer); most = omega (arith, whole, most) };
      spelled = parts;
      size = omega (arith, size, same, frame.least, longer, whole);
      seq = seq;
    }

-- what is written behind a padded frame, by the number of octets counted before it is written
pub appended_is : (f : Fields) (own : List ℕ) (seq : Seq) (lan : Lan) (n : ℕ) → IsLegal f → n ≡ max (length f.payload) 46 → least_len (spelling f) + n + 6 ≤ 1524 → seq.0 < 2 ^ 16 → own ≡ padded (spelling f) ++ trailer_octets (record { seq = seq; lan = lan; size = n + 6 }) → IsTrailed own (padded (spelling f)) (record { seq = seq; lan = lan; size = length own - least_len (padded (spelling f)) })
appended_is f own seq lan n legal n_is most seq_fits own_is =
    let s = spelling f in
    let zeros : List ℕ = replicate (least_len s + 46 - length s) 0 in
    let s_len : length s ≡ least_len s + length f.payload = omega (arith, length-spelling f, least_len-spelling f legal) in
    let len : least_len s + n ≡ length (padded s) = length-padded f n legal n_is in
    let same : least_len (padded s) ≡ least_len s = least_len_more s zeros (omega (arith, least_len_bounds s, s_len)) in
    let own_len : length own ≡ length (padded s) + 6 = ap length own_is ∙ length-append (padded s) _ in
    let size_is : n + 6 ≡ length own - least_len (padded s) = omega (arith, len, own_len, same) in
    IsTrailed-padded f own (record { seq = seq; lan = lan; size = length own - least_len (padded s) }) legal
    (own_is ∙ ap (λ (k : ℕ). padded s ++ trailer_octets (record { seq = seq; lan = lan; size = k })) size_is)
    (omega (arith, len, own_len, most)) seq_fits refl
