-- A frame with a trailer or a tag, put together of pieces.
use Rattle.std.proofs.Common.{◌≡◌, ℕ, ◌+◌, ◌-◌, ◌<◌, ◌≤◌, ◌^◌, List, [], ◌∷◌, ◌++◌, length, take, drop, slice_index_or, sym, ap, subst, refl, ◌∙◌, arith}
use Rattle.std.specs.Prelude.{replicate}
use Rattle.std.proofs.lemmas.List.{append-nil, append_assoc, length-append, take-append-drop}
use Rattle.sr_frame.specs.Frame.{HasFrameLength, least_len, padded}
use Rattle.sr_prp_trailer.specs.declared.trailer.Trailer.{Trailer}
use Rattle.sr_prp_trailer.specs.Trailed.{IsTrailed, trailer_octets}

-- a frame that is long enough is padded with nothing
pub unpadded : (octets : List ℕ) → least_len octets + 46 ≤ length octets → padded octets ≡ octets
unpadded octets long =
    let none : least_len octets + 46 - length octets ≡ 0 = omega (arith, long) in
    ap (λ (n : ℕ). octets ++ replicate n 0) none ∙ append-nil octets

pub two_octets : (l : List ℕ) → length l ≡ 2 → l ≡ slice_index_or l 0 0 ∷ slice_index_or l 1 0 ∷ []
two_octets [] e = absurd (omega (arith, e))
two_octets (x ∷ []) e = absurd (omega (arith, e))
two_octets (x ∷ y ∷ []) e = refl
two_octets (x ∷ y ∷ z ∷ l) e = absurd (omega (arith, e))

-- a trailer behind a frame that needs no zeros
pub trailed_whole : (octets pieces : List ℕ) (t : Trailer) → HasFrameLength octets → least_len octets + 46 ≤ length octets → t.seq.0 < 2 ^ 16
    → t.size + least_len octets ≡ length octets + 6 → pieces ≡ octets ++ trailer_octets t → IsTrailed pieces (padded octets) t
trailed_whole octets pieces t frame long seq size is =
    subst (λ (plain : List ℕ). IsTrailed pieces plain t) (sym (unpadded octets long)) (record {
      frame = frame;
      spelled = is;
      size = omega (arith, size, ap length is, length-append octets (trailer_octets t));
      seq = seq;
    })

-- the last two octets of a frame, and the trailer behind them
pub in_two_pieces : (octets front last trailer : List ℕ) (n : ℕ) → front ≡ take n octets → last ≡ drop n octets → length last ≡ 2
    → front ++ slice_index_or last 0 0 ∷ slice_index_or last 1 0 ∷ trailer ≡ octets ++ trailer
in_two_pieces octets front last trailer n front_is last_is two =
    ap (λ (l : List ℕ). front ++ (l ++ trailer)) (sym (two_octets last two)) ∙ sym (append_assoc front last trailer)
    ∙ ap (λ (l : List ℕ). l ++ trailer) (ap (λ (l : List ℕ). l ++ last) front_is ∙ ap (λ (l : List ℕ). take n octets ++ l) last_is ∙ take-append-drop n octets)
