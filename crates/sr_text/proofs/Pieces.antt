-- The digits of octets that stand in two pieces.
use Rattle.std.proofs.Common.{◌≡◌, ◌/◌, ◌%◌, ◌++◌, List, [], ◌∷◌, ℕ, length, slice_index, refl, sym, ap, ◌∙◌, append_assoc, arith}
use Rattle.std.proofs.lemmas.List.{append-nil}
use Rattle.hex.specs.Hex.{encode_with, encode_lower, lower_digits}

digits_behind : (table front behind : List ℕ) → encode_with table (front ++ behind) ≡ encode_with table front ++ encode_with table behind
unfolding encode_with
digits_behind table [] behind = refl
digits_behind table (octet ∷ front) behind =
    ap (λ (digits : List ℕ). slice_index table (octet / 16) ∷ slice_index table (octet % 16) ∷ digits) (digits_behind table front behind)

-- a line, piece by piece
pub line_of_pieces : (old start front behind one two three line : List ℕ) → one ≡ old ++ start → two ≡ one ++ encode_lower front
    → three ≡ two ++ encode_lower behind → line ≡ three ++ 10 ∷ [] → line ≡ old ++ (start ++ encode_lower (front ++ behind) ++ 10 ∷ [])
line_of_pieces old start front behind one two three line is1 is2 is3 is =
    let digits = encode_lower front ++ encode_lower behind in
    let both : three ≡ (old ++ start) ++ digits =
    is3 ∙ ap (λ (t : List ℕ). t ++ encode_lower behind) (is2 ∙ ap (λ (t : List ℕ). t ++ encode_lower front) is1)
    ∙ append_assoc (old ++ start) (encode_lower front) (encode_lower behind) in
    let whole : line ≡ (old ++ (start ++ digits)) ++ 10 ∷ [] = is ∙ ap (λ (t : List ℕ). t ++ 10 ∷ []) (both ∙ append_assoc old start digits) in
    let parts : (old ++ (start ++ digits)) ++ 10 ∷ [] ≡ old ++ ((start ++ digits) ++ 10 ∷ []) = append_assoc old (start ++ digits) (10 ∷ []) in
    whole ∙ parts ∙ ap (λ (t : List ℕ). old ++ ((start ++ t) ++ 10 ∷ [])) (sym (digits_behind lower_digits front behind))

-- of no octets there are no digits
pub no_digits : (text octets : List ℕ) → length octets ≡ 0 → text ≡ text ++ encode_lower octets
unfolding encode_with
no_digits text [] none = sym (append-nil text)
no_digits text (octet ∷ octets) none = absurd (omega arith)
