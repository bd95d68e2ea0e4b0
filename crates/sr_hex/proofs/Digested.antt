-- Digits written for whole blocks of octets.
use Rattle.std.proofs.Common.{◌≡◌, ℕ, suc, ◌+◌, ◌-◌, ◌*◌, ◌/◌, ◌%◌, ◌<◌, ◌≤◌, List, [], ◌∷◌, ◌++◌, length, slice_index, refl, sym, ap, ◌∙◌, inl, inr, arith}
use Rattle.std.proofs.lemmas.Bool.{cases_lt}
use Rattle.std.proofs.lemmas.List.{get_or_append_left, get_or-append_right, get_or-drop, length-drop}
use lib.Seq.{get_or-take}
use Rattle.std.proofs.Common.{length-take, take, drop}
use Rattle.hex.specs.Hex.{encode_with, encode_lower}
use Rattle.sr_hex.specs.Lanes.{HasLanes}
use Rattle.sr_hex.specs.Values.{digit_of, AreWritten, AreKept}
use Rattle.sr_hex.proofs.Blocks.{Octets}

-- the lanes of two vectors, one behind the other
front_lane : (g : ℕ → ℕ) (xs ys : List ℕ) → HasLanes xs g → (j k : ℕ) → k < 16 → j ≡ k → slice_index (xs ++ ys) j ≡ g k
front_lane g xs ys hx j k lt e = ap (slice_index (xs ++ ys)) e ∙ get_or_append_left xs ys 0 k (omega (arith, hx.long)) ∙ hx.each k lt

back_lane : (g h : ℕ → ℕ) (xs ys : List ℕ) → HasLanes xs g → HasLanes ys h → (j k : ℕ) → k < 16 → j ≡ k + 16 → slice_index (xs ++ ys) j ≡ h k
back_lane g h xs ys hx hy j k lt e =
    let back : k + 16 - 16 ≡ k = omega arith in
    ap (slice_index (xs ++ ys)) e ∙ get_or-append_right xs ys 16 (k + 16) 0 hx.long (omega arith) ∙ ap (slice_index ys) back ∙ hy.each k lt

-- lanes in turn of the digits of the upper and the lower halves of eight octets
pub half_written : (octets digits high low first : List ℕ) (g : ℕ → ℕ) (at : ℕ)
    → HasLanes high (λ i. digit_of (g i / 16)) → HasLanes low (λ i. digit_of (g i % 16)) → ((k : ℕ) → k < 8 → g k ≡ slice_index octets (at + k))
    → HasLanes first (λ i. slice_index (high ++ low) (i / 2 + 16 * (i % 2))) → ((i : ℕ) → i < 16 → slice_index digits (2 * at + i) ≡ slice_index first i)
    → AreWritten octets digits at (at + 8)
half_written octets digits high low first g at hh hl from_octets hf one i from to =
    let k = i - at in
    let upper = λ (j : ℕ). digit_of (g j / 16) in
    let lower = λ (j : ℕ). digit_of (g j % 16) in
    let back : at + k ≡ i = omega arith in
    let is : g k ≡ slice_index octets i = from_octets k (omega arith) ∙ ap (slice_index octets) back in (
      ap (slice_index digits) (even i at from) ∙ one (2 * k) (omega arith) ∙ hf.each (2 * k) (omega arith)
          ∙ front_lane upper high low hh _ k (omega arith) (omega arith) ∙ ap (λ n. digit_of (n / 16)) is,
      ap (slice_index digits) (odd i at from) ∙ one (2 * k + 1) (omega arith) ∙ hf.each (2 * k + 1) (omega arith)
          ∙ back_lane upper lower high low hh hl _ k (omega arith) (omega arith) ∙ ap (λ n. digit_of (n % 16)) is,
    )
  where
    even : (i at : ℕ) → at ≤ i → 2 * i ≡ 2 * at + 2 * (i - at)
    even i at le = omega arith

    odd : (i at : ℕ) → at ≤ i → 2 * i + 1 ≡ 2 * at + (2 * (i - at) + 1)
    odd i at le = omega arith

-- lanes in turn of the digits of the upper and the lower halves
pub turns_written : (octets digits high low first last : List ℕ) (at : ℕ)
    → HasLanes high (λ i. digit_of (slice_index octets (at + i) / 16)) → HasLanes low (λ i. digit_of (slice_index octets (at + i) % 16))
    → HasLanes first (λ i. slice_index (high ++ low) (i / 2 + 16 * (i % 2))) → HasLanes last (λ i. slice_index (high ++ low) (8 + i / 2 + 16 * (i % 2)))
    → ((i : ℕ) → i < 16 → slice_index digits (2 * at + i) ≡ slice_index first i) → ((i : ℕ) → i < 16 → slice_index digits (2 * at + 16 + i) ≡ slice_index last i)
    → AreWritten octets digits at (at + 16)
turns_written octets digits high low first last at hh hl hf hb one two i from to =
    let k = i - at in
    let upper = λ (j : ℕ). digit_of (slice_index octets (at + j) / 16) in
    let lower = λ (j : ℕ). digit_of (slice_index octets (at + j) % 16) in
    let back : at + k ≡ i = omega arith in
    let upper_is : upper k ≡ digit_of (slice_index octets i / 16) = ap (λ j. digit_of (slice_index octets j / 16)) back in
    let lower_is : lower k ≡ digit_of (slice_index octets i % 16) = ap (λ j. digit_of (slice_index octets j % 16)) back in
    elim (cases_lt k 8) [
      | inl l ↦ half_written octets digits high low first (λ j. slice_index octets (at + j)) at hh hl (λ j lt. refl) hf one i from (omega arith)
      | inr g ↦ (
        ap (slice_index digits) (even_last i at (omega arith)) ∙ two (2 * k - 16) (omega arith) ∙ hb.each (2 * k - 16) (omega arith)
            ∙ front_lane upper high low hh _ k (omega arith) (omega arith) ∙ upper_is,
        ap (slice_index digits) (odd_last i at (omega arith)) ∙ two (2 * k - 15) (omega arith) ∙ hb.each (2 * k - 15) (omega arith)
            ∙ back_lane upper lower high low hh hl _ k (omega arith) (omega arith) ∙ lower_is,
      )
    ]
  where
    even_last : (i at : ℕ) → at + 8 ≤ i → 2 * i ≡ 2 * at + 16 + (2 * (i - at) - 16)
    even_last i at le = omega arith

    odd_last : (i at : ℕ) → at + 8 ≤ i → 2 * i + 1 ≡ 2 * at + 16 + (2 * (i - at) - 15)
    odd_last i at le = omega arith

-- all digits are written
pub written_whole : (octets digits : List ℕ) → Octets octets → length digits ≡ 2 * length octets → AreWritten octets digits 0 (length octets) → digits ≡ encode_lower octets
unfolding encode_with
written_whole [] [] fits twice h = refl
written_whole [] (d ∷ ds) fits twice h = absurd (omega arith)
written_whole (o ∷ os) [] fits twice h = absurd (omega arith)
written_whole (o ∷ os) (a ∷ []) fits twice h = absurd (omega arith)
written_whole (o ∷ os) (a ∷ b ∷ ds) fits twice h =
    let first = h 0 (omega arith) (omega arith) in
    let rest = written_whole os ds (λ k. fits (suc k)) (omega arith)
    (λ k low high.
    let e : 2 * suc k ≡ suc (suc (2 * k)) = omega arith in
    let e2 : 2 * suc k + 1 ≡ suc (suc (2 * k + 1)) = omega arith in
    let both = h (suc k) (omega arith) (omega arith) in
    (ap (slice_index (a ∷ b ∷ ds)) (sym e) ∙ both.0, ap (slice_index (a ∷ b ∷ ds)) (sym e2) ∙ both.1)) in
    (λ j. first.0 j ∷ first.1 j ∷ rest j)

-- a piece of octets stands at the front of a list
pub piece_lane : (octets piece rest : List ℕ) (at k : ℕ) → piece ≡ take (at + 8 - at) (drop at octets) → at + 8 ≤ length octets → k < 8
    → slice_index (piece ++ rest) (0 + k) ≡ slice_index octets (at + k)
piece_lane octets piece rest at k e inside lt =
    let same : 0 + k ≡ k = omega arith in
    ap (slice_index (piece ++ rest)) same
    ∙ get_or_append_left piece rest 0 k (omega (arith, ap length e, length-take (at + 8 - at) (drop at octets), length-drop at octets))
    ∙ ap (λ p. slice_index p k) e ∙ get_or-take (at + 8 - at) (drop at octets) k 0 (omega arith) ∙ get_or-drop at octets k 0

-- more octets behind those that are written
pub written_on : (octets old new : List ℕ) (at : ℕ) → AreWritten octets old 0 at → AreWritten octets new at (at + 16) → AreKept old new (2 * at)
    → AreWritten octets new 0 (at + 16)
written_on octets old new at so_far now kept i low high = elim (cases_lt i at) [
  | inl l ↦
      let both = so_far i low l in
      (kept (2 * i) (omega arith) ∙ both.0, kept (2 * i + 1) (omega arith) ∙ both.1)
  | inr g ↦ now i g high
]

-- the digits up to a place stay where more are written behind it
pub blocks_written : (octets before digits : List ℕ) (at last : ℕ) → Octets octets → length digits ≡ 2 * length octets → last + 16 ≡ length octets → last ≤ at
    → AreWritten octets before 0 at → AreWritten octets digits last (last + 16) → AreKept before digits (2 * last) → digits ≡ encode_lower octets
blocks_written octets before digits at last fits twice long past so_far now kept =
    written_whole octets digits fits twice (λ i low high. elim (cases_lt i last) [
      | inl l ↦
          let both = so_far i low (omega arith) in
          (kept (2 * i) (omega arith) ∙ both.0, kept (2 * i + 1) (omega arith) ∙ both.1)
      | inr g ↦ now i g (omega arith)
    ])

-- the same of eight and eight
pub halves_written : (octets before digits : List ℕ) → Octets octets → length digits ≡ 2 * length octets → length octets ≤ 16
    → AreWritten octets before 0 8 → AreWritten octets digits (length octets - 8) (length octets - 8 + 8) → AreKept before digits (2 * (length octets - 8))
    → digits ≡ encode_lower octets
halves_written octets before digits fits twice few first last kept =
    written_whole octets digits fits twice (λ i low high. elim (cases_lt i (length octets - 8)) [
      | inl l ↦
          let both = first i low (omega arith) in
          (kept (2 * i) (omega arith) ∙ both.0, kept (2 * i + 1) (omega arith) ∙ both.1)
      | inr g ↦ last i g (omega arith)
    ])
