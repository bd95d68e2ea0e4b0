-- Bits of words, and of two words that are taken at once.
use Rattle.std.proofs.Common.{◌≡◌, ℕ, ◌+◌, ◌*◌, ◌-◌, ◌/◌, ◌%◌, ◌^◌, ◌<◌, ◌≤◌, Bool, true, false, cond, eqb, ltb, leb, ◌||◌, ◌&&◌, not, min, [], ◌∷◌, map, replicate, arith, refl, sym, ap, ◌∙◌, inl, inr, w64, bit_and, bit_or}
use Rattle.std.proofs.Math.Nat.{mod-lt, mul-lt-mul_of_pos_right}
use Rattle.std.proofs.lemmas.Bool.Decides.{nat_tests}
use Rattle.std.proofs.lemmas.Bool.{cases_eq, cases_lt, eq-eqb, ne_eqb}
use Rattle.std.proofs.lemmas.Nat.{and_le_l, one_shl, pow_pos, pow-add, div-add-mod'}
use Rattle.std.proofs.lemmas.Nat.Bits.{bit_at-lt, bit_at-zero, bit_at_and, bit_at_not, bit_at_set_same, bit_at_set_other, bit_at_ones, bit_at_ones_above, bit_at_mask_inside, bit_at_mask_below, bit_at-pow_same, bit_at-pow_other, ones_shr, ones_shl, and_pow}
use Rattle.std.proofs.lemmas.Simd.{tops_compared}
use Rattle.std.specs.Int.{bit_at, bit_not}
use lib.Lanes.{zip2, mask_l, top}
use Rattle.sr_dup_window.specs.LaneSets.{flag}
use Rattle.sr_dup_window.specs.LaneLemmas.{either_bit}

-- a bit that is shifted up to be the highest of 64
top_bit : (x bit : ℕ) → bit < 64 → leb (2 ^ 63) (x * 2 ^ (63 - bit) % 2 ^ 64) ≡ eqb (bit_at x bit) 1
top_bit x bit h = highest (2 ^ bit) (2 ^ (63 - bit)) (pow_pos bit) (pow_pos (63 - bit)) (sym (pow-add 2 bit (63 - bit)) ∙ ap (λ k. 2 ^ k) back)
  where
    back : bit + (63 - bit) ≡ 63
    back = omega arith

    sum_of : (d g : ℕ) → g < 2 ^ 63 → leb (2 ^ 63) ((d * 2 ^ 63 + g) % 2 ^ 64) ≡ eqb (d % 2) 1
    sum_of d g h = grind (arith, nat_tests)

    highest : (p q : ℕ) → 0 < p → 0 < q → p * q ≡ 2 ^ 63 → leb (2 ^ 63) (x * q % 2 ^ 64) ≡ eqb (x / p % 2) 1
    highest p q some more all =
        let d = x / p in
        let f = x % p in
        let split : x * q ≡ (d * p + f) * q = ap (λ n. n * q) (sym (div-add-mod' x p)) in
        let whole : d * (p * q) ≡ d * 2 ^ 63 = ap (λ n. d * n) all in
        let less : f * q < p * q = mul-lt-mul_of_pos_right (mod-lt x some) more in
        let parts : x * q ≡ d * 2 ^ 63 + f * q = omega (arith, split, whole) in
        ap (λ n. leb (2 ^ 63) (n % 2 ^ 64)) parts ∙ sum_of d (f * q) (omega (arith, less, all))

-- what is read of two words by their highest bits
pub pair_bits : (x y s bit : ℕ) → bit < 64 → s ≡ 63 - bit
    → mask_l (map (top 63) (zip2 (λ a b. cond (leb a b) (2 ^ 64 - 1) 0) (replicate 2 (2 ^ 63)) (zip2 (λ a b. a * 2 ^ b % 2 ^ 64) (x ∷ y ∷ []) (replicate 2 s)))) % 2 ^ 64
    ≡ flag (eqb (bit_at x bit) 1) + 2 * flag (eqb (bit_at y bit) 1)
pair_bits x y s bit h e =
    ap (λ n. mask_l n % 2 ^ 64) (tops_compared w64 leb (replicate 2 (2 ^ 63)) (x * 2 ^ s % 2 ^ 64 ∷ y * 2 ^ s % 2 ^ 64 ∷ []))
    ∙ ap (λ t. (flag t + 2 * (flag (leb (2 ^ 63) (y * 2 ^ s % 2 ^ 64)) + 2 * 0)) % 2 ^ 64) (raised x)
    ∙ ap (λ t. (flag (eqb (bit_at x bit) 1) + 2 * (flag t + 2 * 0)) % 2 ^ 64) (raised y)
    ∙ small (eqb (bit_at x bit) 1) (eqb (bit_at y bit) 1)
  where
    raised : (n : ℕ) → leb (2 ^ 63) (n * 2 ^ s % 2 ^ 64) ≡ eqb (bit_at n bit) 1
    raised n = ap (λ k. leb (2 ^ 63) (n * 2 ^ k % 2 ^ 64)) e ∙ top_bit n bit h

    small : (t u : Bool) → (flag t + 2 * (flag u + 2 * 0)) % 2 ^ 64 ≡ flag t + 2 * flag u
    small true true = refl
    small true false = refl
    small false true = refl
    small false false = refl

-- a bit of a word with one more, or with none
pub bit_with : (word bit : ℕ) (on : Bool) → bit < 64 → (b : ℕ) → eqb (bit_at (bit_or word (cond on (1 * 2 ^ bit % 2 ^ 64) 0)) b) 1 ≡ ((eqb b bit && on) || eqb (bit_at word b) 1)
bit_with word bit true h b =
    elim (cases_eq b bit) [
      | inl same ↦ ap (λ i. eqb (bit_at (bit_or word (1 * 2 ^ bit % 2 ^ 64)) i) 1) same ∙ ap (λ m. eqb m 1) (bit_at_set_same w64 word bit h)
          ∙ sym (ap (λ t. (t && true) || eqb (bit_at word b) 1) (eq-eqb b bit same))
      | inr other ↦ ap (λ m. eqb m 1) (bit_at_set_other w64 word bit h b other)
          ∙ sym (ap (λ t. (t && true) || eqb (bit_at word b) 1) (ne_eqb b bit other))
    ]
bit_with word bit false h b =
    either_bit word 0 b
    ∙ ap (λ m. eqb (bit_at word b) 1 || eqb m 1) (bit_at-zero b)
    ∙ plain (eqb b bit) (eqb (bit_at word b) 1)
  where
    plain : (t x : Bool) → (x || false) ≡ ((t && false) || x)
    plain true true = refl
    plain true false = refl
    plain false true = refl
    plain false false = refl

-- the test of a mask of one bit
pub has_by_mask : (n k : ℕ) → eqb (bit_and n (2 ^ k)) (2 ^ k) ≡ eqb (bit_at n k) 1
has_by_mask n k = ap (λ m. eqb m (2 ^ k)) (and_pow n k) ∙ one_of (bit_at n k) (2 ^ k) (bit_at-lt n k) (pow_pos k)
  where
    one_of : (x p : ℕ) → x < 2 → 0 < p → eqb (x * p) p ≡ eqb x 1
    one_of x p h g =
        elim (cases_eq x 1) [
          | inl e ↦ ap (λ m. eqb (m * p) p) e ∙ eq-eqb (1 * p) p (omega arith) ∙ sym (eq-eqb x 1 e)
          | inr ne ↦ let e : x ≡ 0 = omega (arith, ne) in ap (λ m. eqb (m * p) p) e ∙ ne_eqb (0 * p) p (λ q. absurd (omega (arith, q))) ∙ sym (ne_eqb x 1 ne)
        ]

-- a bit of `word & mask`
pub bit_kept : (word mask b : ℕ) → eqb (bit_at (bit_and word mask) b) 1 ≡ (eqb (bit_at mask b) 1 && eqb (bit_at word b) 1)
bit_kept word mask b = ap (λ n. eqb n 1) (bit_at_and word mask b) ∙ both (bit_at word b) (bit_at mask b) (bit_at-lt word b) (bit_at-lt mask b)
  where
    both : (x y : ℕ) → x < 2 → y < 2 → eqb (min x y) 1 ≡ (eqb y 1 && eqb x 1)
    both x y h g = grind (arith, nat_tests)

-- a bit of `MAX << low`, of `MAX >> (64 - high)`, and of what is in neither
above_bit : (low b : ℕ) → low ≤ 64 → b < 64 → eqb (bit_at ((2 ^ 64 - 1) * 2 ^ low % 2 ^ 64) b) 1 ≡ leb low b
above_bit low b h g =
    ap (λ n. eqb (bit_at n b) 1) (ones_shl 64 low h)
    ∙ (elim (cases_lt b low) as (λ _. eqb (bit_at (2 ^ 64 - 2 ^ low) b) 1 ≡ leb low b) [
      | inl less ↦ ap (λ n. eqb n 1) (bit_at_mask_below low 64 b less) ∙ grind (arith, nat_tests)
      | inr more ↦ ap (λ n. eqb n 1) (bit_at_mask_inside low 64 b more g) ∙ grind (arith, nat_tests)
    ])

below_bit : (high b : ℕ) → high ≤ 64 → eqb (bit_at ((2 ^ 64 - 1) / 2 ^ (64 - high)) b) 1 ≡ ltb b high
below_bit high b h =
    ap (λ n. eqb (bit_at n b) 1) (ones_shr 64 (64 - high) (omega arith))
    ∙ ap (λ k. eqb (bit_at (2 ^ k - 1) b) 1) back
    ∙ (elim (cases_lt b high) as (λ _. eqb (bit_at (2 ^ high - 1) b) 1 ≡ ltb b high) [
      | inl less ↦ ap (λ n. eqb n 1) (bit_at_ones high b less) ∙ grind (arith, nat_tests)
      | inr more ↦ ap (λ n. eqb n 1) (bit_at_ones_above high b more) ∙ grind (arith, nat_tests)
    ])
  where
    back : 64 - (64 - high) ≡ high
    back = omega arith

pub bit_all_but : (low count b : ℕ) → low + count ≤ 64 → b < 64 → eqb (bit_at (bit_not w64 (bit_and ((2 ^ 64 - 1) * 2 ^ low % 2 ^ 64) ((2 ^ 64 - 1) / 2 ^ (64 - low - count)))) b) 1 ≡ not (leb low b && ltb b (low + count))
bit_all_but low count b h g =
    let above = (2 ^ 64 - 1) * 2 ^ low % 2 ^ 64 in
    let below = (2 ^ 64 - 1) / 2 ^ (64 - low - count) in
    let fits : bit_and above below < 2 ^ 64 = below_first above below (omega arith) in
    let at_below : eqb (bit_at below b) 1 ≡ ltb b (low + count) = ap (λ k. eqb (bit_at ((2 ^ 64 - 1) / 2 ^ k) b) 1) (regroup low count) ∙ below_bit (low + count) b h in
    ap (λ n. eqb n 1) (bit_at_not w64 (bit_and above below) b fits g)
    ∙ ap (λ n. eqb (1 - n) 1) (bit_at_and above below b)
    ∙ neither (bit_at above b) (bit_at below b) (bit_at-lt above b) (bit_at-lt below b)
    ∙ ap (λ t. not (t && eqb (bit_at below b) 1)) (above_bit low b (omega arith) g)
    ∙ ap (λ t. not (leb low b && t)) at_below
  where
    regroup : (low count : ℕ) → 64 - low - count ≡ 64 - (low + count)
    regroup low count = omega arith

    below_first : (x y : ℕ) → x < 2 ^ 64 → bit_and x y < 2 ^ 64
    below_first x y h = omega (arith, and_le_l x y)

    neither : (x y : ℕ) → x < 2 → y < 2 → eqb (1 - min x y) 1 ≡ not (eqb x 1 && eqb y 1)
    neither x y h g = grind (arith, nat_tests)

-- a bit of `!(1 << bit)`
pub bit_all_but_one : (bit b : ℕ) → bit < 64 → b < 64 → eqb (bit_at (bit_not w64 (1 * 2 ^ bit % 2 ^ 64)) b) 1 ≡ not (eqb b bit)
bit_all_but_one bit b h g =
    let one : 1 * 2 ^ bit % 2 ^ 64 ≡ 2 ^ bit = one_shl bit 64 h in
    ap (λ n. eqb n 1) (bit_at_not w64 (1 * 2 ^ bit % 2 ^ 64) b (omega arith) g)
    ∙ ap (λ n. eqb (1 - bit_at n b) 1) one
    ∙ (elim (cases_eq b bit) as (λ _. eqb (1 - bit_at (2 ^ bit) b) 1 ≡ not (eqb b bit)) [
      | inl same ↦ ap (λ i. eqb (1 - bit_at (2 ^ bit) i) 1) same ∙ ap (λ n. eqb (1 - n) 1) (bit_at-pow_same bit) ∙ sym (ap not (eq-eqb b bit same))
      | inr other ↦ ap (λ n. eqb (1 - n) 1) (bit_at-pow_other bit b other) ∙ sym (ap not (ne_eqb b bit other))
    ])

-- a bit that is set in a word where a set has a lane
pub bit_marked : (word bit set lane s l : ℕ) → bit < 64 → s ≡ set → l ≡ lane → (b : ℕ)
    → eqb (bit_at (bit_or word (cond (top 63 (cond (eqb (bit_and s l) l) (2 ^ 64 - 1) 0)) (1 * 2 ^ bit % 2 ^ 64) 0)) b) 1
    ≡ ((eqb b bit && eqb (bit_and set lane) lane) || eqb (bit_at word b) 1)
bit_marked word bit set lane s l h is_set is_lane b =
    ap (λ t. eqb (bit_at (bit_or word (cond t (1 * 2 ^ bit % 2 ^ 64) 0)) b) 1) (told (eqb (bit_and s l) l))
    ∙ bit_with word bit (eqb (bit_and s l) l) h b
    ∙ (λ i. (eqb b bit && eqb (bit_and (is_set i) (is_lane i)) (is_lane i)) || eqb (bit_at word b) 1)
  where
    told : (t : Bool) → top 63 (cond t (2 ^ 64 - 1) 0) ≡ t
    told true = refl
    told false = refl
