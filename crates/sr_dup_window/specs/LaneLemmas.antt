-- What is in a set of lanes.
use Rattle.std.proofs.Common.{
  ◌≡◌,
  ℕ,
  ◌+◌,
  ◌*◌,
  ◌-◌,
  ◌%◌,
  ◌<◌,
  Bool,
  true,
  false,
  eqb,
  ◌||◌,
  ◌&&◌,
  not,
  min,
  max,
  arith,
  refl,
  sym,
  ap,
  ◌∙◌,
  inl,
  inr,
  w8,
  bit_and,
  bit_or,
}
use Rattle.std.proofs.lemmas.Bool.Decides.{nat_tests}
use Rattle.std.proofs.lemmas.Bool.{or_cases, or_left, or_right, false≢true, false_from_ne_true, not-true, not-false, or_parts}
use Rattle.std.proofs.lemmas.Nat.Bits.{bit_at-lt, bit_at_or, bit_at_and, bit_at_not}
use Rattle.std.proofs.lemmas.Nat.{and_mask}
use Rattle.std.specs.Int.{bit_at}
use Rattle.sr_dup_window.specs.declared.lane_sets.Lane.{Lane}
use Rattle.sr_dup_window.specs.declared.lane_sets.Lane.TheVariants.{H, A, B, C, GotA, GotB}
use Rattle.sr_dup_window.specs.declared.lane_sets.Lanes.{Lanes}
use Rattle.sr_dup_window.specs.LaneSets.{index_of, has, flag, lanes_where, none, known, union, difference, is_empty}

flag_small : (b : Bool) → flag b < 2
flag_small true = omega arith
flag_small false = omega arith

flag_is : (b : Bool) → eqb (flag b) 1 ≡ b
flag_is true = refl
flag_is false = refl

-- the six tests are the six lowest bits
bits_of : (a b c d e f : ℕ) → a < 2 → b < 2 → c < 2 → d < 2 → e < 2 → f < 2 → (lane : Lane) →
    bit_at (a + 2 * b + 4 * c + 8 * d + 16 * e + 32 * f) (index_of lane) ≡ elim lane [ H ↦ a | A ↦ b | B ↦ c | C ↦ d | GotA ↦ e | GotB ↦ f ]
bits_of a b c d e f ha hb hc hd he hf H = omega arith
bits_of a b c d e f ha hb hc hd he hf A = omega arith
bits_of a b c d e f ha hb hc hd he hf B = omega arith
bits_of a b c d e f ha hb hc hd he hf C = omega arith
bits_of a b c d e f ha hb hc hd he hf GotA = omega arith
bits_of a b c d e f ha hb hc hd he hf GotB = omega arith

bit_of_test : (test : Lane → Bool) (lane : Lane) → bit_at (lanes_where test).0 (index_of lane) ≡ flag (test lane)
bit_of_test test lane =
    bits_of (flag (test H)) (flag (test A)) (flag (test B)) (flag (test C)) (flag (test GotA)) (flag (test GotB))
    (flag_small (test H)) (flag_small (test A)) (flag_small (test B)) (flag_small (test C)) (flag_small (test GotA))
    (flag_small (test GotB)) lane
    ∙ picked lane
  where
    picked : (lane : Lane) → elim
        lane [
          | H ↦ flag (test H)
          | A ↦ flag (test A)
          | B ↦ flag (test B)
          | C ↦ flag (test C)
          | GotA ↦ flag (test GotA)
          | GotB ↦ flag
              (test GotB)
        ] ≡ flag (test lane)
    picked H = refl
    picked A = refl
    picked B = refl
    picked C = refl
    picked GotA = refl
    picked GotB = refl

-- the set of the lanes for which a test holds has just those
pub has-lanes_where : (test : Lane → Bool) (lane : Lane) → has (lanes_where test) lane ≡ test lane
has-lanes_where test lane = ap (λ n. eqb n 1) (bit_of_test test lane) ∙ flag_is (test lane)

-- tests that agree give one set
pub lanes_where-same : (f g : Lane → Bool) → ((lane : Lane) → f lane ≡ g lane) → lanes_where f ≡ lanes_where g
lanes_where-same f g same = λ i. lanes_where (λ lane. same lane i)

-- such a set has no other bits
pub known-lanes_where : (test : Lane → Bool) → known (lanes_where test) ≡ lanes_where test
known-lanes_where test = lanes_where-same (has (lanes_where test)) test (has-lanes_where test)

pub has-none : (lane : Lane) → has none lane ≡ false
has-none H = refl
has-none A = refl
has-none B = refl
has-none C = refl
has-none GotA = refl
has-none GotB = refl

pub has-union : (a b : Lanes) (lane : Lane) → has (union a b) lane ≡ (has a lane || has b lane)
has-union a b lane = has-lanes_where (λ l. has a l || has b l) lane

pub has-difference : (a b : Lanes) (lane : Lane) → has (difference a b) lane ≡ (has a lane && not (has b lane))
has-difference a b lane = has-lanes_where (λ l. has a l && not (has b l)) lane

-- a set that is not empty has some lane
pub some_lane : (lanes : Lanes) → is_empty lanes ≡ false → (lane : Lane) × (has lanes lane ≡ true)
some_lane lanes h =
    let h_a = has lanes H || has lanes A in
    let h_b = h_a || has lanes B in
    let h_c = h_b || has lanes C in
    let h_got_a = h_c || has lanes GotA in
    elim (or_cases h_got_a (has lanes GotB) (not-false (h_got_a || has lanes GotB) h)) [
      | inr e ↦ (GotB, e)
      | inl e ↦ elim (or_cases h_c (has lanes GotA) e) [
        | inr e ↦ (GotA, e)
        | inl e ↦ elim (or_cases h_b (has lanes C) e) [
          | inr e ↦ (C, e)
          | inl e ↦ elim (or_cases h_a (has lanes B) e) [
            | inr e ↦ (B, e)
            | inl e ↦ elim (or_cases (has lanes H) (has lanes A) e) [ inl e ↦ (H, e) | inr e ↦ (A, e) ]
          ]
        ]
      ]
    ]

-- an empty set has no lane
pub no_lane : (lanes : Lanes) → is_empty lanes ≡ true → (lane : Lane) → has lanes lane ≡ false
no_lane lanes h lane =
    let h_a = has lanes H || has lanes A in
    let h_b = h_a || has lanes B in
    let h_c = h_b || has lanes C in
    let h_got_a = h_c || has lanes GotA in
    let at_got_b = or_parts h_got_a (has lanes GotB) (not-true (h_got_a || has lanes GotB) h) in
    let at_got_a = or_parts h_c (has lanes GotA) at_got_b.0 in
    let at_c = or_parts h_b (has lanes C) at_got_a.0 in
    let at_b = or_parts h_a (has lanes B) at_c.0 in
    let at_a = or_parts (has lanes H) (has lanes A) at_b.0 in
    elim lane as (λ l. has lanes l ≡ false) [ H ↦ at_a.0 | A ↦ at_a.1 | B ↦ at_b.1 | C ↦ at_c.1 | GotA ↦ at_got_a.1 | GotB ↦ at_got_b.1 ]

pub not_empty : (lanes : Lanes) (lane : Lane) → has lanes lane ≡ true → is_empty lanes ≡ false
not_empty lanes lane h = false_from_ne_true (is_empty lanes) (λ e. false≢true (sym (no_lane lanes e lane) ∙ h))

-- more lanes leave a set not empty
pub not_empty-union_left : (a b : Lanes) → is_empty a ≡ false → is_empty (union a b) ≡ false
not_empty-union_left a b h =
    let some = some_lane a h in
    not_empty (union a b) some.0 (has-union a b some.0 ∙ or_left (has a some.0) (has b some.0) some.1)

pub not_empty-union_right : (a b : Lanes) → is_empty b ≡ false → is_empty (union a b) ≡ false
not_empty-union_right a b h =
    let some = some_lane b h in
    not_empty (union a b) some.0 (has-union a b some.0 ∙ or_right (has a some.0) (has b some.0) some.1)

-- the six lowest bits of a number are a set of lanes
low_bits : (n : ℕ) → n % 64 ≡ bit_at n 0 + 2 * bit_at n 1 + 4 * bit_at n 2 + 8 * bit_at n 3 + 16 * bit_at n 4 + 32 * bit_at n 5
low_bits n = omega arith

flag_of_bit : (n i : ℕ) → bit_at n i ≡ flag (eqb (bit_at n i) 1)
flag_of_bit n i = of_small (bit_at n i) (bit_at-lt n i)
  where
    of_small : (x : ℕ) → x < 2 → x ≡ flag (eqb x 1)
    of_small x h = grind (arith, nat_tests)

pub known_bits_are : (n : ℕ) → bit_and n 63 ≡ (lanes_where (λ lane. eqb (bit_at n (index_of lane)) 1)).0
known_bits_are n =
    and_mask n 6 ∙ low_bits n
    ∙ ap (λ x. x + 2 * bit_at n 1 + 4 * bit_at n 2 + 8 * bit_at n 3 + 16 * bit_at n 4 + 32 * bit_at n 5) (flag_of_bit n 0)
    ∙ ap (λ x. flag (eqb (bit_at n 0) 1) + 2 * x + 4 * bit_at n 2 + 8 * bit_at n 3 + 16 * bit_at n 4 + 32 * bit_at n 5) (flag_of_bit n 1)
    ∙ ap (λ x. flag (eqb (bit_at n 0) 1) + 2 * flag (eqb (bit_at n 1) 1) + 4 * x + 8 * bit_at n 3 + 16 * bit_at n 4 + 32 * bit_at n 5)
    (flag_of_bit n 2)
    ∙ ap (λ x. flag (eqb (bit_at n 0) 1) + 2 * flag (eqb (bit_at n 1) 1) + 4 * flag (eqb (bit_at n 2) 1) + 8 * x + 16 * bit_at n 4 + 32 *
    bit_at n 5) (flag_of_bit n 3)
    ∙ ap (λ x. flag (eqb (bit_at n 0) 1) + 2 * flag (eqb (bit_at n 1) 1) + 4 * flag (eqb (bit_at n 2) 1) + 8 * flag (eqb (bit_at n 3) 1) +
    16 * x + 32 * bit_at n 5) (flag_of_bit n 4)
    ∙ ap (λ x. flag (eqb (bit_at n 0) 1) + 2 * flag (eqb (bit_at n 1) 1) + 4 * flag (eqb (bit_at n 2) 1) + 8 * flag (eqb (bit_at n 3) 1) +
    16 * flag (eqb (bit_at n 4) 1) + 32 * x) (flag_of_bit n 5)

-- the set of a number's bits, and its lanes
pub lanes_from_bits : (n : ℕ) (test : Lane → Bool) → ((lane : Lane) → eqb (bit_at n (index_of lane)) 1 ≡ test lane) →
    bit_and n 63 ≡ (lanes_where test).0
lanes_from_bits n test same = known_bits_are n ∙ ap (λ lanes. lanes.0)
    (lanes_where-same (λ lane. eqb (bit_at n (index_of lane)) 1) test same)

-- a bit of an `|`, and of an `&` with a `!`
pub either_bit : (a b i : ℕ) → eqb (bit_at (bit_or a b) i) 1 ≡ (eqb (bit_at a i) 1 || eqb (bit_at b i) 1)
either_bit a b i = ap (λ n. eqb n 1) (bit_at_or a b i) ∙ either (bit_at a i) (bit_at b i) (bit_at-lt a i) (bit_at-lt b i)
  where
    either : (x y : ℕ) → x < 2 → y < 2 → eqb (max x y) 1 ≡ (eqb x 1 || eqb y 1)
    either x y h g = grind (arith, nat_tests)

pub cleared_bit : (a b i : ℕ) → b < 256 → i < 8 → eqb (bit_at (bit_and a (255 - b)) i) 1 ≡ (eqb (bit_at a i) 1 && not (eqb (bit_at b i) 1))
cleared_bit a b i small inside =
    ap (λ n. eqb n 1) (bit_at_and a (255 - b) i)
    ∙ ap (λ n. eqb (min (bit_at a i) n) 1) (bit_at_not w8 b i small inside)
    ∙ clears (bit_at a i) (bit_at b i) (bit_at-lt a i) (bit_at-lt b i)
  where
    clears : (x y : ℕ) → x < 2 → y < 2 → eqb (min x (1 - y)) 1 ≡ (eqb x 1 && not (eqb y 1))
    clears x y h g = grind (arith, nat_tests)

index_small : (lane : Lane) → index_of lane < 8
index_small H = omega arith
index_small A = omega arith
index_small B = omega arith
index_small C = omega arith
index_small GotA = omega arith
index_small GotB = omega arith

pub union_bits : (a b : Lanes) → bit_and (bit_or a.0 b.0) 63 ≡ (union a b).0
union_bits a b = lanes_from_bits (bit_or a.0 b.0) (λ lane. has a lane || has b lane) (λ lane. either_bit a.0 b.0 (index_of lane))

pub difference_bits : (a b : Lanes) → b.0 < 256 → bit_and (bit_and a.0 (255 - b.0)) 63 ≡ (difference a b).0
difference_bits a b h = lanes_from_bits (bit_and a.0 (255 - b.0)) (λ lane. has a lane && not (has b lane))
    (λ lane. cleared_bit a.0 b.0 (index_of lane) h (index_small lane))
