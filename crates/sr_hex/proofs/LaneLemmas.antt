-- What the operations on vectors of sixteen octets hold at each lane.
use Rattle.std.proofs.Common.{◌≡◌, ℕ, zero, suc, ◌+◌, ◌-◌, ◌*◌, ◌/◌, ◌%◌, ◌^◌, ◌<◌, ◌≤◌, ◌↔◌, Bool, true, false, not, ◌&&◌, cond, eqb, ltb, leb, List, [], ◌∷◌, ◌++◌, map, length, take, drop, get_or, replicate, refl, sym, ap, ◌∙◌, inl, inr, arith, w8, Fits, eqb-true, eq-eqb, bit_and, subst, leb-false, leb-true, ltb-true, ltb-false}
use Rattle.std.specs.Prelude.{min, max}
use Rattle.std.proofs.lemmas.Bool.{cases_eq, cases_lt, eqb-false, and_parts, not-true, not-false}
use Rattle.std.proofs.lemmas.List.{get_or_append_left, get_or-append_right, length-map, length-drop, get_or-drop, get_or_past, get_or-map}
use Rattle.std.proofs.lemmas.Nat.{and_block}
use Rattle.std.proofs.lemmas.Simd.{get_or-zip2, get_or-replicate, length-zip2, tops_compared, length-sel_l, get_or-sel_l, mask_l-mod, first_set_mask_l, below_from_Fits, get_or_wider, get_or_narrower, swz_l, SwzOk, SwzOk-from_below, Each1-from_get_or, length-swz_l, get_or-swz_l_below}
use Rattle.std.proofs.lemmas.List.Sums.{prefix_len-le-length, prefix_len_passes, prefix_len_stops}
use Rattle.std.specs.List.{range_with_len, prefix_len}
use lib.Lanes.{zip2, sel_l, mask_l, top, Each1, number_l, digits_l}
use Rattle.hex.specs.Hex.{lower_digits}
use Rattle.sr_hex.specs.Lanes.{HasLanes, first_set, IsSmallFront}
use Rattle.sr_hex.specs.Values.{AreSmall, digit_of, octet_of}

pub lane_fits : (v : List ℕ) (i : ℕ) → Each1 (Fits w8) v → get_or v i 0 < 256
lane_fits [] i h = omega arith
lane_fits (x ∷ xs) zero h = h.0.fits
lane_fits (x ∷ xs) (suc i) h = lane_fits xs i h.1

-- an operator on two vectors, and on a vector and a splat
pub lanes_of : (f : ℕ → ℕ → ℕ) (xs ys : List ℕ) → length xs ≡ 16 → length ys ≡ 16 → HasLanes (zip2 f xs ys) (λ i. f (get_or xs i 0) (get_or ys i 0))
lanes_of f xs ys p q = record {
  long = length-zip2 f xs ys (p ∙ sym q) ∙ p;
  each = λ i h. get_or-zip2 f xs ys i 0 0 0 (omega arith) (omega arith);
}

pub lanes_with : (f : ℕ → ℕ → ℕ) (xs : List ℕ) (y : ℕ) → length xs ≡ 16 → HasLanes (zip2 f xs (replicate 16 y)) (λ i. f (get_or xs i 0) y)
lanes_with f xs y p = record {
  long = length-zip2 f xs (replicate 16 y) p ∙ p;
  each = λ i h. get_or-zip2 f xs (replicate 16 y) i 0 0 0 (omega arith) h ∙ ap (f (get_or xs i 0)) (get_or-replicate 16 i y 0 h);
}

-- the smaller and the larger of each two lanes
abbrev pub is_below : ℕ → ℕ → ℕ
is_below a b = cond (ltb a b) 255 0

chosen : (xs ys us vs : List ℕ) → length xs ≡ 16 → length ys ≡ 16 → length us ≡ 16 → length vs ≡ 16
    → HasLanes (sel_l (map (top 7) (zip2 is_below xs ys)) us vs) (λ i. cond (ltb (get_or xs i 0) (get_or ys i 0)) (get_or us i 0) (get_or vs i 0))
chosen xs ys us vs p q r s =
    let same : map (top 7) (zip2 is_below xs ys) ≡ zip2 ltb xs ys = tops_compared w8 ltb xs ys in
    let long : length (zip2 ltb xs ys) ≡ 16 = length-zip2 ltb xs ys (p ∙ sym q) ∙ p in
    rw same (record {
      long = length-sel_l (zip2 ltb xs ys) us vs (long ∙ sym r) (long ∙ sym s) ∙ long;
      each = λ i h.
          get_or-sel_l (zip2 ltb xs ys) us vs i 0 (omega arith) (omega arith) (omega arith)
          ∙ ap (λ m. cond m (get_or us i 0) (get_or vs i 0)) (get_or-zip2 ltb xs ys i 0 0 false (omega arith) (omega arith));
    })

smaller_is : (a b : ℕ) → cond (ltb a b) a b ≡ min a b
smaller_is a b = go (ltb a b) refl
  where
    go : (t : Bool) → ltb a b ≡ t → cond t a b ≡ min a b
    go true e = omega (arith, ltb-true _ _ e)
    go false e = omega (arith, ltb-false _ _ e)

larger_is : (a b : ℕ) → cond (ltb a b) b a ≡ max a b
larger_is a b = go (ltb a b) refl
  where
    go : (t : Bool) → ltb a b ≡ t → cond t b a ≡ max a b
    go true e = omega (arith, ltb-true _ _ e)
    go false e = omega (arith, ltb-false _ _ e)

pub lanes_smaller : (xs ys : List ℕ) → length xs ≡ 16 → length ys ≡ 16
    → HasLanes (sel_l (map (top 7) (zip2 is_below xs ys)) xs ys) (λ i. min (get_or xs i 0) (get_or ys i 0))
lanes_smaller xs ys p q =
    let all = chosen xs ys xs ys p q p q in
    record { long = all.long; each = λ i h. all.each i h ∙ smaller_is (get_or xs i 0) (get_or ys i 0) }

pub lanes_larger : (xs ys : List ℕ) → length xs ≡ 16 → length ys ≡ 16
    → HasLanes (sel_l (map (top 7) (zip2 is_below xs ys)) ys xs) (λ i. max (get_or xs i 0) (get_or ys i 0))
lanes_larger xs ys p q =
    let all = chosen xs ys ys xs p q q p in
    record { long = all.long; each = λ i h. all.each i h ∙ larger_is (get_or xs i 0) (get_or ys i 0) }

-- ---- tests of all lanes

abbrev pub at_least : ℕ → ℕ → ℕ
at_least a b = cond (leb a b) 255 0

mask_small : (f : ℕ → ℕ → ℕ) (xs ys : List ℕ) → length xs ≡ 16 → length ys ≡ 16 → mask_l (map (top 7) (zip2 f xs ys)) % 2 ^ 64 ≡ mask_l (map (top 7) (zip2 f xs ys))
mask_small f xs ys p q = mask_l-mod _ 64 (omega (arith, length-map (zip2 f xs ys) (top 7), length-zip2 f xs ys (p ∙ sym q)))

-- ---- the first lane that is 16 or more

abbrev is_large : ℕ → Bool
is_large x = top 7 (at_least 16 x)

large_is : (x : ℕ) → is_large x ≡ leb 16 x
large_is x = go (leb 16 x)
  where
    go : (t : Bool) → top 7 (cond t 255 0) ≡ t
    go true = refl
    go false = refl

large_lanes : (xs : List ℕ) → map (top 7) (zip2 at_least (replicate (length xs) 16) xs) ≡ map is_large xs
large_lanes [] = refl
large_lanes (x ∷ xs) = ap (λ r. is_large x ∷ r) (large_lanes xs)

pub small_front_of_mask : (xs : List ℕ) (r : ℕ) → length xs ≡ 16 → r ≡ first_set (mask_l (map (top 7) (zip2 at_least (replicate 16 16) xs)) % 2 ^ 64)
    → IsSmallFront xs r
small_front_of_mask xs r long found =
    let mask = mask_small at_least (replicate 16 16) xs refl long ∙ ap (λ n. mask_l (map (top 7) (zip2 at_least (replicate n 16) xs))) (sym long)
    ∙ ap mask_l (large_lanes xs) in
    let counted : r ≡ prefix_len (λ x. not (is_large x)) xs = found ∙ ap first_set mask ∙ first_set_mask_l is_large xs 16 long (omega arith) in
    record {
      within = omega (arith, counted, long, prefix_len-le-length (λ x. not (is_large x)) xs);
      small = λ i h. leb-false _ _ (sym (large_is (get_or xs i 0)) ∙ not-true _ (prefix_len_passes (λ x. not (is_large x)) xs i 0 (omega (arith, counted))));
      large = λ h.
          leb-true _ _ (sym (large_is (get_or xs r 0)) ∙ ap (λ k. is_large (get_or xs k 0)) counted
          ∙ not-false _ (prefix_len_stops (λ x. not (is_large x)) xs 0 (omega (arith, counted, long))));
    }

-- ---- sixteen lanes, one by one

abbrev pub all_below : (ℕ → Bool) → ℕ → Bool
all_below p zero = true
all_below p (suc n) = p n && all_below p n

pub every_below : (p : ℕ → Bool) (n : ℕ) → all_below p n ≡ true → (i : ℕ) → i < n → p i ≡ true
every_below p zero h i l = absurd (omega arith)
every_below p (suc n) h i l =
    let parts = and_parts (p n) (all_below p n) h in
    elim (cases_lt i n) [
      | inl below ↦ every_below p n parts.1 i below
      | inr top ↦ let e : i ≡ n = omega arith in rw e parts.0
    ]

place_is : (i : ℕ) → i < 16 → get_or (range_with_len 0 16) i 0 ≡ i
place_is i h = eqb-true _ _ (every_below (λ k. eqb (get_or (range_with_len 0 16) k 0) k) 16 refl i h)

pub sixteen : (f : ℕ → ℕ) → HasLanes (map f (range_with_len 0 16)) f
sixteen f = record {
  long = refl;
  each = λ i h. get_or-map f (range_with_len 0 16) i 0 0 h ∙ ap f (place_is i h);
}

-- ---- digits, looked up

pub small_places : (v : List ℕ) → length v ≡ 16 → AreSmall v → SwzOk w8 16 16 0 v
small_places v long small = SwzOk-from_below w8 16 1 16 0 v refl (omega arith) (Each1-from_get_or (λ j. j < 16) v 0 (λ i lt. small i (omega arith)))

pub digits_looked_up : (v : List ℕ) → length v ≡ 16 → AreSmall v → HasLanes (swz_l w8 16 lower_digits 0 v) (λ i. digit_of (get_or v i 0))
digits_looked_up v long small = record {
  long = length-swz_l w8 16 lower_digits 0 v ∙ long;
  each = λ i h.
      let place : 16 * ((0 + i) / 16) + get_or v i 0 ≡ get_or v i 0 = omega arith in
      get_or-swz_l_below w8 16 lower_digits 0 v i (omega arith) (small i h) ∙ ap digit_of place;
}

-- ---- two vectors, one behind the other

pub joined : (f : ℕ → ℕ) (p : ℕ) (xs ys : List ℕ) → HasLanes xs (λ i. f (p + i)) → HasLanes ys (λ i. f (p + 16 + i))
    → (k : ℕ) → k < 32 → get_or (xs ++ ys) k 0 ≡ f (p + k)
joined f p xs ys hx hy k lt =
    elim (cases_lt k 16) [
      | inl l ↦ get_or_append_left xs ys 0 k (omega (arith, hx.long)) ∙ hx.each k l
      | inr g ↦
          let e : p + 16 + (k - 16) ≡ p + k = omega arith in
          get_or-append_right xs ys 16 k 0 hx.long g ∙ hy.each (k - 16) (omega arith) ∙ ap f e
    ]

-- ---- two neighbouring lanes, as one of sixteen bits

number_of_two : (l : List ℕ) → 2 ≤ length l → number_l 256 (take 2 l) ≡ get_or l 0 0 + 256 * get_or l 1 0
number_of_two [] h = absurd (omega arith)
number_of_two (x ∷ []) h = absurd (omega arith)
number_of_two (x ∷ y ∷ l) h = omega arith

pair_is : (v : List ℕ) (i : ℕ) → length v ≡ 16 → Each1 (λ x. x < 256) v → i < 8
    → get_or (digits_l 65536 8 (number_l 256 v)) i 0 ≡ get_or v (2 * i) 0 + 256 * get_or v (2 * i + 1) 0
pair_is v i long small lt =
    let same : 2 * i + 0 ≡ 2 * i = omega arith in
    get_or_wider 256 2 65536 8 v i refl small lt
    ∙ number_of_two (drop (2 * i) v) (omega (arith, length-drop (2 * i) v))
    ∙ (λ j. get_or-drop (2 * i) v 0 0 j + 256 * get_or-drop (2 * i) v 1 0 j)
    ∙ ap (λ k. get_or v k 0 + 256 * get_or v (2 * i + 1) 0) same

abbrev pub shifted : ℕ → ℕ → ℕ
shifted a b = a / 2 ^ b

abbrev pub multiplied : ℕ → ℕ → ℕ
multiplied a b = a * b % 65536

abbrev pub octets_in_pairs : List ℕ → List ℕ
octets_in_pairs v = zip2 shifted (zip2 multiplied (digits_l 65536 8 (number_l 256 v)) (replicate 8 4097)) (replicate 8 8)

octet_in_pair : (v : List ℕ) (i : ℕ) → length v ≡ 16 → Each1 (λ x. x < 256) v → i < 8
    → get_or (octets_in_pairs v) i 0 ≡ (get_or v (2 * i) 0 + 256 * get_or v (2 * i + 1) 0) * 4097 % 65536 / 256
octet_in_pair v i long small lt =
    let pairs = digits_l 65536 8 (number_l 256 v) in
    get_or-zip2 shifted (zip2 multiplied pairs (replicate 8 4097)) (replicate 8 8) i 0 0 0 (omega arith) (omega arith)
    ∙ (λ j. shifted (get_or-zip2 multiplied pairs (replicate 8 4097) i 0 0 0 (omega arith) (omega arith) j) (get_or-replicate 8 i 8 0 lt j))
    ∙ (λ j. multiplied (pair_is v i long small lt j) (get_or-replicate 8 i 4097 0 lt j) / 256)

pub pairs_joined : (v : List ℕ) → length v ≡ 16 → Each1 (Fits w8) v → (i : ℕ) → i < 8
    → get_or (digits_l 256 16 (number_l 65536 (octets_in_pairs v))) (2 * i) 0 ≡ octet_of (get_or v (2 * i) 0) (get_or v (2 * i + 1) 0)
pairs_joined v long fits i lt =
    let small = below_from_Fits w8 v fits in
    let all : Each1 (λ x. x < 65536) (octets_in_pairs v) = Each1-from_get_or (λ x. x < 65536) (octets_in_pairs v) 0
    (λ k h. omega (arith, octet_in_pair v k long small (omega arith))) in
    let same : 2 * i + 0 ≡ 2 * i = omega arith in
    ap (λ k. get_or (digits_l 256 16 (number_l 65536 (octets_in_pairs v))) k 0) (sym same)
    ∙ get_or_narrower 65536 2 256 16 (octets_in_pairs v) i 0 refl all (omega arith) (omega arith)
    ∙ omega (arith, octet_in_pair v i long small lt, lane_fits v (2 * i) fits, lane_fits v (2 * i + 1) fits)

-- ---- a test of all lanes, two at a time

abbrev pub differs : ℕ → ℕ → ℕ
differs a b = cond (not (eqb a b)) 65535 0

flag : (x : ℕ) → (◌≡◌ {A = ℕ} (cond (top 15 (differs x 0)) 1 0) 0) ↔ (x ≡ 0)
flag x = go (eqb x 0) refl
  where
    go : (t : Bool) → eqb x 0 ≡ t → (◌≡◌ {A = ℕ} (cond (top 15 (cond (not t) 65535 0)) 1 0) 0) ↔ (x ≡ 0)
    go true e = (λ _. eqb-true _ _ e, λ _. refl)
    go false e = (λ q. absurd (omega arith), λ z. absurd (eqb-false _ _ e z))

none_differ : (xs : List ℕ) → (mask_l (map (top 15) (zip2 differs xs (replicate (length xs) 0))) ≡ 0) ↔ ((i : ℕ) → get_or xs i 0 ≡ 0)
none_differ [] = (λ _ i. refl, λ _. refl)
none_differ (x ∷ xs) =
    let r = none_differ xs in
    (λ e. elim [ zero ↦ (flag x).0 (omega arith) | suc i ↦ r.0 (omega arith) i ], λ h. omega (arith, (flag x).1 (h 0), r.1 (λ i. h (suc i))))

-- the upper four bits of a number below 256, and of two
upper_is : (a : ℕ) → a < 256 → bit_and a 240 ≡ a / 16 * 16
upper_is a lt = eqb-true _ _ (every_below (λ k. eqb (bit_and k 240) (k / 16 * 16)) 256 refl a lt)

no_upper : (a b : ℕ) → a < 256 → b < 256 → (bit_and (a + 256 * b) 61680 ≡ 0) ↔ ((a < 16) × (b < 16))
no_upper a b p q =
    let same : a + 256 * b ≡ b * 2 ^ 8 + a = omega arith in
    let block : bit_and (b * 2 ^ 8 + a) 61680 ≡ bit_and b 240 * 2 ^ 8 + bit_and a 240 = and_block 8 b 240 a 240 (omega arith) (omega arith) in
    let value : bit_and (a + 256 * b) 61680 ≡ b / 16 * 16 * 256 + a / 16 * 16 =
    ap (λ n. bit_and n 61680) same ∙ block ∙ (λ j. upper_is b q j * 256 + upper_is a p j) in
    (λ e. (omega (arith, value), omega (arith, value)), λ h. omega (arith, value))

abbrev pub upper_bits : List ℕ → List ℕ
upper_bits v = zip2 bit_and (digits_l 65536 8 (number_l 256 v)) (replicate 8 61680)

upper_in_pair : (v : List ℕ) (i : ℕ) → length v ≡ 16 → Each1 (λ x. x < 256) v → i < 8
    → get_or (upper_bits v) i 0 ≡ bit_and (get_or v (2 * i) 0 + 256 * get_or v (2 * i + 1) 0) 61680
upper_in_pair v i long small lt =
    get_or-zip2 bit_and (digits_l 65536 8 (number_l 256 v)) (replicate 8 61680) i 0 0 0 (omega arith) (omega arith)
    ∙ (λ j. bit_and (pair_is v i long small lt j) (get_or-replicate 8 i 61680 0 lt j))

pub small_of_mask : (v : List ℕ) → length v ≡ 16 → Each1 (Fits w8) v
    → (eqb (mask_l (map (top 15) (zip2 differs (upper_bits v) (replicate 8 0))) % 2 ^ 64) 0 ≡ true) ↔ AreSmall v
small_of_mask v long fits =
    let small = below_from_Fits w8 v fits in
    let pair = λ (i : ℕ) (lt : i < 8). no_upper (get_or v (2 * i) 0) (get_or v (2 * i + 1) 0) (lane_fits v (2 * i) fits) (lane_fits v (2 * i + 1) fits) in
    let mask : mask_l (map (top 15) (zip2 differs (upper_bits v) (replicate 8 0))) % 2 ^ 64 ≡ mask_l (map (top 15) (zip2 differs (upper_bits v) (replicate 8 0))) =
    mask_l-mod (map (top 15) (zip2 differs (upper_bits v) (replicate 8 0))) 64 (omega arith) in (
      λ t i l.
          let none = (none_differ (upper_bits v)).0 (sym mask ∙ eqb-true _ _ t) (i / 2) in
          let both = (pair (i / 2) (omega arith)).0 (sym (upper_in_pair v (i / 2) long small (omega arith)) ∙ none) in
          elim (cases_eq (i % 2) 0) [
            | inl even ↦ let e : 2 * (i / 2) ≡ i = omega arith in subst (λ k. get_or v k 0 < 16) e both.0
            | inr odd ↦ let e : 2 * (i / 2) + 1 ≡ i = omega arith in subst (λ k. get_or v k 0 < 16) e both.1
          ],
      λ all.
          eq-eqb _ _ (mask ∙ (none_differ (upper_bits v)).1 (λ i. elim (cases_lt i 8) [
            | inl l ↦ upper_in_pair v i long small l ∙ (pair i l).1 (all (2 * i) (omega arith), all (2 * i + 1) (omega arith))
            | inr g ↦ get_or_past (upper_bits v) i 0 (omega arith)
          ])),
    )

-- the octets of two vectors, of which each is at the place of its first value
pub octets_of_both : (a b x y : List ℕ) → length a ≡ 16 → length x ≡ 16
    → ((i : ℕ) → i < 8 → get_or x (2 * i) 0 ≡ octet_of (get_or a (2 * i) 0) (get_or a (2 * i + 1) 0))
    → ((i : ℕ) → i < 8 → get_or y (2 * i) 0 ≡ octet_of (get_or b (2 * i) 0) (get_or b (2 * i + 1) 0))
    → (i : ℕ) → i < 16 → get_or (x ++ y) (2 * i) 0 ≡ octet_of (get_or (a ++ b) (2 * i) 0) (get_or (a ++ b) (2 * i + 1) 0)
octets_of_both a b x y la lx first second i lt =
    elim (cases_lt i 8) [
      | inl l ↦
          get_or_append_left x y 0 (2 * i) (omega arith) ∙ first i l
          ∙ (λ j. octet_of (sym (get_or_append_left a b 0 (2 * i) (omega arith)) j) (sym (get_or_append_left a b 0 (2 * i + 1) (omega arith)) j))
      | inr g ↦
          let even : 2 * i - 16 ≡ 2 * (i - 8) = omega arith in
          let odd : 2 * i + 1 - 16 ≡ 2 * (i - 8) + 1 = omega arith in
          get_or-append_right x y 16 (2 * i) 0 lx (omega arith) ∙ ap (λ k. get_or y k 0) even ∙ second (i - 8) (omega arith)
          ∙ (λ j. octet_of (sym (get_or-append_right a b 16 (2 * i) 0 la (omega arith) ∙ ap (λ k. get_or b k 0) even) j)
          (sym (get_or-append_right a b 16 (2 * i + 1) 0 la (omega arith) ∙ ap (λ k. get_or b k 0) odd) j))
    ]

pub lifted : (a b : ℕ) → a < 256 → b < 256 → (min a (255 - b) + b) % 256 ≡ min (a + b) 255
lifted a b p q = omega arith

pub sunk : (a b : ℕ) → a < 256 → b < 256 → (max a b + (256 - b)) % 256 ≡ a - b
sunk a b p q = omega arith
