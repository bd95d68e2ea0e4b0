-- The skews that are kept, with one arrival more.
use Rattle.std.proofs.Common.{◌≡◌, ℕ, zero, suc, ◌+◌, ◌-◌, ◌*◌, ◌<◌, ◌≤◌, Bool, true, false, cond, ◌||◌, ◌&&◌, not, List, [], ◌∷◌, length, ℤ, pos, negsuc, min, arith, refl, sym, ap, ◌∙◌, subst, inl, inr, length-append}
use Rattle.std.specs.Prelude.{sum_by, slice_index_or, nat_lt, nat_eq, unsigned_abs, ◌+ℤ◌, ◌-ℤ◌, ◌^◌}
use Rattle.std.specs.Int.{w128, int_min, int_max, saturate_signed}
use Rattle.std.proofs.Math.Dec.{eqb-suc-zero}
use Rattle.std.proofs.lemmas.Bool.{cases_Bool}
use Rattle.std.proofs.lemmas.Int.{ints}
use Rattle.std.proofs.lemmas.List.Sums.{sum_by-cons, count_by-le-length}
use Rattle.sr_sequence.specs.Places.{number_at, IsTheOne}
use Rattle.sr_audit.specs.declared.arrival.Arrival.{Arrival}
use Rattle.sr_audit.specs.declared.side.Side.{Side}
use Rattle.sr_audit.specs.declared.side.Side.TheVariants.{A, B}
use Rattle.sr_audit.specs.declared.skew.Skews.{Skews}
use Rattle.sr_audit.specs.declared.tally.Came.{Came}
use Rattle.sr_audit.specs.Counting.{has_come, came_before_at}
use Rattle.sr_audit.specs.Edges.{first_time, KeepsTimes}
use Rattle.sr_audit.specs.Lanes.{other_side}
use Rattle.sr_audit.specs.Limits.{kept_numbers, place_in, exact_arrivals}
use Rattle.sr_audit.specs.Looks.{came_by, by_neither, look_at}
use Rattle.sr_audit.specs.Shown.{bounded_sum}
use Rattle.sr_audit.specs.Skewing.{
  pairs_up,
  skew_by,
  skews_in,
  skews_of,
  least_skew,
  greatest_skew,
  sum_of_skews,
  class_of,
  count_in,
  classes_of,
  skews_shown,
  more_in,
  least_with,
  greatest_with,
  skews_with,
  skews_taken,
  KeepsSkews,
}
use Rattle.sr_audit.specs.Stretches.{
  Placed,
  copy_as,
  came,
  top_number,
  lies_from,
  goes_on,
  gone_on,
  stretch_begun,
  current,
  with_arrival,
  stretches,
}
use Rattle.sr_audit.proofs.FrameLemmas.{count-cons}
use Rattle.sr_audit.proofs.FollowLemmas.{number_is, length-stretches}

-- the greatest of 64 bits
abbrev most : ℕ
most = 18446744073709551615

-- the counts of seven classes, with one more in one of them
abbrev seven : ℕ → ℕ → ℕ → ℕ → ℕ → ℕ → ℕ → List ℕ
seven a b c d e f g = a ∷ b ∷ c ∷ d ∷ e ∷ f ∷ g ∷ []

seven_are : (a b c d e f g a' b' c' d' e' f' g' : ℕ) → a ≡ a' → b ≡ b' → c ≡ c' → d ≡ d' → e ≡ e' → f ≡ f' → g ≡ g' →
    seven a b c d e f g ≡ seven a' b' c' d' e' f' g'
seven_are a b c d e f g a' b' c' d' e' f' g' p q r s t u v = λ i. seven (p i) (q i) (r i) (s i) (t i) (u i) (v i)

same : (n : ℕ) → n ≡ 0 + n
same n = omega arith

one_in : (k a b c d e f g n : ℕ) → k < 7 → n + 1 ≤ most → a ≤ n → b ≤ n → c ≤ n → d ≤ n → e ≤ n → f ≤ n → g ≤ n →
    more_in k (seven a b c d e f g) ≡ seven (cond (nat_eq k 0) 1 0 + a) (cond (nat_eq k 1) 1 0 + b) (cond (nat_eq k 2) 1 0 + c)
    (cond (nat_eq k 3) 1 0 + d) (cond (nat_eq k 4) 1 0 + e) (cond (nat_eq k 5) 1 0 + f) (cond (nat_eq k 6) 1 0 + g)
one_in zero a b c d e f g n few room p q r s t u v =
    seven_are _ b c d e f g (1 + a) (0 + b) (0 + c) (0 + d) (0 + e) (0 + f) (0 + g)
    (omega (arith, room, p)) (same b) (same c) (same d) (same e) (same f) (same g)
one_in (suc zero) a b c d e f g n few room p q r s t u v =
    seven_are a _ c d e f g (0 + a) (1 + b) (0 + c) (0 + d) (0 + e) (0 + f) (0 + g)
    (same a) (omega (arith, room, q)) (same c) (same d) (same e) (same f) (same g)
one_in (suc (suc zero)) a b c d e f g n few room p q r s t u v =
    seven_are a b _ d e f g (0 + a) (0 + b) (1 + c) (0 + d) (0 + e) (0 + f) (0 + g)
    (same a) (same b) (omega (arith, room, r)) (same d) (same e) (same f) (same g)
one_in (suc (suc (suc zero))) a b c d e f g n few room p q r s t u v =
    seven_are a b c _ e f g (0 + a) (0 + b) (0 + c) (1 + d) (0 + e) (0 + f) (0 + g)
    (same a) (same b) (same c) (omega (arith, room, s)) (same e) (same f) (same g)
one_in (suc (suc (suc (suc zero)))) a b c d e f g n few room p q r s t u v =
    seven_are a b c d _ f g (0 + a) (0 + b) (0 + c) (0 + d) (1 + e) (0 + f) (0 + g)
    (same a) (same b) (same c) (same d) (omega (arith, room, t)) (same f) (same g)
one_in (suc (suc (suc (suc (suc zero))))) a b c d e f g n few room p q r s t u v =
    seven_are a b c d e _ g (0 + a) (0 + b) (0 + c) (0 + d) (0 + e) (1 + f) (0 + g)
    (same a) (same b) (same c) (same d) (same e) (omega (arith, room, u)) (same g)
one_in (suc (suc (suc (suc (suc (suc zero)))))) a b c d e f g n few room p q r s t u v =
    seven_are a b c d e f _ (0 + a) (0 + b) (0 + c) (0 + d) (0 + e) (0 + f) (1 + g)
    (same a) (same b) (same c) (same d) (same e) (same f) (omega (arith, room, v))
one_in (suc (suc (suc (suc (suc (suc (suc k))))))) a b c d e f g n few room p q r s t u v = absurd (omega (arith, few))

class_few : (size : ℕ) → class_of size < 7
class_few size = by (nat_lt size 10000) (nat_lt size 100000) (nat_lt size 1000000) (nat_lt size 10000000) (nat_lt size 100000000) (nat_lt size 400000000)
  where
    by : (a b c d e f : Bool) →
        cond a 0 (cond b 1 (cond c 2 (cond d 3 (cond e 4 (cond f 5 6))))) < 7
    by true b c d e f = omega arith
    by false true c d e f = omega arith
    by false false true d e f = omega arith
    by false false false true e f = omega arith
    by false false false false true f = omega arith
    by false false false false false true = omega arith
    by false false false false false false = omega arith

classes_more : (z : ℤ) (zs : List ℤ) → length zs + 1 ≤ most → more_in (class_of (unsigned_abs z)) (classes_of zs) ≡ classes_of (z ∷ zs)
classes_more z zs room =
    let k = class_of (unsigned_abs z) in
    one_in k (count_in 0 zs) (count_in 1 zs) (count_in 2 zs) (count_in 3 zs) (count_in 4 zs) (count_in 5 zs) (count_in 6 zs) (length zs)
    (class_few (unsigned_abs z)) room (le 0) (le 1) (le 2) (le 3) (le 4) (le 5) (le 6)
    ∙ seven_are _ _ _ _ _ _ _ (count_in 0 (z ∷ zs)) (count_in 1 (z ∷ zs)) (count_in 2 (z ∷ zs)) (count_in 3 (z ∷ zs)) (count_in 4 (z ∷ zs))
    (count_in 5 (z ∷ zs)) (count_in 6 (z ∷ zs)) (here 0) (here 1) (here 2) (here 3) (here 4) (here 5) (here 6)
  where
    le : (class : ℕ) → count_in class zs ≤ length zs
    le class = count_by-le-length (λ w. nat_eq (class_of (unsigned_abs w)) class) zs

    here : (class : ℕ) → cond (nat_eq (class_of (unsigned_abs z)) class) 1 0 + count_in class zs ≡ count_in class (z ∷ zs)
    here class = sym (count-cons (λ w. nat_eq (class_of (unsigned_abs w)) class) z zs)

-- sums that are small are whole
small_pos : (n : ℕ) → n < 170141183460469231731687303715884105728 → min n (2 ^ 127 - 1) ≡ n
small_pos n h = omega (arith, h)

sat_small : (v : ℤ) → unsigned_abs v < 170141183460469231731687303715884105728 → saturate_signed w128 v ≡ v
sat_small (pos n) h = ap pos (small_pos n h)
sat_small (negsuc n) h = ap negsuc (small_pos n (omega (arith, h)))

abs_sum : (a b : ℤ) → unsigned_abs (a +ℤ b) ≤ unsigned_abs a + unsigned_abs b
abs_sum a b = grind (arith, ints)

abs_less : (a b : ℕ) → a ≤ most → b ≤ most → unsigned_abs (pos a -ℤ pos b) ≤ most
abs_less a b f g = grind (arith, ints)

skew_small : (side : Side) (time first : ℕ) → time ≤ most → first ≤ most → unsigned_abs (skew_by side time first) ≤ most
skew_small A time first f g = abs_less first time g f
skew_small B time first f g = abs_less time first f g

-- what is kept with one skew more
sum_small : (n m k l : ℕ) → n ≤ m + k → m ≤ 18446744073709551616 * l → k ≤ most → n ≤ 18446744073709551616 * (1 + l)
sum_small n m k l e f g = omega (arith, e, f, g)

sum_fits : (n l : ℕ) → n ≤ 18446744073709551616 * (1 + l) → l ≤ 9007199254740992 → n < 170141183460469231731687303715884105728
sum_fits n l e f = omega (arith, e, f)

one_longer : (n l : ℕ) → n ≤ 18446744073709551616 * (1 + l) → n ≤ 18446744073709551616 * suc l
one_longer n l e = omega (arith, e)

kept_more : (z : ℤ) (zs : List ℤ) (k : Skews) → length zs ≤ 9007199254740992 → unsigned_abs z ≤ most → KeepsSkews zs k →
    KeepsSkews (z ∷ zs) (skews_with z k)
kept_more z zs k few small keeps =
    let bound : unsigned_abs (sum_of_skews zs +ℤ z) ≤ 18446744073709551616 * (1 + length zs) =
    sum_small _ (unsigned_abs (sum_of_skews zs)) (unsigned_abs z) (length zs) (abs_sum (sum_of_skews zs) z) keeps.small small in
    record {
      shown = ap (skews_with z) keeps.shown ∙ shows zs few (sat_small (sum_of_skews zs +ℤ z) (sum_fits _ (length zs) bound few))
          (classes_more z zs (omega (arith, few)));
      small = one_longer _ (length zs) bound;
    }
  where
    shows : (zs : List ℤ) → length zs ≤ 9007199254740992 → saturate_signed w128 (sum_of_skews zs +ℤ z) ≡ sum_of_skews (z ∷ zs) →
        more_in (class_of (unsigned_abs z)) (classes_of zs) ≡ classes_of (z ∷ zs) → skews_with z (skews_shown zs) ≡ skews_shown (z ∷ zs)
    shows [] few sums classes = λ i. record { count = 1; least = z; greatest = z; sum = sums i; classes = classes i }
    shows (w ∷ ws) few sums classes =
        let counts : bounded_sum (length (w ∷ ws)) 1 ≡ length (z ∷ w ∷ ws) = omega (arith, few) in
        let some : nat_eq (length (w ∷ ws)) 0 ≡ false = eqb-suc-zero (length ws) in
        let least : least_with (length (w ∷ ws)) (least_skew (w ∷ ws)) z ≡ least_skew (z ∷ w ∷ ws) =
        ap (λ b. cond b z (int_min (least_skew (w ∷ ws)) z)) some in
        let greatest : greatest_with (length (w ∷ ws)) (greatest_skew (w ∷ ws)) z ≡ greatest_skew (z ∷ w ∷ ws) =
        ap (λ b. cond b z (int_max (greatest_skew (w ∷ ws)) z)) some in
        λ i. record {
          count = counts i;
          least = least i;
          greatest = greatest i;
          sum = sums i;
          classes = classes i;
        }

-- the test by which copies came before is that of the stretch
same_test : (side : Side) (n : ℤ) (s : List Placed) →
    (has_come (came_by s n) && not (came_before_at (came_by s n) side)) ≡ (came (other_side side) n s && not (came side n s))
same_test A n s = by (came A n s) (came B n s)
  where
    by : (a b : Bool) → ((a || b) && not a) ≡ (b && not a)
    by true true = refl
    by true false = refl
    by false b = refl
same_test B n s = by (came A n s) (came B n s)
  where
    by : (a b : Bool) → ((a || b) && not b) ≡ (a && not b)
    by true b = refl
    by false true = refl
    by false false = refl

-- no more pairs than copies
skews_le : (s : List Placed) → length (skews_in s) ≤ length s
skews_le [] = omega arith
skews_le (y ∷ s) =
    elim (cases_Bool (pairs_up y s)) [
      | inl pair ↦ rw pair (omega (arith, skews_le s))
      | inr none ↦ rw none (omega (arith, skews_le s))
    ]

all_skews_le : (ss : List (List Placed)) → length (skews_of ss) ≤ sum_by length ss
all_skews_le [] = omega arith
all_skews_le (s ∷ ss) =
    omega (arith, length-append (skews_in s) (skews_of ss), sum_by-cons length s ss, skews_le s, all_skews_le ss)

-- where no copy came before, the time of the first one says nothing
any_time : (side : Side) (time : ℕ) (c : Came) (t u : ℕ) (k : Skews) → (has_come c ≡ true → t ≡ u) →
    skews_taken side time c t k ≡ skews_taken side time c u k
any_time side time c t u k same =
    elim (cases_Bool (has_come c)) [
      | inl known ↦ ap (λ v. skews_taken side time c v k) (same known)
      | inr new ↦ rw new refl
    ]

-- with one copy more
skews_more : (y : Placed) (s : List Placed) (rest : List (List Placed)) (k : Skews) → sum_by length (s ∷ rest) ≤ 9007199254740992 →
    y.time ≤ most → (pairs_up y s ≡ true → first_time y.number s ≤ most) → KeepsSkews (skews_of (s ∷ rest)) k →
    KeepsSkews (skews_of ((y ∷ s) ∷ rest)) (skews_taken y.side y.time (came_by s y.number) (first_time y.number s) k)
skews_more y s rest k few at_most first keeps =
    elim (cases_Bool (pairs_up y s)) [
      | inl pair ↦
          rw (same_test y.side y.number s, pair) (kept_more (skew_by y.side y.time (first_time y.number s)) (skews_of (s ∷ rest)) k
          (omega (arith, few, all_skews_le (s ∷ rest))) (skew_small y.side y.time (first_time y.number s) at_most (first pair)) keeps)
      | inr none ↦ rw (same_test y.side y.number s, none) keeps
    ]

-- a copy that makes a pair is not the first of its frame
known_pair : (y : Placed) (s : List Placed) → pairs_up y s ≡ true → has_come (came_by s y.number) ≡ true
known_pair y s pair = by y.side pair
  where
    by : (side : Side) → (came (other_side side) y.number s && not (came side y.number s)) ≡ true → has_come (came_by s y.number) ≡ true
    by A is = go (came A y.number s) (came B y.number s) is
      where
        go : (a b : Bool) → (b && not a) ≡ true → (a || b) ≡ true
        go true b is = refl
        go false true is = refl
        go false false is = is
    by B is = go (came A y.number s) (came B y.number s) is
      where
        go : (a b : Bool) → (a && not b) ≡ true → (a || b) ≡ true
        go true b is = refl
        go false b is = absurd cc

pub skews_follow : (ss : List (List Placed)) (x : Arrival) (moments : List ℕ) (k : Skews) → x.seq.0 < 65536 → x.time ≤ most →
    slice_index_or moments (place_in x.seq.0) 0 ≤ most → sum_by length ss ≤ 9007199254740992 → KeepsTimes (current ss) moments →
    KeepsSkews (skews_of ss) k →
    KeepsSkews (skews_of (with_arrival ss x)) (skews_taken x.side x.time (look_at ss x).came (slice_index_or moments (place_in x.seq.0) 0) k)
skews_follow ss x moments k fits at_most before_most few times keeps = go ss few times keeps
  where
    now : ℕ
    now = slice_index_or moments (place_in x.seq.0) 0

    on : (z : Placed) (before : List Placed) (rest : List (List Placed)) → sum_by length ((z ∷ before) ∷ rest) ≤ 9007199254740992 →
        KeepsTimes (z ∷ before) moments → KeepsSkews (skews_of ((z ∷ before) ∷ rest)) k →
        KeepsSkews (skews_of (gone_on (z ∷ before) x ∷ rest))
        (skews_taken x.side x.time (came_by (z ∷ before) (number_at (top_number (z ∷ before)) (lies_from (z ∷ before) x.seq.0))) now k)
    on z before rest room kept_times kept =
        let s = z ∷ before in
        let m = number_at (top_number s) (lies_from s x.seq.0) in
        let one : IsTheOne kept_numbers (top_number s) x.seq.0 m = number_is (top_number s) x.seq.0 fits in
        let first : has_come (came_by s m) ≡ true → now ≡ first_time m s =
        λ known. ap (λ p. slice_index_or moments (place_in p) 0) (sym one.carried) ∙ kept_times m known one.near.above in
        let small : pairs_up (copy_as x m) s ≡ true → first_time m s ≤ most =
        λ pair. subst (λ t. t ≤ most) (first (known_pair (copy_as x m) s pair)) before_most in
        subst (KeepsSkews (skews_of ((copy_as x m ∷ s) ∷ rest))) (sym (any_time x.side x.time (came_by s m) now (first_time m s) k first))
        (skews_more (copy_as x m) s rest k room at_most small kept)

    begun : (old : List (List Placed)) → KeepsSkews (skews_of old) k →
        KeepsSkews (skews_of (stretch_begun x ∷ old)) (skews_taken x.side x.time by_neither now k)
    begun old kept = kept

    go : (old : List (List Placed)) → sum_by length old ≤ 9007199254740992 → KeepsTimes (current old) moments → KeepsSkews (skews_of old) k →
        KeepsSkews (skews_of (with_arrival old x)) (skews_taken x.side x.time (look_at old x).came now k)
    go [] room kept_times kept = begun [] kept
    go ([] ∷ rest) room kept_times kept = begun ([] ∷ rest) kept
    go ((z ∷ before) ∷ rest) room kept_times kept =
        elim (cases_Bool (goes_on (z ∷ before) x)) [
          | inl goes ↦ rw goes (on z before rest room kept_times kept)
          | inr not_on ↦ rw not_on (begun ((z ∷ before) ∷ rest) kept)
        ]

-- the same, of what the calls answer
pub skews_after : (xs : List Arrival) (x : Arrival) (c : Came) (moments : List ℕ) (old new : Skews) → x.seq.0 < 65536 → x.time < 2 ^ 64 →
    slice_index_or moments (place_in x.seq.0) 0 < 2 ^ 64 → length (x ∷ xs) ≤ exact_arrivals → c ≡ (look_at (stretches xs) x).came →
    new ≡ skews_taken x.side x.time c (slice_index_or moments (place_in x.seq.0) 0) old → KeepsTimes (current (stretches xs)) moments →
    KeepsSkews (skews_of (stretches xs)) old → KeepsSkews (skews_of (stretches (x ∷ xs))) new
skews_after xs x c moments old new fits early before_early few look taken times keeps =
    let follows : KeepsSkews (skews_of (with_arrival (stretches xs) x))
    (skews_taken x.side x.time (look_at (stretches xs) x).came (slice_index_or moments (place_in x.seq.0) 0) old) =
    skews_follow (stretches xs) x moments old fits (omega (arith, early)) (omega (arith, before_early))
    (omega (arith, few, length-stretches xs)) times keeps in
    subst (KeepsSkews (skews_of (stretches (x ∷ xs))))
    (sym (taken ∙ ap (λ d. skews_taken x.side x.time d (slice_index_or moments (place_in x.seq.0) 0) old) look)) follows

-- what is kept before an arrival came
pub none_skewed : (k : Skews) → k ≡ record { count = 0; least = pos 0; greatest = pos 0; sum = pos 0; classes = 0 ∷ 0 ∷ 0 ∷ 0 ∷ 0 ∷ 0 ∷ 0 ∷ [] } →
    KeepsSkews [] k
none_skewed k none = record { shown = none; small = omega arith }
