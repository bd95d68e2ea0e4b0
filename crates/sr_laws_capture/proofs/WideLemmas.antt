-- The least or the greatest skew of a source is beyond a limit exactly where some skew of it is.
use Rattle.std.proofs.Common.{◌≡◌, ℕ, ◌*◌, ◌≤◌, Bool, true, false, cond, ◌||◌, List, [], ◌∷◌, Option, None, Some, ℤ, pos, negsuc, ◌≤ℤ◌, arith, refl, sym, ap, ap₂, ◌∙◌}
use Rattle.std.specs.Prelude.{nat_lt, unsigned_abs, int_lt}
use Rattle.std.specs.Int.{int_min, int_max}
use Rattle.std.specs.List.{list_any}
use Rattle.std.proofs.lemmas.Bool.{lt-ltb, le-ltb, ltb-true, or_left, or_right}
use Rattle.std.proofs.lemmas.Int.{ints, int_max_is, int_min_is}
use Rattle.sr_audit.specs.Skewing.{skews_of, least_skew, greatest_skew}
use Rattle.sr_audit.specs.Stretches.{stretches}
use Rattle.sr_laws_capture.specs.Limited.{is_wider}
use Rattle.sr_laws_capture.specs.LimitCases.{PairsBeyondALimitAreTold}

abbrev Wide : ℕ → ℤ → Bool
Wide bound z = nat_lt bound (unsigned_abs z)

-- what lies between two is no further off than both
more : (bound n k : ℕ) → nat_lt bound n ≡ true → n ≤ k → nat_lt bound k ≡ true
more bound n k e le = lt-ltb bound k (omega (arith, ltb-true bound n e, le))

between : (bound : ℕ) (a m c : ℤ) → a ≤ℤ m → m ≤ℤ c → Wide bound m ≡ true → (Wide bound a || Wide bound c) ≡ true
between bound a (pos n) (pos k) low high e = or_right (Wide bound a) (Wide bound (pos k)) (more bound n k e (omega (arith, ints, high)))
between bound a (pos n) (negsuc k) low high e = absurd (omega (arith, ints, high))
between bound (pos k) (negsuc n) c low high e = absurd (omega (arith, ints, low))
between bound (negsuc k) (negsuc n) c low high e =
    or_left (Wide bound (negsuc k)) (Wide bound c) (more bound (unsigned_abs (negsuc n)) (unsigned_abs (negsuc k)) e (size n k low))
  where
    size : (n k : ℕ) → negsuc k ≤ℤ negsuc n → unsigned_abs (negsuc n) ≤ unsigned_abs (negsuc k)
    size n k low = omega (arith, ints, low)

absorbed : (a m c : Bool) → (m ≡ true → (a || c) ≡ true) → (m || (a || c)) ≡ (a || c)
absorbed a true c in_them = sym (in_them refl)
absorbed a false c in_them = refl

first_out : (a b c : Bool) → (a || (b || c)) ≡ (b || (a || c))
first_out true true c = refl
first_out true false c = refl
first_out false b c = refl

last_out : (a b c : Bool) → (a || (b || c)) ≡ (c || (b || a))
last_out a b c = grind arith

-- with one skew more
with_one : (bound : ℕ) (l g z : ℤ) → l ≤ℤ g →
    (Wide bound (int_min l z) || Wide bound (int_max g z)) ≡ (Wide bound z || (Wide bound l || Wide bound g))
with_one bound l g z order = by (int_lt z l) (int_lt z g) refl refl
  where
    goal : Bool → Bool → Type 0
    goal s t = (Wide bound (cond s z l) || Wide bound (cond t g z)) ≡ (Wide bound z || (Wide bound l || Wide bound g))

    by : (s t : Bool) → int_lt z l ≡ s → int_lt z g ≡ t → goal s t
    by true true e f =
        sym (first_out (Wide bound z) (Wide bound l) (Wide bound g)
        ∙ absorbed (Wide bound z) (Wide bound l) (Wide bound g) (between bound z l g (omega (arith, ints, e)) order))
    by true false e f = absurd (omega (arith, ints, e, f, order))
    by false true e f =
        sym (absorbed (Wide bound l) (Wide bound z) (Wide bound g) (between bound l z g (omega (arith, ints, e)) (omega (arith, ints, f))))
    by false false e f =
        sym (last_out (Wide bound z) (Wide bound l) (Wide bound g)
        ∙ absorbed (Wide bound l) (Wide bound g) (Wide bound z) (between bound l g z order (omega (arith, ints, f))))

ordered : (z : ℤ) (zs : List ℤ) → least_skew (z ∷ zs) ≤ℤ greatest_skew (z ∷ zs)
ordered z [] = omega (arith, ints)
ordered z (w ∷ zs) =
    omega (arith, ints, int_min_is (least_skew (w ∷ zs)) z, int_max_is (greatest_skew (w ∷ zs)) z, ordered w zs)

some_wide : (bound : ℕ) (z : ℤ) (zs : List ℤ) →
    (Wide bound (least_skew (z ∷ zs)) || Wide bound (greatest_skew (z ∷ zs))) ≡ list_any (Wide bound) (z ∷ zs)
some_wide bound z [] = by (Wide bound z)
  where
    by : (b : Bool) → (b || b) ≡ (b || false)
    by true = refl
    by false = refl
some_wide bound z (w ∷ zs) =
    with_one bound (least_skew (w ∷ zs)) (greatest_skew (w ∷ zs)) z (ordered w zs) ∙ ap (λ b. Wide bound z || b) (some_wide bound w zs)

none_wide : (zs : List ℤ) → list_any (λ (z : ℤ). false) zs ≡ false
none_wide [] = refl
none_wide (z ∷ zs) = none_wide zs

wide_are : (limit : Option ℕ) (zs : List ℤ) → (is_wider limit (least_skew zs) || is_wider limit (greatest_skew zs)) ≡ list_any (is_wider limit) zs
wide_are None zs = sym (none_wide zs)
wide_are (Some most) [] = ap₂ (λ a b. a || b) zero_size zero_size
  where
    zero_size : nat_lt (1000 * most) 0 ≡ false
    zero_size = le-ltb (1000 * most) 0 (omega arith)
wide_are (Some most) (z ∷ zs) = some_wide (1000 * most) z zs

pub wide_told : PairsBeyondALimitAreTold
wide_told limit spans xs s h few taken same =
    ap (λ f. is_wider limit f.skews.least || is_wider limit f.skews.greatest) same
    ∙ ap (λ k. is_wider limit k.least || is_wider limit k.greatest) (taken.skews few).shown
    ∙ wide_are limit (skews_of (stretches xs))
