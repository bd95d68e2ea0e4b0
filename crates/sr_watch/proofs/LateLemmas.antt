-- Which copies came late, with one arrival more.
use Rattle.std.proofs.Common.{◌≡◌, ℕ, ◌+◌, ◌≤◌, Bool, true, false, cond, ◌&&◌, List, [], ◌∷◌, ◌++◌, min, arith, Some, refl, sym, ap, ◌∙◌, inl, inr}
use Rattle.std.specs.Prelude.{sum_by, nat_lt, ℤ}
use Rattle.std.proofs.lemmas.Bool.{cases_Bool, lt-ltb, le-ltb}
use Rattle.std.proofs.lemmas.List.Sums.{sum_by-cons, sum_by-append}
use Rattle.sr_audit.specs.declared.arrival.Arrival.{Arrival}
use Rattle.sr_audit.specs.declared.side.Side.{Side}
use Rattle.sr_audit.specs.declared.side.Side.TheVariants.{A, B}
use Rattle.sr_audit.specs.declared.tally.Sides.{Sides}
use Rattle.sr_audit.specs.Counting.{more_at}
use Rattle.sr_audit.specs.Edges.{first_time}
use Rattle.sr_audit.specs.Skewing.{pairs_up, skew_by, skews_in, skews_of, count_in}
use Rattle.sr_audit.specs.Stretches.{Placed, same_side, copy_as, goes_on, lies_from, top_number, stretch_begun, with_arrival, stretches}
use Rattle.sr_sequence.specs.Places.{number_at}
use Rattle.sr_watch.specs.Counted.{newest_at, lasts_of, lasts_with}
use Rattle.sr_watch.specs.Late.{is_late_skew, late_in, lates_of}

-- the greatest of 64 bits
abbrev most : ℕ
most = 18446744073709551615

-- how many skews are over
abbrev overs : List ℤ → ℕ
overs zs = count_in 6 zs

overs-cons : (z : ℤ) (zs : List ℤ) → overs (z ∷ zs) ≡ cond (is_late_skew z) 1 0 + overs zs
overs-cons z zs = sum_by-cons (λ y. cond (is_late_skew y) 1 0) z zs

overs-append : (zs ws : List ℤ) → overs (zs ++ ws) ≡ overs zs + overs ws
overs-append zs ws = sum_by-append (λ y. cond (is_late_skew y) 1 0) zs ws

-- one copy comes by one side
one_side : (side : Side) (l : Bool) (a b n : ℕ) → a + b ≡ n →
    (cond (l && same_side A side) 1 0 + a) + (cond (l && same_side B side) 1 0 + b) ≡ cond l 1 0 + n
one_side A true a b n e = omega (arith, e)
one_side B true a b n e = omega (arith, e)
one_side side false a b n e = omega (arith, e)

-- late copies of both sides are the skews that are over
late_both : (s : List Placed) → late_in A s + late_in B s ≡ overs (skews_in s)
late_both [] = refl
late_both (y ∷ s) =
    elim (cases_Bool (pairs_up y s)) [
      | inl pair ↦
          let z = skew_by y.side y.time (first_time y.number s) in
          rw pair (one_side y.side (is_late_skew z) (late_in A s) (late_in B s) (overs (skews_in s)) (late_both s) ∙ sym (overs-cons z (skews_in s)))
      | inr none ↦ rw none (let e = late_both s in omega (arith, e))
    ]

sums_of_both : (a b n c d m e f g : ℕ) → a + b ≡ n → c + d ≡ m → e ≡ a + c → f ≡ b + d → g ≡ n + m → e + f ≡ g
sums_of_both a b n c d m e f g p q r s t = omega (arith, p, q, r, s, t)

pub lates_both : (ss : List (List Placed)) → (lates_of ss).a + (lates_of ss).b ≡ overs (skews_of ss)
lates_both [] = refl
lates_both (s ∷ ss) =
    sums_of_both (late_in A s) (late_in B s) (overs (skews_in s)) (lates_of ss).a (lates_of ss).b (overs (skews_of ss)) _ _ _
    (late_both s) (lates_both ss) (sum_by-cons (late_in A) s ss) (sum_by-cons (late_in B) s ss) (overs-append (skews_in s) (skews_of ss))

-- counts with one more at a side, where the skews that are over are one more
more_by : (side : Side) (l t : Bool) (old : Sides) (n m : ℕ) → old.a + old.b ≡ n → m ≡ cond l 1 0 + n → m ≤ most → t ≡ l →
    more_at old side t ≡ record { a = cond (l && same_side A side) 1 0 + old.a; b = cond (l && same_side B side) 1 0 + old.b }
more_by A true t old n m e f g h = rw h (λ i. record { a = up i; b = same i })
  where
    up : min (old.a + 1) most ≡ 1 + old.a
    up = omega (arith, e, f, g)

    same : min (old.b + 0) most ≡ 0 + old.b
    same = omega (arith, e, f, g)
more_by B true t old n m e f g h = rw h (λ i. record { a = same i; b = up i })
  where
    up : min (old.b + 1) most ≡ 1 + old.b
    up = omega (arith, e, f, g)

    same : min (old.a + 0) most ≡ 0 + old.a
    same = omega (arith, e, f, g)
more_by A false t old n m e f g h = rw h (λ i. record { a = same_a i; b = same_b i })
  where
    same_a : min (old.a + 0) most ≡ 0 + old.a
    same_a = omega (arith, e, f, g)

    same_b : min (old.b + 0) most ≡ 0 + old.b
    same_b = omega (arith, e, f, g)
more_by B false t old n m e f g h = rw h (λ i. record { a = same_a i; b = same_b i })
  where
    same_a : min (old.a + 0) most ≡ 0 + old.a
    same_a = omega (arith, e, f, g)

    same_b : min (old.b + 0) most ≡ 0 + old.b
    same_b = omega (arith, e, f, g)

-- the test that they are more
tests_more : (l : Bool) (n m : ℕ) → m ≡ cond l 1 0 + n → nat_lt n m ≡ l
tests_more true n m e = lt-ltb n m (omega (arith, e))
tests_more false n m e = le-ltb n m (omega (arith, e))

moved : (side : Side) (l : Bool) (old new : Sides) (n m : ℕ) → old.a + old.b ≡ n → m ≡ cond l 1 0 + n → m ≤ most →
    new.a ≡ cond (l && same_side A side) 1 0 + old.a → new.b ≡ cond (l && same_side B side) 1 0 + old.b →
    more_at old side (nat_lt n m) ≡ new
moved side l old new n m e f g a b =
    more_by side l (nat_lt n m) old n m e f g (tests_more l n m f) ∙ (λ i. record { a = sym a i; b = sym b i })

-- where no skew is more
unmoved : (side : Side) (old new : Sides) (n : ℕ) → old.a + old.b ≡ n → n ≤ most → new.a ≡ old.a → new.b ≡ old.b →
    more_at old side (nat_lt n n) ≡ new
unmoved side old new n e g a b = moved side false old new n n e (omega arith) g (omega (arith, a)) (omega (arith, b))

same : (n : ℕ) → n ≡ 0 + n
same n = omega arith

and_same : (p q r : Bool) → (p && (q && r)) ≡ ((p && q) && r)
and_same true q r = refl
and_same false q r = refl

one_more_of : (k l r s t : ℕ) → t ≡ (k + l) + r → s ≡ l + r → t ≡ k + s
one_more_of k l r s t e f = omega (arith, e, f)

-- with a copy more in a stretch
late_on : (y : Placed) (s : List Placed) (rest : List (List Placed)) → overs (skews_of ((y ∷ s) ∷ rest)) ≤ most →
    more_at (lates_of (s ∷ rest)) y.side (nat_lt (overs (skews_of (s ∷ rest))) (overs (skews_of ((y ∷ s) ∷ rest)))) ≡ lates_of ((y ∷ s) ∷ rest)
late_on y s rest few =
    moved y.side (pairs_up y s && is_late_skew z) (lates_of (s ∷ rest)) (lates_of ((y ∷ s) ∷ rest)) (overs (skews_of (s ∷ rest)))
    (overs (skews_of ((y ∷ s) ∷ rest))) (lates_both (s ∷ rest)) (more (pairs_up y s)) few (at A) (at B)
  where
    z : ℤ
    z = skew_by y.side y.time (first_time y.number s)

    more : (t : Bool) → overs (cond t (z ∷ skews_in s) (skews_in s) ++ skews_of rest) ≡ cond (t && is_late_skew z) 1 0 + overs (skews_in s ++ skews_of rest)
    more true = overs-cons z (skews_in s ++ skews_of rest)
    more false = same (overs (skews_in s ++ skews_of rest))

    at : (side : Side) → sum_by (late_in side) ((y ∷ s) ∷ rest)
        ≡ cond ((pairs_up y s && is_late_skew z) && same_side side y.side) 1 0 + sum_by (late_in side) (s ∷ rest)
    at side = one_more_of _ (late_in side s) (sum_by (late_in side) rest) (sum_by (late_in side) (s ∷ rest)) _
        (sum_by-cons (late_in side) (y ∷ s) rest
        ∙ ap (λ b. (cond b 1 0 + late_in side s) + sum_by (late_in side) rest) (and_same (pairs_up y s) (is_late_skew z) (same_side side y.side)))
        (sum_by-cons (late_in side) s rest)

-- where an arrival begins a stretch
late_begun : (ss : List (List Placed)) (x : Arrival) → overs (skews_of ss) ≤ most →
    more_at (lates_of ss) x.side (nat_lt (overs (skews_of ss)) (overs (skews_of ss))) ≡ lates_of (stretch_begun x ∷ ss)
late_begun ss x few =
    unmoved x.side (lates_of ss) (lates_of (stretch_begun x ∷ ss)) (overs (skews_of ss)) (lates_both ss) few (at A) (at B)
  where
    at : (side : Side) → sum_by (late_in side) (stretch_begun x ∷ ss) ≡ sum_by (late_in side) ss
    at side = sum_by-cons (late_in side) (stretch_begun x) ss ∙ sym (same (sum_by (late_in side) ss))

-- with an arrival more
late_follows : (ss : List (List Placed)) (x : Arrival) → overs (skews_of (with_arrival ss x)) ≤ most →
    more_at (lates_of ss) x.side (nat_lt (overs (skews_of ss)) (overs (skews_of (with_arrival ss x)))) ≡ lates_of (with_arrival ss x)
late_follows [] x few = late_begun [] x few
late_follows (s ∷ ss) x few =
    elim (cases_Bool (goes_on s x)) [
      | inl on ↦ let room = rw on at few in rw on (late_on (copy_as x (number_at (top_number s) (lies_from s x.seq.0))) s ss room)
      | inr off ↦ let room = rw off at few in rw off (late_begun (s ∷ ss) x room)
    ]

pub lates_after : (xs : List Arrival) (x : Arrival) → overs (skews_of (stretches (x ∷ xs))) ≤ most →
    more_at (lates_of (stretches xs)) x.side (nat_lt (overs (skews_of (stretches xs))) (overs (skews_of (stretches (x ∷ xs)))))
    ≡ lates_of (stretches (x ∷ xs))
lates_after xs x few = late_follows (stretches xs) x few

-- when the last copies came
pub lasts_after : (x : Arrival) (xs : List Arrival) → lasts_with x.side x.time (lasts_of xs) ≡ lasts_of (x ∷ xs)
lasts_after x xs = by x.side
  where
    by : (side : Side) → lasts_with side x.time (lasts_of xs) ≡ record {
      a = cond (same_side A side) (Some x.time) (newest_at A xs);
      b = cond (same_side B side) (Some x.time) (newest_at B xs);
    }
    by A = refl
    by B = refl
