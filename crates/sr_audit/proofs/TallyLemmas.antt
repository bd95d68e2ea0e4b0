-- The figures of all stretches with one copy more.
use Rattle.std.proofs.Common.{◌≡◌, ℕ, ◌+◌, ◌≤◌, Bool, true, false, cond, ◌||◌, ◌&&◌, not, List, [], ◌∷◌, length, arith, refl}
use Rattle.std.specs.Prelude.{sum_by}
use Rattle.std.proofs.lemmas.List.Sums.{sum_by-cons}
use Rattle.sr_audit.specs.declared.side.Side.{Side}
use Rattle.sr_audit.specs.declared.side.Side.TheVariants.{A, B}
use Rattle.sr_audit.specs.Counting.{more_if, less_if, joins, tally_with}
use Rattle.sr_audit.specs.Stretches.{Placed, same_side, came}
use Rattle.sr_audit.specs.Tallies.{frames_with, by_both, by_a_alone, by_b_alone, copies, repeats, tally_of}
use Rattle.sr_audit.proofs.FrameLemmas.{count-cons, frames_with-more}

-- every copy came in at one side
all_sides : (s : List Placed) → copies A s + copies B s ≡ length s
all_sides [] = refl
all_sides (y ∷ s) = by y.side (copies A (y ∷ s)) (copies B (y ∷ s)) (copies A s) (copies B s)
    (count-cons (λ z. same_side A z.side) y s) (count-cons (λ z. same_side B z.side) y s) (all_sides s)
  where
    by : (side : Side) (a' b' a b : ℕ) → a' ≡ cond (same_side A side) 1 0 + a → b' ≡ cond (same_side B side) 1 0 + b →
        a + b ≡ length s → a' + b' ≡ length (y ∷ s)
    by A a' b' a b e f g = omega (arith, e, f, g)
    by B a' b' a b e f g = omega (arith, e, f, g)

-- a copy is one of a pair, the only one at its side, or a repeat
by_a : (side : Side) (a b : Bool) (pairs' pairs alone' alone copies' copies repeated : ℕ) →
    pairs' + cond (a || b) (cond (a && b) 1 0) 0 ≡ pairs + cond ((same_side A side || a) && (same_side B side || b)) 1 0 →
    alone' + cond (a || b) (cond (a && not b) 1 0) 0 ≡ alone + cond ((same_side A side || a) && not (same_side B side || b)) 1 0 →
    copies' ≡ cond (same_side A side) 1 0 + copies → copies ≡ pairs + alone + repeated →
    copies' ≡ pairs' + alone' + (cond (same_side A side && a) 1 0 + repeated)
by_a A true true p' p l' l c' c r e f g h = omega (arith, e, f, g, h)
by_a A true false p' p l' l c' c r e f g h = omega (arith, e, f, g, h)
by_a A false true p' p l' l c' c r e f g h = omega (arith, e, f, g, h)
by_a A false false p' p l' l c' c r e f g h = omega (arith, e, f, g, h)
by_a B true true p' p l' l c' c r e f g h = omega (arith, e, f, g, h)
by_a B true false p' p l' l c' c r e f g h = omega (arith, e, f, g, h)
by_a B false true p' p l' l c' c r e f g h = omega (arith, e, f, g, h)
by_a B false false p' p l' l c' c r e f g h = omega (arith, e, f, g, h)

by_b : (side : Side) (a b : Bool) (pairs' pairs alone' alone copies' copies repeated : ℕ) →
    pairs' + cond (a || b) (cond (a && b) 1 0) 0 ≡ pairs + cond ((same_side A side || a) && (same_side B side || b)) 1 0 →
    alone' + cond (a || b) (cond (b && not a) 1 0) 0 ≡ alone + cond ((same_side B side || b) && not (same_side A side || a)) 1 0 →
    copies' ≡ cond (same_side B side) 1 0 + copies → copies ≡ pairs + alone + repeated →
    copies' ≡ pairs' + alone' + (cond (same_side B side && b) 1 0 + repeated)
by_b A true true p' p l' l c' c r e f g h = omega (arith, e, f, g, h)
by_b A true false p' p l' l c' c r e f g h = omega (arith, e, f, g, h)
by_b A false true p' p l' l c' c r e f g h = omega (arith, e, f, g, h)
by_b A false false p' p l' l c' c r e f g h = omega (arith, e, f, g, h)
by_b B true true p' p l' l c' c r e f g h = omega (arith, e, f, g, h)
by_b B true false p' p l' l c' c r e f g h = omega (arith, e, f, g, h)
by_b B false true p' p l' l c' c r e f g h = omega (arith, e, f, g, h)
by_b B false false p' p l' l c' c r e f g h = omega (arith, e, f, g, h)

pub copies_a : (s : List Placed) → copies A s ≡ frames_with by_both s + frames_with by_a_alone s + repeats A s
copies_a [] = refl
copies_a (y ∷ s) = by_a y.side (came A y.number s) (came B y.number s) (frames_with by_both (y ∷ s)) (frames_with by_both s)
    (frames_with by_a_alone (y ∷ s)) (frames_with by_a_alone s) (copies A (y ∷ s)) (copies A s) (repeats A s)
    (frames_with-more by_both y s) (frames_with-more by_a_alone y s) (count-cons (λ z. same_side A z.side) y s) (copies_a s)

pub copies_b : (s : List Placed) → copies B s ≡ frames_with by_both s + frames_with by_b_alone s + repeats B s
copies_b [] = refl
copies_b (y ∷ s) = by_b y.side (came A y.number s) (came B y.number s) (frames_with by_both (y ∷ s)) (frames_with by_both s)
    (frames_with by_b_alone (y ∷ s)) (frames_with by_b_alone s) (copies B (y ∷ s)) (copies B s) (repeats B s)
    (frames_with-more by_both y s) (frames_with-more by_b_alone y s) (count-cons (λ z. same_side B z.side) y s) (copies_b s)

-- sums of counts that are equal, stretch by stretch
sum_of_three : (f g h k : List Placed → ℕ) → ((s : List Placed) → f s ≡ g s + h s + k s) → (ss : List (List Placed)) →
    sum_by f ss ≡ sum_by g ss + sum_by h ss + sum_by k ss
sum_of_three f g h k each [] = refl
sum_of_three f g h k each (s ∷ ss) = omega (
  arith,
  sum_by-cons f s ss,
  sum_by-cons g s ss,
  sum_by-cons h s ss,
  sum_by-cons k s ss,
  each s,
  sum_of_three f g h k each ss,
)

sum_of_two : (f g h : List Placed → ℕ) → ((s : List Placed) → f s + g s ≡ h s) → (ss : List (List Placed)) →
    sum_by f ss + sum_by g ss ≡ sum_by h ss
sum_of_two f g h each [] = refl
sum_of_two f g h each (s ∷ ss) = omega (arith, sum_by-cons f s ss, sum_by-cons g s ss, sum_by-cons h s ss, each s, sum_of_two f g h each ss)

pub rx_a-sum : (ss : List (List Placed)) →
    (tally_of ss).rx.a ≡ (tally_of ss).pairs + (tally_of ss).alone.a + (tally_of ss).repeats.a
rx_a-sum ss = sum_of_three (copies A) (frames_with by_both) (frames_with by_a_alone) (repeats A) copies_a ss

pub rx_b-sum : (ss : List (List Placed)) →
    (tally_of ss).rx.b ≡ (tally_of ss).pairs + (tally_of ss).alone.b + (tally_of ss).repeats.b
rx_b-sum ss = sum_of_three (copies B) (frames_with by_both) (frames_with by_b_alone) (repeats B) copies_b ss

pub rx-sum : (ss : List (List Placed)) → (tally_of ss).rx.a + (tally_of ss).rx.b ≡ sum_by length ss
rx-sum ss = sum_of_two (copies A) (copies B) length all_sides ss

-- a figure with one copy more, where the sum does not pass 64 bits
plus_cases : (b : Bool) (n m : ℕ) → m ≡ n + cond b 1 0 → m ≤ 18446744073709551615 → more_if n b ≡ m
plus_cases true n m e h = omega (arith, e, h)
plus_cases false n m e h = omega (arith, e, h)

pairs_more : (side : Side) (a b : Bool) (p' p r : ℕ) →
    p' + cond (a || b) (cond (a && b) 1 0) 0 ≡ p + cond ((same_side A side || a) && (same_side B side || b)) 1 0 →
    p' + r ≤ 18446744073709551615 →
    more_if (p + r) (joins (same_side B side) b a || joins (same_side A side) a b) ≡ p' + r
pairs_more A true true p' p r e h = omega (arith, e, h)
pairs_more A true false p' p r e h = omega (arith, e, h)
pairs_more A false true p' p r e h = omega (arith, e, h)
pairs_more A false false p' p r e h = omega (arith, e, h)
pairs_more B true true p' p r e h = omega (arith, e, h)
pairs_more B true false p' p r e h = omega (arith, e, h)
pairs_more B false true p' p r e h = omega (arith, e, h)
pairs_more B false false p' p r e h = omega (arith, e, h)

alone_a_more : (side : Side) (a b : Bool) (p' p r : ℕ) →
    p' + cond (a || b) (cond (a && not b) 1 0) 0 ≡ p + cond ((same_side A side || a) && not (same_side B side || b)) 1 0 →
    p' + r ≤ 18446744073709551615 → p + r ≤ 18446744073709551615 →
    less_if (more_if (p + r) (same_side A side && (not a && not b))) (joins (same_side B side) b a) ≡ p' + r
alone_a_more A true true p' p r e h k = omega (arith, e, h, k)
alone_a_more A true false p' p r e h k = omega (arith, e, h, k)
alone_a_more A false true p' p r e h k = omega (arith, e, h, k)
alone_a_more A false false p' p r e h k = omega (arith, e, h, k)
alone_a_more B true true p' p r e h k = omega (arith, e, h, k)
alone_a_more B true false p' p r e h k = omega (arith, e, h, k)
alone_a_more B false true p' p r e h k = omega (arith, e, h, k)
alone_a_more B false false p' p r e h k = omega (arith, e, h, k)

alone_b_more : (side : Side) (a b : Bool) (p' p r : ℕ) →
    p' + cond (a || b) (cond (b && not a) 1 0) 0 ≡ p + cond ((same_side B side || b) && not (same_side A side || a)) 1 0 →
    p' + r ≤ 18446744073709551615 → p + r ≤ 18446744073709551615 →
    less_if (more_if (p + r) (same_side B side && (not a && not b))) (joins (same_side A side) a b) ≡ p' + r
alone_b_more A true true p' p r e h k = omega (arith, e, h, k)
alone_b_more A true false p' p r e h k = omega (arith, e, h, k)
alone_b_more A false true p' p r e h k = omega (arith, e, h, k)
alone_b_more A false false p' p r e h k = omega (arith, e, h, k)
alone_b_more B true true p' p r e h k = omega (arith, e, h, k)
alone_b_more B true false p' p r e h k = omega (arith, e, h, k)
alone_b_more B false true p' p r e h k = omega (arith, e, h, k)
alone_b_more B false false p' p r e h k = omega (arith, e, h, k)

-- what stretches were before a copy came into one of them, or began one: the sum of a count that is 0 of none
pub record Grows (old : List (List Placed)) (s : List Placed) (rest : List (List Placed)) : Type 1 where
  pub sums : (f : List Placed → ℕ) → f [] ≡ 0 → sum_by f old ≡ f s + sum_by f rest

-- the figures with that copy
pub tally-more : (old rest : List (List Placed)) (y : Placed) (s : List Placed) → Grows old s rest →
    sum_by length ((y ∷ s) ∷ rest) ≤ 18446744073709551615 →
    tally_with (tally_of old) y.side (record { a = came A y.number s; b = came B y.number s }) ≡ tally_of ((y ∷ s) ∷ rest)
tally-more old rest y s grows few =
    let new = (y ∷ s) ∷ rest in
    let side = y.side in
    let a = came A y.number s in
    let b = came B y.number s in
    let total : (tally_of new).rx.a + (tally_of new).rx.b ≡ sum_by length new = rx-sum new in
    let total_a : (tally_of new).rx.a ≡ (tally_of new).pairs + (tally_of new).alone.a + (tally_of new).repeats.a = rx_a-sum new in
    let total_b : (tally_of new).rx.b ≡ (tally_of new).pairs + (tally_of new).alone.b + (tally_of new).repeats.b = rx_b-sum new in
    let old_total : (tally_of old).rx.a + (tally_of old).rx.b ≡ sum_by length old = rx-sum old in
    let old_a : (tally_of old).rx.a ≡ (tally_of old).pairs + (tally_of old).alone.a + (tally_of old).repeats.a = rx_a-sum old in
    let old_b : (tally_of old).rx.b ≡ (tally_of old).pairs + (tally_of old).alone.b + (tally_of old).repeats.b = rx_b-sum old in
    let old_few : sum_by length old ≤ 18446744073709551615 =
    omega (arith, grows.sums length refl, sum_by-cons length (y ∷ s) rest, few) in
    let old_alone_a : (tally_of old).alone.a ≤ 18446744073709551615 = omega (arith, old_total, old_a, old_few) in
    let old_alone_b : (tally_of old).alone.b ≤ 18446744073709551615 = omega (arith, old_total, old_b, old_few) in
    let new_pairs : (tally_of new).pairs ≤ 18446744073709551615 = omega (arith, total, total_a, few) in
    let new_alone_a : (tally_of new).alone.a ≤ 18446744073709551615 = omega (arith, total, total_a, few) in
    let new_alone_b : (tally_of new).alone.b ≤ 18446744073709551615 = omega (arith, total, total_b, few) in
    let new_repeats_a : (tally_of new).repeats.a ≤ 18446744073709551615 = omega (arith, total, total_a, few) in
    let new_repeats_b : (tally_of new).repeats.b ≤ 18446744073709551615 = omega (arith, total, total_b, few) in
    let new_rx_a : (tally_of new).rx.a ≤ 18446744073709551615 = omega (arith, total, few) in
    let new_rx_b : (tally_of new).rx.b ≤ 18446744073709551615 = omega (arith, total, few) in
    let rx_a : more_if (tally_of old).rx.a (same_side A side) ≡ (tally_of new).rx.a =
    plus_cases (same_side A side) (tally_of old).rx.a (tally_of new).rx.a (added (copies A) (same_side A side) refl
    (count-cons (λ z. same_side A z.side) y s)) new_rx_a in
    let rx_b : more_if (tally_of old).rx.b (same_side B side) ≡ (tally_of new).rx.b =
    plus_cases (same_side B side) (tally_of old).rx.b (tally_of new).rx.b (added (copies B) (same_side B side) refl
    (count-cons (λ z. same_side B z.side) y s)) new_rx_b in
    let repeats_a : more_if (tally_of old).repeats.a (same_side A side && a) ≡ (tally_of new).repeats.a =
    plus_cases (same_side A side && a) (tally_of old).repeats.a (tally_of new).repeats.a
    (added (repeats A) (same_side A side && a) refl refl) new_repeats_a in
    let repeats_b : more_if (tally_of old).repeats.b (same_side B side && b) ≡ (tally_of new).repeats.b =
    plus_cases (same_side B side && b) (tally_of old).repeats.b (tally_of new).repeats.b
    (added (repeats B) (same_side B side && b) refl refl) new_repeats_b in
    let pairs : more_if (tally_of old).pairs (joins (same_side B side) b a || joins (same_side A side) a b) ≡ (tally_of new).pairs =
    rw (grows.sums (frames_with by_both) refl, sum_by-cons (frames_with by_both) (y ∷ s) rest)
    (pairs_more side a b (frames_with by_both (y ∷ s)) (frames_with by_both s) (sum_by (frames_with by_both) rest)
    (frames_with-more by_both y s) (rw (sum_by-cons (frames_with by_both) (y ∷ s) rest) at new_pairs)) in
    let alone_a : less_if (more_if (tally_of old).alone.a (same_side A side && (not a && not b))) (joins (same_side B side) b a)
    ≡ (tally_of new).alone.a =
    rw (grows.sums (frames_with by_a_alone) refl, sum_by-cons (frames_with by_a_alone) (y ∷ s) rest)
    (alone_a_more side a b (frames_with by_a_alone (y ∷ s)) (frames_with by_a_alone s) (sum_by (frames_with by_a_alone) rest)
    (frames_with-more by_a_alone y s) (rw (sum_by-cons (frames_with by_a_alone) (y ∷ s) rest) at new_alone_a)
    (rw (grows.sums (frames_with by_a_alone) refl) at old_alone_a)) in
    let alone_b : less_if (more_if (tally_of old).alone.b (same_side B side && (not a && not b))) (joins (same_side A side) a b)
    ≡ (tally_of new).alone.b =
    rw (grows.sums (frames_with by_b_alone) refl, sum_by-cons (frames_with by_b_alone) (y ∷ s) rest)
    (alone_b_more side a b (frames_with by_b_alone (y ∷ s)) (frames_with by_b_alone s) (sum_by (frames_with by_b_alone) rest)
    (frames_with-more by_b_alone y s) (rw (sum_by-cons (frames_with by_b_alone) (y ∷ s) rest) at new_alone_b)
    (rw (grows.sums (frames_with by_b_alone) refl) at old_alone_b)) in
    λ i. record {
      rx = record { a = rx_a i; b = rx_b i };
      pairs = pairs i;
      alone = record { a = alone_a i; b = alone_b i };
      repeats = record { a = repeats_a i; b = repeats_b i };
    }
  where
    added : (f : List Placed → ℕ) (t : Bool) → f [] ≡ 0 → f (y ∷ s) ≡ cond t 1 0 + f s →
        sum_by f ((y ∷ s) ∷ rest) ≡ sum_by f old + cond t 1 0
    added f t none more = omega (arith, grows.sums f none, sum_by-cons f (y ∷ s) rest, more)
