-- What lines told together, with one line more.
use Rattle.std.proofs.Common.{◌≡◌, ℕ, ◌+◌, ◌*◌, ◌≤◌, ◌<◌, ◌^◌, List, [], ◌∷◌, length, ℤ, pos, negsuc, min, arith, refl, ap, ◌∙◌, inl, inr, length-append}
use Rattle.std.specs.Prelude.{sum_by, unsigned_abs, ◌+ℤ◌, ◌-ℤ◌, ◌-◌}
use Rattle.std.specs.Int.{w128, saturate_signed}
use Rattle.std.proofs.lemmas.Bool.{cases_Bool}
use Rattle.std.proofs.lemmas.Int.{ints}
use Rattle.std.proofs.lemmas.List.Sums.{sum_by-cons}
use Rattle.sr_audit.specs.declared.arrival.Arrival.{Arrival}
use Rattle.sr_audit.specs.declared.tally.Sides.{Sides}
use Rattle.sr_audit.specs.Limits.{exact_arrivals}
use Rattle.sr_audit.specs.Skewing.{pairs_up, skews_in, skews_of, sum_of_skews}
use Rattle.sr_audit.specs.Stretches.{Placed, goes_on, gone_on, stretch_begun, with_arrival, stretches}
use Rattle.sr_watch.specs.declared.counts.Counts.{Counts}
use Rattle.sr_watch.specs.declared.report.SourceLine.{SourceLine}
use Rattle.sr_watch.specs.Changed.{change, side_changes, changes_between, side_plus, plus, side_whole, as_changes, IsSmall, HasTold}
use Rattle.sr_watch.specs.Counted.{counted_of}

-- no more skews than arrivals
stands : (xs : List Arrival) → sum_by length (stretches xs) ≡ length xs
stands [] = refl
stands (x ∷ xs) = more (stretches xs) (stands xs)
  where
    more : (ss : List (List Placed)) → sum_by length ss ≡ length xs → sum_by length (with_arrival ss x) ≡ length (x ∷ xs)
    more [] e = omega (arith, e)
    more (s ∷ ss) e =
        elim (cases_Bool (goes_on s x)) [
          | inl on ↦ rw on (omega (arith, e, sum_by-cons length s ss, sum_by-cons length (gone_on s x) ss))
          | inr off ↦ rw off (omega (arith, e, sum_by-cons length (stretch_begun x) (s ∷ ss)))
        ]

few_in : (s : List Placed) → length (skews_in s) ≤ length s
few_in [] = omega arith
few_in (y ∷ s) =
    elim (cases_Bool (pairs_up y s)) [
      | inl pair ↦ rw pair (omega (arith, few_in s))
      | inr none ↦ rw none (omega (arith, few_in s))
    ]

few_of : (ss : List (List Placed)) → length (skews_of ss) ≤ sum_by length ss
few_of [] = omega arith
few_of (s ∷ ss) = omega (arith, length-append (skews_in s) (skews_of ss), sum_by-cons length s ss, few_in s, few_of ss)

bound : (n l k x : ℕ) → n ≤ 18446744073709551616 * l → l ≤ k → k ≡ x → x ≤ 9007199254740992 → n ≤ 1329227995784915872903807060280344576
bound n l k x e f g h = omega (arith, e, f, g, h)

-- the sum of the skews of so many arrivals
pub small_of : (mark : ℕ) (xs : List Arrival) → length xs ≤ exact_arrivals →
    unsigned_abs (sum_of_skews (skews_of (stretches xs))) ≤ 2 ^ 64 * length (skews_of (stretches xs)) → IsSmall (counted_of mark xs)
small_of mark xs few small = bound _ (length (skews_of (stretches xs))) (sum_by length (stretches xs)) (length xs) small (few_of (stretches xs)) (stands xs) few

small_pos : (n : ℕ) → n < 170141183460469231731687303715884105728 → min n (2 ^ 127 - 1) ≡ n
small_pos n h = omega (arith, h)

sat_small : (v : ℤ) → unsigned_abs v < 170141183460469231731687303715884105728 → saturate_signed w128 v ≡ v
sat_small (pos n) h = ap pos (small_pos n h)
sat_small (negsuc n) h = ap negsuc (small_pos n (omega (arith, h)))

abs_less : (a b : ℤ) → unsigned_abs (a -ℤ b) ≤ unsigned_abs a + unsigned_abs b
abs_less a b = grind (arith, ints)

both_small : (n a b : ℕ) → n ≤ a + b → a ≤ 1329227995784915872903807060280344576 → b ≤ 1329227995784915872903807060280344576 →
    n < 170141183460469231731687303715884105728
both_small n a b e f g = omega (arith, e, f, g)

-- a difference of sums of skews is whole
whole_difference : (a b : ℤ) → unsigned_abs a ≤ 1329227995784915872903807060280344576 → unsigned_abs b ≤ 1329227995784915872903807060280344576 →
    saturate_signed w128 (a -ℤ b) +ℤ b ≡ a
whole_difference a b f g =
    ap (λ v. v +ℤ b) (sat_small (a -ℤ b) (both_small _ (unsigned_abs a) (unsigned_abs b) (abs_less a b) f g)) ∙ back a b
  where
    back : (a b : ℤ) → (a -ℤ b) +ℤ b ≡ a
    back a b = omega (arith, ints)

-- what was told and what was not are all
all_is : (told all : ℕ) → change told all +ℤ pos told ≡ pos all
all_is told all = omega (arith, ints)

sides_are : (told all : Sides) → side_plus (side_changes told all) (side_whole told) ≡ side_whole all
sides_are told all = λ i. record { a = all_is told.a all.a i; b = all_is told.b all.b i }

pub all_are : (told all : Counts) → IsSmall told → IsSmall all → plus (changes_between told all) (as_changes told) ≡ as_changes all
all_are told all f g = λ i. record {
  rx = sides_are told.rx all.rx i;
  both = all_is told.both all.both i;
  lost = sides_are told.lost all.lost i;
  late = sides_are told.late all.late i;
  repeats = sides_are told.repeats all.repeats i;
  order = sides_are told.order all.order i;
  neither = all_is told.neither all.neither i;
  jumps = all_is told.jumps all.jumps i;
  restarts = all_is told.restarts all.restarts i;
  pairs = all_is told.skews.count all.skews.count i;
  skew_sum = whole_difference all.skews.sum told.skews.sum g f i;
}

-- with one line more
pub told_more : (lines : List SourceLine) (line : SourceLine) (told : Counts) → HasTold lines told → IsSmall line.total →
    line.interval ≡ changes_between told line.total → HasTold (line ∷ lines) line.total
told_more lines line told has small interval =
    record {
      sums = (λ i. plus (interval i) (has.sums i)) ∙ all_are told line.total has.small small;
      small = small;
    }
