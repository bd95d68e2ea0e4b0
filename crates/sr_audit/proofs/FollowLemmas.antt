-- The record of a source follows its arrivals.
use Rattle.std.proofs.Common.{◌≡◌, ℕ, ◌+◌, ◌-◌, ◌<◌, ◌≤◌, Bool, true, false, cond, ◌||◌, ◌&&◌, List, [], ◌∷◌, length, ℤ, pos, arith, refl, sym, ap, ◌∙◌, subst, inl, inr}
use Rattle.std.specs.Prelude.{sum_by, nat_lt, ◌^◌}
use Rattle.std.specs.Ordering.{int_eq}
use Rattle.std.proofs.lemmas.Bool.{cases_Bool, cases_lt, lt-ltb, le-ltb}
use Rattle.std.proofs.lemmas.List.Sums.{sum_by-cons}
use Rattle.sr_sequence.specs.Numbers.{wire}
use Rattle.sr_sequence.specs.Places.{place_of, number_at, steps, IsTheOne}
use Rattle.sr_sequence.specs.NumberLemmas.{behind_is, ahead_is}
use Rattle.sr_dup_window.specs.LaneSets.{has, only, is_empty}
use Rattle.sr_dup_window.specs.Families.{StandsFor}
use Rattle.sr_dup_window.specs.Windows.{Window, window_of, window_begun, window_noted, has_of}
use Rattle.sr_dup_window.specs.WindowLemmas.{begun-stands, noted-stands, has-by-family}
use Rattle.sr_audit.specs.declared.side.Side.{Side}
use Rattle.sr_audit.specs.declared.side.Side.TheVariants.{A, B}
use Rattle.sr_audit.specs.declared.arrival.Arrival.{Arrival}
use Rattle.sr_audit.specs.declared.numbers.Numbers.{Numbers}
use Rattle.sr_audit.specs.declared.look.Look.{Look}
use Rattle.sr_audit.specs.declared.tally.Came.{Came}
use Rattle.sr_audit.specs.declared.tally.Tally.{Tally}
use Rattle.sr_audit.specs.Limits.{kept_numbers, epoch_gap}
use Rattle.sr_audit.specs.Lanes.{side_lane}
use Rattle.sr_audit.specs.Counting.{tally_with}
use Rattle.sr_audit.specs.Stretches.{Placed, copy_as, same_side, came, top_number, lies_from, goes_to, goes_on, gone_on, stretch_begun, with_arrival, stretches}
use Rattle.sr_audit.specs.Tallies.{tally_of}
use Rattle.sr_audit.specs.Looks.{step_by, came_by, by_neither, came_before, look_at}
use Rattle.sr_audit.specs.Following.{family_in, KeepsFigures, FollowsArrivals}
use Rattle.sr_audit.proofs.TallyLemmas.{tally-more}

-- the lane of a side tells the sides apart
has_side : (side other : Side) → has (only (side_lane other)) (side_lane side) ≡ same_side side other
has_side A A = refl
has_side A B = refl
has_side B A = refl
has_side B B = refl

some_lane_of : (side : Side) → is_empty (only (side_lane side)) ≡ false
some_lane_of A = refl
some_lane_of B = refl

-- the family of a stretch has a number where a copy came
pub family_came : (s : List Placed) (side : Side) (n : ℤ) → family_in s (side_lane side) n ≡ came side n s
family_came [] side n = refl
family_came (y ∷ []) side n =
    ap (λ b. int_eq n y.number && b) (has_side side y.side) ∙ or_none (int_eq n y.number && same_side side y.side)
  where
    or_none : (b : Bool) → b ≡ (b || false)
    or_none true = refl
    or_none false = refl
family_came (y ∷ z ∷ before) side n = turned (family_in (z ∷ before) (side_lane side) n) (int_eq n y.number && has (only (side_lane y.side)) (side_lane side))
    (came side n (z ∷ before)) (int_eq n y.number && same_side side y.side) (family_came (z ∷ before) side n)
    (ap (λ b. int_eq n y.number && b) (has_side side y.side))
  where
    turned : (a b c d : Bool) → a ≡ c → b ≡ d → (a || b) ≡ (d || c)
    turned true b c true e f = refl
    turned true b true false e f = refl
    turned true b false false e f = let no : true ≡ false = e in absurd cc
    turned false b c true e f = f
    turned false b c false e f = cc

-- the number that an arrival has, of those near the greatest
pub number_is : (greatest : ℤ) (seq : ℕ) → seq < 65536 →
    IsTheOne kept_numbers greatest seq (number_at greatest (place_of (wire greatest) seq kept_numbers))
number_is greatest seq fits =
    elim (cases_lt (steps seq (wire greatest)) kept_numbers) [
      | inl less ↦ rw (lt-ltb (steps seq (wire greatest)) kept_numbers less)
          (behind_is kept_numbers greatest (wire greatest) seq (omega arith) (omega arith) fits less refl)
      | inr more ↦ rw (le-ltb (steps seq (wire greatest)) kept_numbers more)
          (ahead_is kept_numbers greatest (wire greatest) seq (omega arith) (omega arith) fits more refl)
    ]

-- all copies stand in the stretches
pub length-stretches : (xs : List Arrival) → sum_by length (stretches xs) ≡ length xs
length-stretches [] = refl
length-stretches (x ∷ xs) = more (stretches xs) (length-stretches xs)
  where
    more : (ss : List (List Placed)) → sum_by length ss ≡ length xs → sum_by length (with_arrival ss x) ≡ length (x ∷ xs)
    more [] e = omega (arith, e)
    more (s ∷ ss) e =
        elim (cases_Bool (goes_on s x)) [
          | inl on ↦ rw on (omega (arith, e, sum_by-cons length s ss, sum_by-cons length (gone_on s x) ss))
          | inr off ↦ rw off (omega (arith, e, sum_by-cons length (stretch_begun x) (s ∷ ss)))
        ]

wire_small : (n : ℕ) → n < 65536 → wire (pos n) ≡ n
wire_small n h = omega (arith, h)

-- the record of the first arrival
pub begun_follows : (x : Arrival) (n : Numbers) (t : Tally) → x.seq.0 < 65536 → t ≡ tally_of [] →
    window_of n.seen ≡ window_begun kept_numbers x.seq.0 (only (side_lane x.side)) → n.last ≡ x.time →
    n.tally ≡ tally_with t x.side (record { a = false; b = false }) → FollowsArrivals (x ∷ []) n
begun_follows x n t fits none seen last tally =
    let P : Window → Type 0 = λ w. StandsFor kept_numbers w (family_in (stretch_begun x)) (top_number (stretch_begun x)) in
    record {
      seen = subst P (sym seen) (begun-stands kept_numbers (only (side_lane x.side)) (pos x.seq.0) x.seq.0 (inl refl) (some_lane_of x.side)
          (wire_small x.seq.0 fits));
      last = last;
      tally = tally ∙ ap (λ u. tally_with u x.side (record { a = false; b = false })) none
          ∙ tally-more [] [] (copy_as x (pos x.seq.0)) [] (record { sums = λ f zero. sym (omega (arith, zero)) }) (omega arith);
    }

-- the test of the record is that of the stretch
abbrev pub goes_by : Numbers → Arrival → Bool
goes_by n x = goes_to (nat_lt (x.time - n.last) epoch_gap) (place_of (window_of n.seen).reference x.seq.0 kept_numbers)

tested : (y : Placed) (before : List Placed) (x : Arrival) (n : Numbers) → n.last ≡ y.time →
    (window_of n.seen).reference ≡ wire (top_number (y ∷ before)) → goes_on (y ∷ before) x ≡ goes_by n x
tested y before x n last reference =
    ap (λ t. goes_to (nat_lt (x.time - t) epoch_gap) (place_of (wire (top_number (y ∷ before))) x.seq.0 kept_numbers)) (sym last)
    ∙ ap (λ r. goes_to (nat_lt (x.time - n.last) epoch_gap) (place_of r x.seq.0 kept_numbers)) (sym reference)

-- the record has the copies that came in the stretch
came_there : (y : Placed) (before : List Placed) (rest : List (List Placed)) (x : Arrival) (old : Numbers) →
    KeepsFigures ((y ∷ before) ∷ rest) old → x.seq.0 < 65536 → (side : Side) →
    has_of kept_numbers (window_of old.seen) (side_lane side) x.seq.0
    ≡ came side (number_at (top_number (y ∷ before)) (lies_from (y ∷ before) x.seq.0)) (y ∷ before)
came_there y before rest x old stands fits side =
    let s = y ∷ before in
    let n = number_at (top_number s) (lies_from s x.seq.0) in
    let one : IsTheOne kept_numbers (top_number s) x.seq.0 n = number_is (top_number s) x.seq.0 fits in
    has-by-family kept_numbers (window_of old.seen) (family_in s) (top_number s) n x.seq.0 (side_lane side) (inl refl) stands.seen one.near
    one.carried ∙ family_came s side n

-- the record with an arrival that goes on
on_stands : (y : Placed) (before : List Placed) (rest : List (List Placed)) (x : Arrival) (old new : Numbers) (k : Came) →
    KeepsFigures ((y ∷ before) ∷ rest) old → x.seq.0 < 65536 → 1 + sum_by length ((y ∷ before) ∷ rest) ≤ 18446744073709551615 →
    window_of new.seen ≡ window_noted kept_numbers (window_of old.seen) x.seq.0 (only (side_lane x.side)) → new.last ≡ x.time →
    k.a ≡ has_of kept_numbers (window_of old.seen) (side_lane A) x.seq.0 →
    k.b ≡ has_of kept_numbers (window_of old.seen) (side_lane B) x.seq.0 →
    new.tally ≡ tally_with old.tally x.side k → KeepsFigures (gone_on (y ∷ before) x ∷ rest) new
on_stands y before rest x old new k stands fits few seen last at_a at_b tally =
    let s = y ∷ before in
    let n = number_at (top_number s) (lies_from s x.seq.0) in
    let one : IsTheOne kept_numbers (top_number s) x.seq.0 n = number_is (top_number s) x.seq.0 fits in
    let came_is : tally_with old.tally x.side k ≡ tally_with old.tally x.side (record { a = came A n s; b = came B n s }) =
    λ i. tally_with old.tally x.side (record {
      a = (at_a ∙ came_there y before rest x old stands fits A) i;
      b = (at_b ∙ came_there y before rest x old stands fits B) i;
    }) in
    let grown : sum_by length ((copy_as x n ∷ s) ∷ rest) ≤ 18446744073709551615 =
    omega (arith, few, sum_by-cons length s rest, sum_by-cons length (copy_as x n ∷ s) rest) in
    let P : Window → Type 0 = λ w. StandsFor kept_numbers w (family_in (copy_as x n ∷ s)) (top_number (copy_as x n ∷ s)) in
    record {
      seen = subst P (sym seen) (noted-stands kept_numbers (window_of old.seen) (family_in s) (top_number s) n x.seq.0 (only (side_lane x.side))
          (inl refl) (some_lane_of x.side) stands.seen one.near one.carried);
      last = last;
      tally = tally ∙ came_is ∙ ap (λ u. tally_with u x.side (record { a = came A n s; b = came B n s })) stands.tally
          ∙ tally-more (s ∷ rest) rest (copy_as x n) s (record { sums = λ f zero. sum_by-cons f s rest }) grown;
    }

-- the record with an arrival that begins a stretch
off_stands : (ss : List (List Placed)) (x : Arrival) (old new : Numbers) → KeepsFigures ss old → x.seq.0 < 65536 →
    1 + sum_by length ss ≤ 18446744073709551615 →
    window_of new.seen ≡ window_begun kept_numbers x.seq.0 (only (side_lane x.side)) → new.last ≡ x.time →
    new.tally ≡ tally_with old.tally x.side (record { a = false; b = false }) → KeepsFigures (stretch_begun x ∷ ss) new
off_stands ss x old new stands fits few seen last tally =
    let grown : sum_by length (stretch_begun x ∷ ss) ≤ 18446744073709551615 = omega (arith, few, sum_by-cons length (stretch_begun x) ss) in
    let P : Window → Type 0 = λ w. StandsFor kept_numbers w (family_in (stretch_begun x)) (top_number (stretch_begun x)) in
    record {
      seen = subst P (sym seen) (begun-stands kept_numbers (only (side_lane x.side)) (pos x.seq.0) x.seq.0 (inl refl) (some_lane_of x.side)
          (wire_small x.seq.0 fits));
      last = last;
      tally = tally ∙ ap (λ u. tally_with u x.side (record { a = false; b = false })) stands.tally
          ∙ tally-more ss ss (copy_as x (pos x.seq.0)) [] (record { sums = λ f zero. omega (arith, zero) }) grown;
    }

-- a record stands for no empty stretch
pub none_stands : (n : Numbers) → StandsFor kept_numbers (window_of n.seen) (family_in []) (top_number []) → ⊥
none_stands n stands = let no : false ≡ true = stands.top.member.1 in absurd cc

-- the record with one arrival more
pub on_follows : (xs : List Arrival) (x : Arrival) (old new : Numbers) (k : Came) → FollowsArrivals xs old → x.seq.0 < 65536 →
    length xs + 1 < 2 ^ 64 → goes_by old x ≡ true →
    window_of new.seen ≡ window_noted kept_numbers (window_of old.seen) x.seq.0 (only (side_lane x.side)) → new.last ≡ x.time →
    k.a ≡ has_of kept_numbers (window_of old.seen) (side_lane A) x.seq.0 →
    k.b ≡ has_of kept_numbers (window_of old.seen) (side_lane B) x.seq.0 →
    new.tally ≡ tally_with old.tally x.side k → FollowsArrivals (x ∷ xs) new
on_follows xs x old new k follows fits few on seen last at_a at_b tally = go (stretches xs) follows (omega (arith, few, length-stretches xs))
  where
    go : (ss : List (List Placed)) → KeepsFigures ss old → 1 + sum_by length ss ≤ 18446744073709551615 → KeepsFigures (with_arrival ss x) new
    go [] stands most = absurd (none_stands old stands.seen)
    go ([] ∷ rest) stands most = absurd (none_stands old stands.seen)
    go ((y ∷ before) ∷ rest) stands most =
        let test : goes_on (y ∷ before) x ≡ true = tested y before x old stands.last stands.seen.reference ∙ on in
        rw test (on_stands y before rest x old new k stands fits most seen last at_a at_b tally)

pub off_follows : (xs : List Arrival) (x : Arrival) (old new : Numbers) → FollowsArrivals xs old → x.seq.0 < 65536 → length xs + 1 < 2 ^ 64 →
    goes_by old x ≡ false →
    window_of new.seen ≡ window_begun kept_numbers x.seq.0 (only (side_lane x.side)) → new.last ≡ x.time →
    new.tally ≡ tally_with old.tally x.side (record { a = false; b = false }) → FollowsArrivals (x ∷ xs) new
off_follows xs x old new follows fits few off seen last tally = go (stretches xs) follows (omega (arith, few, length-stretches xs))
  where
    go : (ss : List (List Placed)) → KeepsFigures ss old → 1 + sum_by length ss ≤ 18446744073709551615 → KeepsFigures (with_arrival ss x) new
    go [] stands most = absurd (none_stands old stands.seen)
    go ([] ∷ rest) stands most = absurd (none_stands old stands.seen)
    go ((y ∷ before) ∷ rest) stands most =
        let test : goes_on (y ∷ before) x ≡ false = tested y before x old stands.last stands.seen.reference ∙ off in
        rw test (off_stands ((y ∷ before) ∷ rest) x old new stands fits most seen last tally)

-- what an arrival is to the stretch, by the record
pub on_look : (xs : List Arrival) (x : Arrival) (n : Numbers) (k : Look) → FollowsArrivals xs n → x.seq.0 < 65536 → goes_by n x ≡ true →
    k.step ≡ step_by (window_of n.seen).reference n.last x →
    k.came.a ≡ has_of kept_numbers (window_of n.seen) (side_lane A) x.seq.0 →
    k.came.b ≡ has_of kept_numbers (window_of n.seen) (side_lane B) x.seq.0 → k ≡ look_at (stretches xs) x
on_look xs x n k follows fits on step at_a at_b = go (stretches xs) follows
  where
    go : (ss : List (List Placed)) → KeepsFigures ss n → k ≡ look_at ss x
    go [] stands = absurd (none_stands n stands.seen)
    go ([] ∷ rest) stands = absurd (none_stands n stands.seen)
    go ((y ∷ before) ∷ rest) stands =
        let s = y ∷ before in
        let test : goes_on s x ≡ true = tested y before x n stands.last stands.seen.reference ∙ on in
        let stepped : k.step ≡ step_by (wire (top_number s)) y.time x =
        step ∙ ap (λ r. step_by r n.last x) stands.seen.reference ∙ ap (λ t. step_by (wire (top_number s)) t x) stands.last in
        let by_a : k.came.a ≡ came A (number_at (top_number s) (lies_from s x.seq.0)) s = at_a ∙ came_there y before rest x n stands fits A in
        let by_b : k.came.b ≡ came B (number_at (top_number s) (lies_from s x.seq.0)) s = at_b ∙ came_there y before rest x n stands fits B in
        let is : came_before s x ≡ came_by s (number_at (top_number s) (lies_from s x.seq.0)) =
        ap (λ b. cond b (came_by s (number_at (top_number s) (lies_from s x.seq.0))) by_neither) test in
        let came_is : k.came ≡ came_before s x = (λ i. record { a = by_a i; b = by_b i }) ∙ sym is in
        λ i. record { step = stepped i; came = came_is i }

pub off_look : (xs : List Arrival) (x : Arrival) (n : Numbers) (k : Look) → FollowsArrivals xs n → goes_by n x ≡ false →
    k.step ≡ step_by (window_of n.seen).reference n.last x → k.came ≡ by_neither → k ≡ look_at (stretches xs) x
off_look xs x n k follows off step none = go (stretches xs) follows
  where
    go : (ss : List (List Placed)) → KeepsFigures ss n → k ≡ look_at ss x
    go [] stands = absurd (none_stands n stands.seen)
    go ([] ∷ rest) stands = absurd (none_stands n stands.seen)
    go ((y ∷ before) ∷ rest) stands =
        let s = y ∷ before in
        let test : goes_on s x ≡ false = tested y before x n stands.last stands.seen.reference ∙ off in
        let stepped : k.step ≡ step_by (wire (top_number s)) y.time x =
        step ∙ ap (λ r. step_by r n.last x) stands.seen.reference ∙ ap (λ t. step_by (wire (top_number s)) t x) stands.last in
        let is : came_before s x ≡ by_neither =
        ap (λ b. cond b (came_by s (number_at (top_number s) (lies_from s x.seq.0))) by_neither) test in
        let came_is : k.came ≡ came_before s x = none ∙ sym is in
        λ i. record { step = stepped i; came = came_is i }
