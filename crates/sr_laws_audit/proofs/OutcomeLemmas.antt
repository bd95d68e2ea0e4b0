-- The figures of a source are how many numbers of its stretches have each outcome.
use Rattle.std.proofs.Common.{◌≡◌, ℕ, zero, suc, ◌+◌, ◌-◌, Bool, true, false, cond, ◌||◌, ◌&&◌, not, List, [], ◌∷◌, length, ℤ, pos, negsuc, arith, refl, sym, ap, ◌∙◌, inl, inr}
use Rattle.std.specs.Prelude.{count_by, sum_by, nat_lt, nat_le, ◌+ℤ◌, ◌-ℤ◌, ◌<ℤ◌, ◌≤ℤ◌}
use Rattle.std.specs.Ordering.{int_eq}
use Rattle.std.proofs.lemmas.Bool.{cases_Bool}
use Rattle.std.proofs.lemmas.Bool.Decides.{Decides-int_eq}
use Rattle.std.proofs.lemmas.Int.{ints, by_lt_z}
use Rattle.std.proofs.lemmas.List.Sums.{sum_by-cons}
use Rattle.sr_sequence.specs.declared.Distance.{Distance}
use Rattle.sr_sequence.specs.declared.Distance.TheVariants.{Behind, Ahead}
use Rattle.sr_audit.specs.declared.arrival.Arrival.{Arrival}
use Rattle.sr_audit.specs.declared.side.Side.{Side}
use Rattle.sr_audit.specs.declared.side.Side.TheVariants.{A, B}
use Rattle.sr_audit.specs.declared.span.Spans.{Spans}
use Rattle.sr_audit.specs.Edges.{first_time, frames_at, is_beyond, at_edge_a, at_edge_b}
use Rattle.sr_audit.specs.Extents.{bottom_number, size_of, length_of, neither_of, is_jump, is_restart, jumps_of, restarts_of}
use Rattle.sr_audit.specs.Limits.{epoch_gap, kept_numbers}
use Rattle.sr_audit.specs.Stretches.{Placed, same_side, came, top_number, is_far, lies_from, goes_to, goes_on, gone_on, stretch_begun, with_arrival, stretches}
use Rattle.sr_audit.specs.Tallies.{frames, frames_with, by_both, by_a_alone, by_b_alone}
use Rattle.sr_audit.proofs.EdgeLemmas.{some_below}
use Rattle.sr_audit.proofs.ExtentLemmas.{no_empty}
use Rattle.sr_audit.proofs.FitLemmas.{some_over}
use Rattle.sr_audit.proofs.FrameLemmas.{count-cons, came-other, came-same}
use Rattle.sr_laws_audit.specs.Outcomes.{Outcome, Paired, OnlyA, OnlyB, EdgeA, EdgeB, Neither, same_outcome, outcome_if, outcome_of, numbers_from, stretch_numbers, numbers_with, EachNumberIsTold, EachBreakIsTold}

-- tests that are alike count alike
pub alike : (p q : ℤ → Bool) → ((n : ℤ) → p n ≡ q n) → (ns : List ℤ) → count_by p ns ≡ count_by q ns
alike p q same [] = refl
alike p q same (n ∷ ns) = count-cons p n ns ∙ ap (λ b. cond b 1 0 + count_by p ns) (same n) ∙ ap (λ k. cond (q n) 1 0 + k) (alike p q same ns)
    ∙ sym (count-cons q n ns)

pub none_counted : (p : ℤ → Bool) → ((n : ℤ) → p n ≡ false) → (ns : List ℤ) → count_by p ns ≡ 0
none_counted p none [] = refl
none_counted p none (n ∷ ns) = count-cons p n ns ∙ ap (λ b. cond b 1 0 + count_by p ns) (none n) ∙ ap (λ k. 0 + k) (none_counted p none ns)

-- where two tests differ at one number alone, and that is not in a list, they count alike
without : (p q : ℤ → Bool) (m : ℤ) → ((n : ℤ) → int_eq n m ≡ false → q n ≡ p n) → (ns : List ℤ) →
    count_by (λ n. int_eq n m) ns ≡ 0 → count_by q ns ≡ count_by p ns
without p q m same [] none = refl
without p q m same (n ∷ ns) none =
    let parts : cond (int_eq n m) 1 0 + count_by (λ k. int_eq k m) ns ≡ 0 = sym (count-cons (λ k. int_eq k m) n ns) ∙ none in
    elim (cases_Bool (int_eq n m)) [
      | inl is ↦ let no : 1 + count_by (λ k. int_eq k m) ns ≡ 0 = rw is at parts in absurd (omega (arith, no))
      | inr other ↦
          let rest : count_by (λ k. int_eq k m) ns ≡ 0 =
          let e : 0 + count_by (λ k. int_eq k m) ns ≡ 0 = rw other at parts in omega (arith, e) in
          count-cons q n ns ∙ ap (λ b. cond b 1 0 + count_by q ns) (same n other)
          ∙ ap (λ c. cond (p n) 1 0 + c) (without p q m same ns rest) ∙ sym (count-cons p n ns)
    ]

-- where it is there once, it makes the difference
with_once : (p q : ℤ → Bool) (m : ℤ) → ((n : ℤ) → int_eq n m ≡ false → q n ≡ p n) → (ns : List ℤ) →
    count_by (λ n. int_eq n m) ns ≡ 1 → count_by q ns + cond (p m) 1 0 ≡ count_by p ns + cond (q m) 1 0
with_once p q m same [] none = absurd (no 0 refl none)
  where
    no : (n : ℕ) → n ≡ 0 → n ≡ 1 → ⊥
    no n e f = omega (arith, e, f)
with_once p q m same (n ∷ ns) once =
    let parts : cond (int_eq n m) 1 0 + count_by (λ k. int_eq k m) ns ≡ 1 = sym (count-cons (λ k. int_eq k m) n ns) ∙ once in
    let head_q : count_by q (n ∷ ns) ≡ cond (q n) 1 0 + count_by q ns = count-cons q n ns in
    let head_p : count_by p (n ∷ ns) ≡ cond (p n) 1 0 + count_by p ns = count-cons p n ns in
    elim (cases_Bool (int_eq n m)) [
      | inl is ↦
          let rest : count_by (λ k. int_eq k m) ns ≡ 0 = less (count_by (λ k. int_eq k m) ns) (rw is at parts) in
          let same_rest : count_by q ns ≡ count_by p ns = without p q m same ns rest in
          let one : n ≡ m = (Decides-int_eq n m).0 is in
          let at_q : cond {A = ℕ} (q n) 1 0 ≡ cond (q m) 1 0 = ap (λ k. cond {A = ℕ} (q k) 1 0) one in
          let at_p : cond {A = ℕ} (p n) 1 0 ≡ cond (p m) 1 0 = ap (λ k. cond {A = ℕ} (p k) 1 0) one in
          omega (arith, head_q, head_p, same_rest, at_q, at_p)
      | inr other ↦
          let rest : count_by (λ k. int_eq k m) ns ≡ 1 = kept (count_by (λ k. int_eq k m) ns) (rw other at parts) in
          let ih : count_by q ns + cond (p m) 1 0 ≡ count_by p ns + cond (q m) 1 0 = with_once p q m same ns rest in
          let here : cond {A = ℕ} (q n) 1 0 ≡ cond (p n) 1 0 = ap (λ b. cond {A = ℕ} b 1 0) (same n other) in
          omega (arith, head_q, head_p, ih, here)
    ]
  where
    less : (n : ℕ) → 1 + n ≡ 1 → n ≡ 0
    less n e = omega (arith, e)

    kept : (n : ℕ) → 0 + n ≡ 1 → n ≡ 1
    kept n e = omega (arith, e)

-- a number above some numbers in a row is not among them, and one from the least to the greatest is there once
not_above : (b m : ℤ) (k : ℕ) → (b +ℤ pos k) ≤ℤ m → count_by (λ n. int_eq n m) (numbers_from b k) ≡ 0
not_above b m zero above = refl
not_above b m (suc k) above =
    elim (cases_Bool (int_eq (b +ℤ pos k) m)) [
      | inl same ↦ absurd (no b m k ((Decides-int_eq (b +ℤ pos k) m).0 same) above)
      | inr other ↦ count-cons (λ n. int_eq n m) (b +ℤ pos k) (numbers_from b k)
          ∙ ap (λ t. cond t 1 0 + count_by (λ n. int_eq n m) (numbers_from b k)) other
          ∙ ap (λ c. 0 + c) (not_above b m k (lower b m k above))
    ]
  where
    no : (b m : ℤ) (k : ℕ) → b +ℤ pos k ≡ m → (b +ℤ pos (suc k)) ≤ℤ m → ⊥
    no b m k e above = omega (arith, ints, e, above)

    lower : (b m : ℤ) (k : ℕ) → (b +ℤ pos (suc k)) ≤ℤ m → (b +ℤ pos k) ≤ℤ m
    lower b m k above = omega (arith, ints, above)

once_within : (b m : ℤ) (k : ℕ) → b ≤ℤ m → m <ℤ (b +ℤ pos k) → count_by (λ n. int_eq n m) (numbers_from b k) ≡ 1
once_within b m zero over under = absurd (no b m over under)
  where
    no : (b m : ℤ) → b ≤ℤ m → m <ℤ (b +ℤ pos 0) → ⊥
    no b m over under = omega (arith, ints, over, under)
once_within b m (suc k) over under =
    elim (cases_Bool (int_eq (b +ℤ pos k) m)) [
      | inl same ↦ count-cons (λ n. int_eq n m) (b +ℤ pos k) (numbers_from b k)
          ∙ ap (λ t. cond t 1 0 + count_by (λ n. int_eq n m) (numbers_from b k)) same
          ∙ ap (λ c. 1 + c) (not_above b m k (level b m k ((Decides-int_eq (b +ℤ pos k) m).0 same)))
      | inr other ↦ count-cons (λ n. int_eq n m) (b +ℤ pos k) (numbers_from b k)
          ∙ ap (λ t. cond t 1 0 + count_by (λ n. int_eq n m) (numbers_from b k)) other
          ∙ ap (λ c. 0 + c) (once_within b m k over (less b m k under
          (λ e. let yes : int_eq (b +ℤ pos k) m ≡ true = (Decides-int_eq (b +ℤ pos k) m).1 e in let no : true ≡ false = sym yes ∙ other in cc)))
    ]
  where
    level : (b m : ℤ) (k : ℕ) → b +ℤ pos k ≡ m → (b +ℤ pos k) ≤ℤ m
    level b m k e = omega (arith, ints, e)

    joined : (b m : ℤ) (k : ℕ) → m <ℤ (b +ℤ pos (suc k)) → (b +ℤ pos k) ≤ℤ m → b +ℤ pos k ≡ m
    joined b m k under higher = omega (arith, ints, under, higher)

    less : (b m : ℤ) (k : ℕ) → m <ℤ (b +ℤ pos (suc k)) → (b +ℤ pos k ≡ m → ⊥) → m <ℤ (b +ℤ pos k)
    less b m k under apart =
        by_lt_z m (b +ℤ pos k) (λ lower. lower) (λ higher. absurd (apart (joined b m k under higher)))

-- a copy came of a number
abbrev pub some : List Placed → ℤ → Bool
some s n = came A n s || came B n s

or_true : (b : Bool) → (b || true) ≡ true
or_true true = refl
or_true false = refl

came_more : (side : Side) (n : ℤ) (y : Placed) (s : List Placed) → came side n s ≡ true → came side n (y ∷ s) ≡ true
came_more side n y s is = ap (λ b. (int_eq n y.number && same y.side) || b) is ∙ or_true (int_eq n y.number && same y.side)
  where
    same : Side → Bool
    same own = same_side side own

pub some_more : (n : ℤ) (y : Placed) (s : List Placed) → some s n ≡ true → some (y ∷ s) n ≡ true
some_more n y s is = by (came A n s) (came B n s) refl refl is
  where
    by : (a b : Bool) → came A n s ≡ a → came B n s ≡ b → (a || b) ≡ true → some (y ∷ s) n ≡ true
    by true b is_a is_b or = ap (λ t. t || came B n (y ∷ s)) (came_more A n y s is_a)
    by false true is_a is_b or = ap (λ t. came A n (y ∷ s) || t) (came_more B n y s is_b) ∙ or_true (came A n (y ∷ s))
    by false false is_a is_b or = let none : false ≡ true = or in absurd cc

pub some_own : (y : Placed) (s : List Placed) → some (y ∷ s) y.number ≡ true
some_own y s =
    let own : int_eq y.number y.number ≡ true = (Decides-int_eq y.number y.number).1 refl in
    rw (came-same A y.number y s own, came-same B y.number y s own) (by y.side (came A y.number s) (came B y.number s))
  where
    by : (side : Side) (a b : Bool) →
        ((same_side A side || a) || (same_side B side || b)) ≡ true
    by A a b = refl
    by B true b = refl
    by B false b = refl

pub some_other : (n : ℤ) (y : Placed) (s : List Placed) → int_eq n y.number ≡ false → some (y ∷ s) n ≡ some s n
some_other n y s other = ap (λ b. b || came B n (y ∷ s)) (came-other A n y s other) ∙ ap (λ b. came A n s || b) (came-other B n y s other)

-- frames that pass a test are the numbers that do of which a copy came
frames_counted : (p : ℤ → Bool) (b : ℤ) (k : ℕ) (s : List Placed) → ((n : ℤ) → some s n ≡ true → (b ≤ℤ n) × (n <ℤ (b +ℤ pos k))) →
    count_by p (frames s) ≡ count_by (λ n. some s n && p n) (numbers_from b k)
frames_counted p b k [] within = sym (none_counted (λ n. false && p n) (λ n. refl) (numbers_from b k))
frames_counted p b k (y ∷ s) within =
    let m = y.number in
    let rest : count_by p (frames s) ≡ count_by (λ n. some s n && p n) (numbers_from b k) =
    frames_counted p b k s (λ n is. within n (some_more n y s is)) in
    elim (cases_Bool (some s m)) [
      | inl known ↦
          rw known (rest ∙ alike (λ n. some s n && p n) (λ n. some (y ∷ s) n && p n)
          (λ n. ap (λ t. t && p n) (unchanged n known)) (numbers_from b k))
      | inr new ↦
          let range = within m (some_own y s) in
          let change : count_by (λ n. some (y ∷ s) n && p n) (numbers_from b k) + cond (some s m && p m) 1 0
          ≡ count_by (λ n. some s n && p n) (numbers_from b k) + cond (some (y ∷ s) m && p m) 1 0 =
          with_once (λ n. some s n && p n) (λ n. some (y ∷ s) n && p n) m (λ n other. ap (λ t. t && p n) (some_other n y s other))
          (numbers_from b k) (once_within b m k range.0 range.1) in
          let was : cond {A = ℕ} (some s m && p m) 1 0 ≡ 0 = ap (λ t. cond {A = ℕ} (t && p m) 1 0) new in
          let is : cond {A = ℕ} (some (y ∷ s) m && p m) 1 0 ≡ cond (p m) 1 0 = ap (λ t. cond {A = ℕ} (t && p m) 1 0) (some_own y s) in
          let head : count_by p (m ∷ frames s) ≡ cond (p m) 1 0 + count_by p (frames s) = count-cons p m (frames s) in
          rw new (joined (count_by p (m ∷ frames s)) (cond (p m) 1 0) (count_by p (frames s)) _ _ _ _ head rest change was is)
    ]
  where
    unchanged : (n : ℤ) → some s y.number ≡ true → some s n ≡ some (y ∷ s) n
    unchanged n known =
        elim (cases_Bool (int_eq n y.number)) [
          | inl same ↦
              let here : some s n ≡ true = ap (some s) ((Decides-int_eq n y.number).0 same) ∙ known in
              here ∙ sym (some_more n y s here)
          | inr other ↦ sym (some_other n y s other)
        ]

    joined : (c h t rest now was is : ℕ) → c ≡ h + t → t ≡ rest → now + was ≡ rest + is → was ≡ 0 → is ≡ h → c ≡ now
    joined c h t rest now was is e f g i j = omega (arith, e, f, g, i, j)

-- the copies of a stretch lie from its least to its greatest number
reach : (d b t n : ℤ) → t -ℤ b ≡ d → b ≤ℤ n → n ≤ℤ t → n <ℤ (b +ℤ pos (size_of d + 1))
reach (pos k) b t n e over under = omega (arith, ints, e, over, under)
reach (negsuc k) b t n e over under = absurd (turned b t n k e over under)
  where
    turned : (b t n : ℤ) (k : ℕ) → t -ℤ b ≡ negsuc k → b ≤ℤ n → n ≤ℤ t → ⊥
    turned b t n k e over under = omega (arith, ints, e, over, under)

all_within : (s : List Placed) (n : ℤ) → some s n ≡ true → (bottom_number s ≤ℤ n) × (n <ℤ (bottom_number s +ℤ pos (length_of s)))
all_within [] n is = let no : false ≡ true = is in absurd cc
all_within (y ∷ before) n is = (
  some_over (y ∷ before) n is,
  reach (top_number (y ∷ before) -ℤ bottom_number (y ∷ before)) (bottom_number (y ∷ before)) (top_number (y ∷ before)) n refl
      (some_over (y ∷ before) n is) (some_below (y ∷ before) n is),
)

pub stretch_counted : (p : ℤ → Bool) (s : List Placed) → count_by p (frames s) ≡ count_by (λ n. some s n && p n) (stretch_numbers s)
stretch_counted p s = frames_counted p (bottom_number s) (length_of s) s (all_within s)

-- a figure of one stretch, by a test that is that of an outcome
of_outcome : (spans : Spans) (o : Outcome) (test : Bool → Bool → ℕ → Bool) (s : List Placed) →
    ((a b : Bool) (time : ℕ) → ((a || b) && test a b time) ≡ same_outcome o (outcome_if a b (is_beyond spans A time) (is_beyond spans B time))) →
    frames_at test s ≡ numbers_with spans o s
of_outcome spans o test s same =
    stretch_counted (λ n. test (came A n s) (came B n s) (first_time n s)) s
    ∙ alike (λ n. some s n && test (came A n s) (came B n s) (first_time n s)) (λ n. same_outcome o (outcome_of spans s n))
    (λ n. same (came A n s) (came B n s) (first_time n s)) (stretch_numbers s)

pairs_are : (spans : Spans) (s : List Placed) → frames_with by_both s ≡ numbers_with spans Paired s
pairs_are spans s = of_outcome spans Paired (λ a b time. by_both a b) s by
  where
    by : (a b : Bool) (time : ℕ) → ((a || b) && by_both a b) ≡ same_outcome Paired (outcome_if a b (is_beyond spans A time) (is_beyond spans B time))
    by true true time = refl
    by true false time = at (is_beyond spans A time) (is_beyond spans B time)
      where
        at : (u v : Bool) → false ≡ same_outcome Paired (outcome_if true false u v)
        at u true = refl
        at u false = refl
    by false true time = at (is_beyond spans A time) (is_beyond spans B time)
      where
        at : (u v : Bool) → false ≡ same_outcome Paired (outcome_if false true u v)
        at true v = refl
        at false v = refl
    by false false time = refl

abbrev only_at_a : Spans → Bool → Bool → ℕ → Bool
only_at_a spans a b time = by_a_alone a b && not (is_beyond spans B time)

abbrev only_at_b : Spans → Bool → Bool → ℕ → Bool
only_at_b spans a b time = by_b_alone a b && not (is_beyond spans A time)

edge_a_is : (spans : Spans) (s : List Placed) → frames_at (at_edge_a spans) s ≡ numbers_with spans EdgeA s
edge_a_is spans s = of_outcome spans EdgeA (at_edge_a spans) s (λ a b time. by a b (is_beyond spans A time) (is_beyond spans B time))
  where
    by : (a b u v : Bool) → ((a || b) && (by_a_alone a b && v)) ≡ same_outcome EdgeA (outcome_if a b u v)
    by true true u v = refl
    by true false u true = refl
    by true false u false = refl
    by false true true v = refl
    by false true false v = refl
    by false false u v = refl

only_a_is : (spans : Spans) (s : List Placed) → frames_at (only_at_a spans) s ≡ numbers_with spans OnlyA s
only_a_is spans s = of_outcome spans OnlyA (only_at_a spans) s (λ a b time. by a b (is_beyond spans A time) (is_beyond spans B time))
  where
    by : (a b u v : Bool) → ((a || b) && (by_a_alone a b && not v)) ≡ same_outcome OnlyA (outcome_if a b u v)
    by true true u v = refl
    by true false u true = refl
    by true false u false = refl
    by false true true v = refl
    by false true false v = refl
    by false false u v = refl

edge_b_is : (spans : Spans) (s : List Placed) → frames_at (at_edge_b spans) s ≡ numbers_with spans EdgeB s
edge_b_is spans s = of_outcome spans EdgeB (at_edge_b spans) s (λ a b time. by a b (is_beyond spans A time) (is_beyond spans B time))
  where
    by : (a b u v : Bool) → ((a || b) && (by_b_alone a b && u)) ≡ same_outcome EdgeB (outcome_if a b u v)
    by true true u v = refl
    by true false u true = refl
    by true false u false = refl
    by false true true v = refl
    by false true false v = refl
    by false false u v = refl

only_b_is : (spans : Spans) (s : List Placed) → frames_at (only_at_b spans) s ≡ numbers_with spans OnlyB s
only_b_is spans s = of_outcome spans OnlyB (only_at_b spans) s (λ a b time. by a b (is_beyond spans A time) (is_beyond spans B time))
  where
    by : (a b u v : Bool) → ((a || b) && (by_b_alone a b && not u)) ≡ same_outcome OnlyB (outcome_if a b u v)
    by true true u v = refl
    by true false u true = refl
    by true false u false = refl
    by false true true v = refl
    by false true false v = refl
    by false false u v = refl

-- a count is that of both cases
pub count_cases : (p q : ℤ → Bool) (ns : List ℤ) → count_by p ns ≡ count_by (λ n. p n && q n) ns + count_by (λ n. p n && not (q n)) ns
count_cases p q [] = refl
count_cases p q (n ∷ ns) =
    by (p n) (q n) (count-cons p n ns) (count-cons (λ k. p k && q k) n ns) (count-cons (λ k. p k && not (q k)) n ns) (count_cases p q ns)
  where
    by : (t u : Bool) → count_by p (n ∷ ns) ≡ cond t 1 0 + count_by p ns →
        count_by (λ k. p k && q k) (n ∷ ns) ≡ cond (t && u) 1 0 + count_by (λ k. p k && q k) ns →
        count_by (λ k. p k && not (q k)) (n ∷ ns) ≡ cond (t && not u) 1 0 + count_by (λ k. p k && not (q k)) ns →
        count_by p ns ≡ count_by (λ k. p k && q k) ns + count_by (λ k. p k && not (q k)) ns →
        count_by p (n ∷ ns) ≡ count_by (λ k. p k && q k) (n ∷ ns) + count_by (λ k. p k && not (q k)) (n ∷ ns)
    by true true e f g h = omega (arith, e, f, g, h)
    by true false e f g h = omega (arith, e, f, g, h)
    by false u e f g h = omega (arith, e, f, g, h)

alone_a_cases : (spans : Spans) (s : List Placed) → frames_with by_a_alone s ≡ frames_at (at_edge_a spans) s + frames_at (only_at_a spans) s
alone_a_cases spans s = count_cases (λ n. by_a_alone (came A n s) (came B n s)) (λ n. is_beyond spans B (first_time n s)) (frames s)

alone_b_cases : (spans : Spans) (s : List Placed) → frames_with by_b_alone s ≡ frames_at (at_edge_b spans) s + frames_at (only_at_b spans) s
alone_b_cases spans s = count_cases (λ n. by_b_alone (came A n s) (came B n s)) (λ n. is_beyond spans A (first_time n s)) (frames s)

-- the numbers of no frame
pub length_numbers : (b : ℤ) (k : ℕ) → length (numbers_from b k) ≡ k
length_numbers b zero = refl
length_numbers b (suc k) = by (numbers_from b k) (length_numbers b k)
  where
    by : (ns : List ℤ) → length ns ≡ k → length ((b +ℤ pos k) ∷ ns) ≡ suc k
    by ns e = omega (arith, e)

all_counted : (ns : List ℤ) → count_by (λ (n : ℤ). true) ns ≡ length ns
all_counted [] = refl
all_counted (n ∷ ns) = by (count-cons (λ (m : ℤ). true) n ns) (all_counted ns)
  where
    by : count_by (λ (m : ℤ). true) (n ∷ ns) ≡ 1 + count_by (λ (m : ℤ). true) ns → count_by (λ (m : ℤ). true) ns ≡ length ns →
        count_by (λ (m : ℤ). true) (n ∷ ns) ≡ length (n ∷ ns)
    by e f = omega (arith, e, f)

and_true : (b : Bool) → (b && true) ≡ (true && b)
and_true true = refl
and_true false = refl

-- those of which no copy came are what is left
pub neither_counted : (s : List Placed) → neither_of s ≡ count_by (λ n. true && not (some s n)) (stretch_numbers s)
neither_counted s =
    let came_ones : count_by (λ (n : ℤ). true) (frames s) ≡ count_by (λ n. true && some s n) (stretch_numbers s) =
    stretch_counted (λ n. true) s ∙ alike (λ n. some s n && true) (λ n. true && some s n) (λ n. and_true (some s n)) (stretch_numbers s) in
    left (length_of s) (length (frames s)) (count_by (λ n. true && some s n) (stretch_numbers s)) (count_by (λ n. true && not (some s n)) (stretch_numbers s))
    (sym (all_counted (frames s)) ∙ came_ones)
    (sym (length_numbers (bottom_number s) (length_of s)) ∙ sym (all_counted (stretch_numbers s)) ∙ count_cases (λ n. true) (some s) (stretch_numbers s))
  where
    left : (whole frames some none : ℕ) → frames ≡ some → whole ≡ some + none → whole - frames ≡ none
    left whole frames some none e f = omega (arith, e, f)

neither_is : (spans : Spans) (s : List Placed) → neither_of s ≡ numbers_with spans Neither s
neither_is spans s =
    neither_counted s
    ∙ alike (λ n. true && not (some s n)) (λ n. same_outcome Neither (outcome_of spans s n))
    (λ n. by (came A n s) (came B n s) (is_beyond spans A (first_time n s)) (is_beyond spans B (first_time n s))) (stretch_numbers s)
  where
    by : (a b u v : Bool) → (true && not (a || b)) ≡ same_outcome Neither (outcome_if a b u v)
    by true true u v = refl
    by true false u true = refl
    by true false u false = refl
    by false true true v = refl
    by false true false v = refl
    by false false u v = refl

-- figures of all stretches
sum_alike : (f g : List Placed → ℕ) → ((s : List Placed) → f s ≡ g s) → (ss : List (List Placed)) → sum_by f ss ≡ sum_by g ss
sum_alike f g same [] = refl
sum_alike f g same (s ∷ ss) = omega (arith, sum_by-cons f s ss, sum_by-cons g s ss, same s, sum_alike f g same ss)

sum_cases : (f g h : List Placed → ℕ) → ((s : List Placed) → f s ≡ g s + h s) → (ss : List (List Placed)) →
    sum_by f ss - sum_by g ss ≡ sum_by h ss
sum_cases f g h same ss = left (sum_by f ss) (sum_by g ss) (sum_by h ss) (all ss)
  where
    all : (ts : List (List Placed)) → sum_by f ts ≡ sum_by g ts + sum_by h ts
    all [] = refl
    all (t ∷ ts) = omega (arith, sum_by-cons f t ts, sum_by-cons g t ts, sum_by-cons h t ts, same t, all ts)

    left : (x y z : ℕ) → x ≡ y + z → x - y ≡ z
    left x y z e = omega (arith, e)

pub each_number : EachNumberIsTold
each_number spans xs =
    let ss = stretches xs in
    record {
      pairs = sum_alike (frames_with by_both) (numbers_with spans Paired) (pairs_are spans) ss;
      only_a = sum_cases (frames_with by_a_alone) (frames_at (at_edge_a spans)) (frames_at (only_at_a spans)) (alone_a_cases spans) ss
          ∙ sum_alike (frames_at (only_at_a spans)) (numbers_with spans OnlyA) (only_a_is spans) ss;
      only_b = sum_cases (frames_with by_b_alone) (frames_at (at_edge_b spans)) (frames_at (only_at_b spans)) (alone_b_cases spans) ss
          ∙ sum_alike (frames_at (only_at_b spans)) (numbers_with spans OnlyB) (only_b_is spans) ss;
      edge_a = sum_alike (frames_at (at_edge_a spans)) (numbers_with spans EdgeA) (edge_a_is spans) ss;
      edge_b = sum_alike (frames_at (at_edge_b spans)) (numbers_with spans EdgeB) (edge_b_is spans) ss;
      neither = sum_alike neither_of (numbers_with spans Neither) (neither_is spans) ss;
    }

-- each stretch but the first one is told as a jump or a restart
begins_so : (soon : Bool) (d : Distance) → cond {A = ℕ} (goes_to soon d) 0 1 ≡ cond (soon && is_far d) 1 0 + cond (not soon && not (goes_to soon d)) 1 0
begins_so true (Behind k) = refl
begins_so false (Behind k) = refl
begins_so true (Ahead k) = by (nat_le kept_numbers k)
  where
    by : (far : Bool) → cond {A = ℕ} (not far) 0 1 ≡ cond (true && far) 1 0 + cond (not true && not (not far)) 1 0
    by true = refl
    by false = refl
begins_so false (Ahead k) = by (nat_le kept_numbers k)
  where
    by : (far : Bool) → cond {A = ℕ} (not far) 0 1 ≡ cond (false && far) 1 0 + cond (not false && not (not far)) 1 0
    by true = refl
    by false = refl

none_empty : (x : Arrival) (xs : List Arrival) → stretches (x ∷ xs) ≡ [] → ⊥
none_empty x xs e = by (stretches xs) e
  where
    by : (ss : List (List Placed)) → with_arrival ss x ≡ [] → ⊥
    by [] e = cc
    by (s ∷ ss) e =
        elim (cases_Bool (goes_on s x)) [
          | inl on ↦ let is : gone_on s x ∷ ss ≡ [] = rw on at e in cc
          | inr off ↦ let is : stretch_begun x ∷ s ∷ ss ≡ [] = rw off at e in cc
        ]

longer : (old now : List Placed) (begun : List Placed) (rest : List (List Placed)) (b : Bool) →
    length (cond b (now ∷ rest) (begun ∷ old ∷ rest)) ≡ cond b 0 1 + length (old ∷ rest)
longer old now begun rest true = omega arith
longer old now begun rest false = omega arith

pub each_break : EachBreakIsTold
each_break x [] = refl
each_break x (y ∷ ys) =
    by (stretches (y ∷ ys)) refl (each_break y ys)
  where
    sums : (len new j r jumps restarts now : ℕ) → len ≡ 1 + jumps + restarts → new ≡ j + r → now ≡ new + len →
        now ≡ 1 + (j + jumps) + (r + restarts)
    sums len new j r jumps restarts now e f g = omega (arith, e, f, g)

    by : (ss : List (List Placed)) → stretches (y ∷ ys) ≡ ss → length ss ≡ 1 + jumps_of (y ∷ ys) + restarts_of (y ∷ ys) →
        length (with_arrival ss x) ≡ 1 + (cond (is_jump ss x) 1 0 + jumps_of (y ∷ ys)) + (cond (is_restart ss x) 1 0 + restarts_of (y ∷ ys))
    by [] is e = absurd (none_empty y ys is)
    by ([] ∷ rest) is e = absurd (no_empty (y ∷ ys) rest is)
    by ((z ∷ before) ∷ rest) is e =
        let s = z ∷ before in
        let soon = nat_lt (x.time - z.time) epoch_gap in
        let place = lies_from s x.seq.0 in
        sums (length (s ∷ rest)) (cond {A = ℕ} (goes_to soon place) 0 1) (cond {A = ℕ} (soon && is_far place) 1 0)
        (cond {A = ℕ} (not soon && not (goes_to soon place)) 1 0) (jumps_of (y ∷ ys)) (restarts_of (y ∷ ys))
        (length (with_arrival (s ∷ rest) x)) e (begins_so soon place)
        (longer s (gone_on s x) (stretch_begun x) rest (goes_to soon place))
