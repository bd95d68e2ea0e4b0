-- The stretches of copies with a true numbering, and that no figure of them tells of a repeat or of a loss.
use Rattle.std.proofs.Common.{◌≡◌, ℕ, ◌+◌, ◌-◌, ◌≤◌, Bool, true, false, cond, ◌||◌, ◌&&◌, not, ◌⊎◌, List, [], ◌∷◌, ◌++◌, ℤ, pos, arith, refl, sym, ap, ◌∙◌, subst, inl, inr}
use Rattle.std.specs.Prelude.{sum_by, nat_eq, nat_lt, unsigned_abs, ◌+ℤ◌, ◌-ℤ◌, ◌<ℤ◌, ◌≤ℤ◌}
use Rattle.std.specs.Ordering.{int_eq}
use Rattle.std.proofs.lemmas.Bool.{cases_Bool, le-leb, and_parts}
use Rattle.std.proofs.lemmas.Bool.Decides.{Decides-int_eq}
use Rattle.std.proofs.lemmas.Int.{ints, by_lt_z}
use Rattle.std.proofs.lemmas.List.Sums.{sum_by-cons}
use Rattle.sr_sequence.specs.Numbers.{wire}
use Rattle.sr_sequence.specs.NumberLemmas.{wire-lt}
use Rattle.sr_sequence.specs.Places.{number_at, IsTheOne}
use Rattle.sr_sequence.specs.declared.Distance.{Distance}
use Rattle.sr_sequence.specs.declared.Distance.TheVariants.{Behind, Ahead}
use Rattle.sr_dup_window.specs.Families.{greater}
use Rattle.sr_audit.specs.declared.arrival.Arrival.{Arrival}
use Rattle.sr_audit.specs.declared.side.Side.{Side}
use Rattle.sr_audit.specs.declared.side.Side.TheVariants.{A, B}
use Rattle.sr_audit.specs.declared.span.Spans.{Spans}
use Rattle.sr_audit.specs.Edges.{first_time, is_beyond}
use Rattle.sr_audit.specs.Lanes.{other_side}
use Rattle.sr_audit.specs.Limits.{epoch_gap, kept_numbers}
use Rattle.sr_audit.specs.Skewing.{pairs_up, skew_by, skews_in, skews_of, class_of, count_in}
use Rattle.sr_audit.specs.Stretches.{Placed, same_side, came, top_number, newest_time, lies_from, goes_to, goes_on, gone_on, stretch_begun, with_arrival, stretches}
use Rattle.sr_audit.specs.Tallies.{repeats}
use Rattle.sr_audit.proofs.EdgeLemmas.{some_below}
use Rattle.sr_audit.proofs.FollowLemmas.{number_is}
use Rattle.sr_audit.proofs.FrameLemmas.{came-other, first_other}
use Rattle.sr_laws_audit.specs.Outcomes.{OnlyA, OnlyB, same_outcome, outcome_of, stretch_numbers, numbers_with}
use Rattle.sr_laws_audit.specs.Records.{Passage, PassesInTime, AreRecorded, HasAll, arrivals_by, GoesPastBoth, LeavesOut, RecordsHaveNoRepeat, RecordsHaveNoLoss}
use Rattle.sr_laws_audit.proofs.OutcomeLemmas.{none_counted, some, some_own, some_other, each_number}
use Rattle.sr_laws_audit.proofs.RecordLemmas.{Came, came_as, not_under, placed, arrival_of, begins, near_of, closer, near_time, goes_further, not_repeated, first_alone, skew_small, not_last, back_side, lone_is_outside, no_only_a, no_only_b, some_at, above_top}
use Rattle.sr_laws_audit.proofs.ShiftLemmas.{int_eq_shift, greater_shift, IsUnseen, begun_unseen}

-- what a stretch that is over has of a number is what all copies have of one at most so great
record Mirrored (copies : List Placed) (base : ℤ) (t : List Placed) (k : ℤ) : Type 0 where
  n : ℤ
  old : n ≤ℤ base
  same : (c : Side) → came c k t ≡ came c n copies
  first : first_time k t ≡ first_time n copies

abbrev AreMirrored : List Placed → ℤ → List (List Placed) → Type 0
AreMirrored copies base [] = Unit {0}
AreMirrored copies base (t ∷ ts) = ((k : ℤ) → some t k ≡ true → Mirrored copies base t k) × AreMirrored copies base ts

-- the current stretch has the copies above a base, under a constant, and no figure tells of a repeat
record Follows (copies : List Placed) (ss : List (List Placed)) : Type 0 where
  d : ℤ
  base : ℤ
  newest : Placed
  behind : List Placed
  older : List (List Placed)
  are : ss ≡ (newest ∷ behind) ∷ older
  time : newest.time ≡ newest_time copies
  unseen : IsUnseen d
  level : base ≤ℤ (top_number copies -ℤ pos 1023)
  top : top_number (newest ∷ behind) ≡ top_number copies +ℤ d
  same : (c : Side) (n : ℤ) → base <ℤ n → came c (n +ℤ d) (newest ∷ behind) ≡ came c n copies
  first : (n : ℤ) → base <ℤ n → first_time (n +ℤ d) (newest ∷ behind) ≡ first_time n copies
  within : (k : ℤ) → some (newest ∷ behind) k ≡ true → (base +ℤ d) <ℤ k
  olds : AreMirrored copies base older
  repeated : (c : Side) → sum_by (repeats c) ((newest ∷ behind) ∷ older) ≡ 0
  late : count_in 6 (skews_of ((newest ∷ behind) ∷ older)) ≡ 0

-- a copy of another number changes nothing
not_equal : (m n : ℤ) → m <ℤ n → int_eq m n ≡ false
not_equal m n lt = grind (arith, ints)

first_none : (n : ℤ) (s : List Placed) → some s n ≡ false → first_time n s ≡ 0
first_none n [] none = refl
first_none n (y ∷ s) none =
    elim (cases_Bool (int_eq n y.number)) [
      | inl same ↦
          let is : some (y ∷ s) n ≡ true = ap (some (y ∷ s)) ((Decides-int_eq n y.number).0 same) ∙ some_own y s in
          let no : false ≡ true = sym none ∙ is in absurd cc
      | inr other ↦ first_other n y s other ∙ first_none n s (sym (some_other n y s other) ∙ none)
    ]

mirrored_more : (copies : List Placed) (y : Placed) (base higher : ℤ) (ts : List (List Placed)) → base <ℤ y.number → base ≤ℤ higher →
    AreMirrored copies base ts → AreMirrored (y ∷ copies) higher ts
mirrored_more copies y base higher [] under le all = tt
mirrored_more copies y base higher (t ∷ ts) under le all = (
  λ k is.
      let m = all.0 k is in
      let other : int_eq m.n y.number ≡ false = not_equal m.n y.number (lower m.n base y.number m.old under) in
      record {
        n = m.n;
        old = higher_of m.n base higher m.old le;
        same = λ c. m.same c ∙ sym (came-other c m.n y copies other);
        first = m.first ∙ sym (first_other m.n y copies other);
      },
  mirrored_more copies y base higher ts under le all.1,
)
  where
    lower : (n b m : ℤ) → n ≤ℤ b → b <ℤ m → n <ℤ m
    lower n b m le lt = omega (arith, ints, le, lt)

    higher_of : (n b m : ℤ) → n ≤ℤ b → b ≤ℤ m → n ≤ℤ m
    higher_of n b m le lt = omega (arith, ints, le, lt)

-- a copy that begins a stretch
and_false : (b : Bool) → (b && false) ≡ false
and_false true = refl
and_false false = refl

over_base : (n m : ℤ) (seq : ℕ) → pos seq ≡ n +ℤ m → ((n -ℤ pos 1023) +ℤ m) <ℤ pos seq
over_base n m seq e = omega (arith, ints, e)

level_own : (n : ℤ) → (n -ℤ pos 1023) ≤ℤ (n -ℤ pos 1023)
level_own n = omega (arith, ints)

begun : (y : Placed) (before : List Placed) (older : List (List Placed)) (ss : List (List Placed)) →
    ss ≡ stretch_begun (arrival_of y) ∷ older → top_number (y ∷ before) ≡ y.number →
    ((m : ℤ) → (y.number -ℤ pos 1023) <ℤ m → (c : Side) → came c m before ≡ false) →
    AreMirrored (y ∷ before) (y.number -ℤ pos 1023) older → ((c : Side) → sum_by (repeats c) older ≡ 0) → count_in 6 (skews_of older) ≡ 0 →
    Follows (y ∷ before) ss
begun y before older ss are top none olds repeated late =
    record {
      d = d;
      base = y.number -ℤ pos 1023;
      newest = own;
      behind = [];
      older = older;
      are = are;
      time = refl;
      unseen = begun_unseen y.number (wire y.number) refl;
      level = subst (λ t. (y.number -ℤ pos 1023) ≤ℤ (t -ℤ pos 1023)) (sym top) (level_own y.number);
      top = begins y.number (wire y.number) ∙ ap (λ t. t +ℤ d) (sym top);
      same = λ c m above. ap (λ k. (int_eq (m +ℤ d) k && same_side c y.side) || false) (begins y.number (wire y.number))
          ∙ ap (λ b. (b && same_side c y.side) || false) (int_eq_shift m y.number d)
          ∙ ap (λ b. (int_eq m y.number && same_side c y.side) || b) (sym (none m above c));
      first = λ m above. ap (λ k. cond (int_eq (m +ℤ d) k && true) y.time 0) (begins y.number (wire y.number))
          ∙ ap (λ b. cond (b && true) y.time 0) (int_eq_shift m y.number d)
          ∙ ap (λ t. cond (int_eq m y.number && true) y.time t) (sym (first_none m before (none_of m above)))
          ∙ ap (λ b. cond (int_eq m y.number && not b) y.time (first_time m before)) (sym (none_of m above));
      within = λ k is. over k (elim (cases_Bool (int_eq k own.number)) [
        | inl same ↦ (Decides-int_eq k own.number).0 same
        | inr other ↦ let no : false ≡ true = sym (some_other k own [] other) ∙ is in absurd cc
      ]);
      olds = olds;
      repeated = λ c. alone (repeats c (own ∷ [])) (sum_by (repeats c) older) _ (sum_by-cons (repeats c) (own ∷ []) older)
          (ap (λ b. cond {A = ℕ} b 1 0 + 0) (and_false (same_side c y.side))) (repeated c);
      late = late;
    }
  where
    d : ℤ
    d = pos (wire y.number) -ℤ y.number

    own : Placed
    own = placed y.side y.time (pos (wire y.number))

    none_of : (m : ℤ) → (y.number -ℤ pos 1023) <ℤ m → some before m ≡ false
    none_of m above = ap (λ b. b || came B m before) (none m above A) ∙ none m above B

    over : (k : ℤ) → k ≡ pos (wire y.number) → ((y.number -ℤ pos 1023) +ℤ d) <ℤ k
    over k is = subst (λ i. ((y.number -ℤ pos 1023) +ℤ d) <ℤ i) (sym is) (over_base y.number d (wire y.number) (begins y.number (wire y.number)))

    alone : (a b n : ℕ) → n ≡ a + b → a ≡ 0 → b ≡ 0 → n ≡ 0
    alone a b n e f g = omega (arith, e, f, g)

-- one that goes on with the current stretch
greater_second : (t n : ℤ) → t ≤ℤ n → greater t n ≡ n
greater_second t n le = grind (arith, ints)

level_more : (b t n : ℤ) → b ≤ℤ (t -ℤ pos 1023) → b ≤ℤ (greater t n -ℤ pos 1023)
level_more b t n le = grind (arith, ints)

went_on : (apart : ℕ) (p : Passage) (recorded : Spans) (y z : Placed) (rest : List Placed) (ss : List (List Placed)) → PassesInTime apart p →
    AreRecorded p recorded (y ∷ z ∷ rest) → Follows (z ∷ rest) ss → y.number <ℤ (top_number (z ∷ rest) +ℤ pos kept_numbers) →
    Follows (y ∷ z ∷ rest) (with_arrival ss (arrival_of y))
went_on apart p recorded y z rest ss timely (own, recs) f close =
    record {
      d = d;
      base = f.base;
      newest = c;
      behind = s;
      older = f.older;
      are = ap (λ ts. with_arrival ts x) f.are ∙ ap (λ b. cond b (gone_on s x ∷ f.older) (stretch_begun x ∷ s ∷ f.older)) on
          ∙ ap (λ m. (placed y.side y.time m ∷ s) ∷ f.older) number;
      time = refl;
      unseen = f.unseen;
      level = level_more f.base t n f.level;
      top = ap (λ g. greater g (n +ℤ d)) f.top ∙ greater_shift t n d;
      same = λ e m above. ap (λ b. (b && same_side e y.side) || came e (m +ℤ d) s) (int_eq_shift m n d)
          ∙ ap (λ b. (int_eq m n && same_side e y.side) || b) (f.same e m above);
      first = λ m above. ap (λ b. cond (b && not (came A (m +ℤ d) s || came B (m +ℤ d) s)) y.time (first_time (m +ℤ d) s)) (int_eq_shift m n d)
          ∙ ap (λ b. cond (int_eq m n && not (b || came B (m +ℤ d) s)) y.time (first_time (m +ℤ d) s)) (f.same A m above)
          ∙ ap (λ b. cond (int_eq m n && not (came A m before || b)) y.time (first_time (m +ℤ d) s)) (f.same B m above)
          ∙ ap (λ u. cond (int_eq m n && not (came A m before || came B m before)) y.time u) (f.first m above);
      within = λ k is. elim (cases_Bool (int_eq k (n +ℤ d))) [
        | inl same ↦ subst (λ i. (f.base +ℤ d) <ℤ i) (sym ((Decides-int_eq k (n +ℤ d)).0 same)) (over f.base n d above_base)
        | inr other ↦ f.within k (sym (some_other k c s other) ∙ is)
      ];
      olds = mirrored_more before y f.base f.base f.older above_base (itself f.base) f.olds;
      repeated = λ e. grown (repeats e (c ∷ s)) (repeats e s) (sum_by (repeats e) f.older) _ _ (sum_by-cons (repeats e) (c ∷ s) f.older)
          (sum_by-cons (repeats e) s f.older) (ap (λ b. cond {A = ℕ} b 1 0 + repeats e s) (not_repeated e y.side (λ i. came i (n +ℤ d) s) not_there))
          (f.repeated e);
      late = not_late (cases_Bool (pairs_up c s));
    }
  where
    before : List Placed
    before = z ∷ rest

    x : Arrival
    x = arrival_of y

    n : ℤ
    n = y.number

    t : ℤ
    t = top_number before

    d : ℤ
    d = f.d

    s : List Placed
    s = f.newest ∷ f.behind

    c : Placed
    c = placed y.side y.time (n +ℤ d)

    under : (t -ℤ pos 1023) <ℤ n
    under = not_under apart p recorded y z rest timely (own, recs)

    lower : (b t n : ℤ) → b ≤ℤ (t -ℤ pos 1023) → (t -ℤ pos 1023) <ℤ n → b <ℤ n
    lower b t n le lt = omega (arith, ints, le, lt)

    over : (b n d : ℤ) → b <ℤ n → (b +ℤ d) <ℤ (n +ℤ d)
    over b n d lt = omega (arith, ints, lt)

    itself : (b : ℤ) → b ≤ℤ b
    itself b = omega (arith, ints)

    above_base : f.base <ℤ n
    above_base = lower f.base t n f.level under

    place : Distance
    place = lies_from s (wire n)

    one : IsTheOne kept_numbers (top_number s) (wire n) (number_at (top_number s) place)
    one = number_is (top_number s) (wire n) (wire-lt n)

    number : number_at (top_number s) place ≡ n +ℤ d
    number = sym (one.alone (n +ℤ d) (near_of (top_number s) t n d f.top under (closer t n close)) (f.unseen n))

    on : goes_on s x ≡ true
    on = ap (λ u. goes_to (nat_lt (y.time - u) epoch_gap) place) f.time
        ∙ goes_further (top_number s) t n d (nat_lt (y.time - z.time) epoch_gap) place f.top number close
        (near_time apart p recorded y z rest timely (own, recs))

    not_there : came y.side (n +ℤ d) s ≡ false
    not_there = f.same y.side n above_base ∙ own.once

    grown : (one old rest now was : ℕ) → now ≡ one + rest → was ≡ old + rest → one ≡ 0 + old → was ≡ 0 → now ≡ 0
    grown one old rest now was e g h i = omega (arith, e, g, h, i)

    not_late : (pairs_up c s ≡ true) ⊎ (pairs_up c s ≡ false) → count_in 6 (skews_of ((c ∷ s) ∷ f.older)) ≡ 0
    not_late (inr single) =
        ap (λ b. count_in 6 (cond b (skew_by y.side y.time (first_time (n +ℤ d) s) ∷ skews_in s) (skews_in s) ++ skews_of f.older)) single
        ∙ f.late
    not_late (inl pair) =
        let far = other_side y.side in
        let parts = and_parts (came far (n +ℤ d) s) (not (came y.side (n +ℤ d) s)) pair in
        let there : came far n before ≡ true = sym (f.same far n above_base) ∙ parts.0 in
        let alone : came (other_side far) n before ≡ false = ap (λ e. came e n before) (back_side y.side) ∙ own.once in
        let u = first_time (n +ℤ d) s in
        let first : u ≡ p.passes far n = f.first n above_base ∙ first_alone p recorded far n before recs there alone in
        let was : Came p recorded far n = came_as p recorded far n before recs there in
        let bound : unsigned_abs (skew_by y.side y.time u) ≤ apart =
        skew_small y.side y.time u apart
        (omega (arith, own.time, first, timely.not_late y.side n own.goes, timely.not_early far n was.goes))
        (omega (arith, own.time, first, timely.not_late far n was.goes, timely.not_early y.side n own.goes)) in
        let small : nat_eq (class_of (unsigned_abs (skew_by y.side y.time u))) 6 ≡ false =
        not_last (unsigned_abs (skew_by y.side y.time u)) (omega (arith, bound, timely.soon)) in
        ap (λ b. count_in 6 (cond b (skew_by y.side y.time u ∷ skews_in s) (skews_in s) ++ skews_of f.older)) pair
        ∙ sum_by-cons (λ i. cond (nat_eq (class_of (unsigned_abs i)) 6) 1 0) (skew_by y.side y.time u) (skews_in s ++ skews_of f.older)
        ∙ ap (λ b. cond {A = ℕ} b 1 0 + count_in 6 (skews_in s ++ skews_of f.older)) small ∙ ap (λ k. 0 + k) f.late

-- one that lies further ahead begins a stretch
leapt : (apart : ℕ) (p : Passage) (recorded : Spans) (y z : Placed) (rest : List Placed) (ss : List (List Placed)) → PassesInTime apart p →
    AreRecorded p recorded (y ∷ z ∷ rest) → Follows (z ∷ rest) ss → (top_number (z ∷ rest) +ℤ pos kept_numbers) ≤ℤ y.number →
    Follows (y ∷ z ∷ rest) (with_arrival ss (arrival_of y))
leapt apart p recorded y z rest ss timely (own, recs) f far =
    begun y before (s ∷ f.older) (with_arrival ss x)
    (ap (λ ts. with_arrival ts x) f.are ∙ ap (λ b. cond b (gone_on s x ∷ f.older) (stretch_begun x ∷ s ∷ f.older)) off)
    (greater_second t n (higher t n far)) (λ m above c. above_top c before m (over t n m far above))
    (mine, mirrored_more before y f.base (n -ℤ pos 1023) f.older (lower f.base t n f.level far) (base_up f.base t n f.level far) f.olds)
    f.repeated f.late
  where
    before : List Placed
    before = z ∷ rest

    x : Arrival
    x = arrival_of y

    n : ℤ
    n = y.number

    t : ℤ
    t = top_number before

    d : ℤ
    d = f.d

    s : List Placed
    s = f.newest ∷ f.behind

    higher : (t n : ℤ) → (t +ℤ pos kept_numbers) ≤ℤ n → t ≤ℤ n
    higher t n far = omega (arith, ints, far)

    over : (t n m : ℤ) → (t +ℤ pos kept_numbers) ≤ℤ n → (n -ℤ pos 1023) <ℤ m → t <ℤ m
    over t n m far above = omega (arith, ints, far, above)

    lower : (b t n : ℤ) → b ≤ℤ (t -ℤ pos 1023) → (t +ℤ pos kept_numbers) ≤ℤ n → b <ℤ n
    lower b t n le far = omega (arith, ints, le, far)

    base_up : (b t n : ℤ) → b ≤ℤ (t -ℤ pos 1023) → (t +ℤ pos kept_numbers) ≤ℤ n → b ≤ℤ (n -ℤ pos 1023)
    base_up b t n le far = omega (arith, ints, le, far)

    place : Distance
    place = lies_from s (wire n)

    one : IsTheOne kept_numbers (top_number s) (wire n) (number_at (top_number s) place)
    one = number_is (top_number s) (wire n) (wire-lt n)

    number : number_at (top_number s) place ≡ n +ℤ d
    number = sym (one.alone (n +ℤ d) (near_of (top_number s) t n d f.top (not_under apart p recorded y z rest timely (own, recs)) own.not_far) (f.unseen n))

    stops : (g t n d : ℤ) (soon : Bool) (q : Distance) → g ≡ t +ℤ d → number_at g q ≡ n +ℤ d → (t +ℤ pos kept_numbers) ≤ℤ n →
        goes_to soon q ≡ false
    stops g t n d soon (Behind k) e at far = absurd (no g t n d k e at far)
      where
        no : (g t n d : ℤ) (k : ℕ) → g ≡ t +ℤ d → g -ℤ pos k ≡ n +ℤ d → (t +ℤ pos kept_numbers) ≤ℤ n → ⊥
        no g t n d k e at far = omega (arith, ints, e, at, far)
    stops g t n d soon (Ahead k) e at far = ap not (le-leb kept_numbers k (omega (arith, ints, e, at, far)))

    off : goes_on s x ≡ false
    off = stops (top_number s) t n d (nat_lt (y.time - f.newest.time) epoch_gap) place f.top number far

    mine : (k : ℤ) → some s k ≡ true → Mirrored (y ∷ before) (n -ℤ pos 1023) s k
    mine k is =
        let m = k -ℤ d in
        let above : f.base <ℤ m = back f.base k d (f.within k is) in
        let low : m ≤ℤ t = down k (top_number s) t d f.top (some_below s k is) in
        let other : int_eq m n ≡ false = not_equal m n (less m t n low far) in
        record {
          n = m;
          old = kept m t n low far;
          same = λ c. ap (λ i. came c i s) (sym (again k d)) ∙ f.same c m above ∙ sym (came-other c m y before other);
          first = ap (λ i. first_time i s) (sym (again k d)) ∙ f.first m above ∙ sym (first_other m y before other);
        }
      where
        back : (b k d : ℤ) → (b +ℤ d) <ℤ k → b <ℤ (k -ℤ d)
        back b k d lt = omega (arith, ints, lt)

        down : (k g t d : ℤ) → g ≡ t +ℤ d → k ≤ℤ g → (k -ℤ d) ≤ℤ t
        down k g t d e le = omega (arith, ints, e, le)

        less : (m t n : ℤ) → m ≤ℤ t → (t +ℤ pos kept_numbers) ≤ℤ n → m <ℤ n
        less m t n le far = omega (arith, ints, le, far)

        kept : (m t n : ℤ) → m ≤ℤ t → (t +ℤ pos kept_numbers) ≤ℤ n → m ≤ℤ (n -ℤ pos 1023)
        kept m t n le far = omega (arith, ints, le, far)

        again : (k d : ℤ) → (k -ℤ d) +ℤ d ≡ k
        again k d = omega (arith, ints)

follows : (apart : ℕ) (p : Passage) (recorded : Spans) (y : Placed) (before : List Placed) → PassesInTime apart p →
    AreRecorded p recorded (y ∷ before) → Follows (y ∷ before) (stretches (arrivals_by (y ∷ before)))
follows apart p recorded y [] timely recs = begun y [] [] (stretch_begun (arrival_of y) ∷ []) refl refl (λ m above c. refl) tt (λ c. refl) refl
follows apart p recorded y (z ∷ rest) timely (own, recs) =
    let f = follows apart p recorded z rest timely recs in
    by_lt_z y.number (top_number (z ∷ rest) +ℤ pos kept_numbers)
    (λ close. went_on apart p recorded y z rest (stretches (arrivals_by (z ∷ rest))) timely (own, recs) f close)
    (λ far. leapt apart p recorded y z rest (stretches (arrivals_by (z ∷ rest))) timely (own, recs) f far)

pub no_repeat : RecordsHaveNoRepeat
no_repeat apart p recorded [] timely recs = record { repeats_a = refl; repeats_b = refl; late = refl }
no_repeat apart p recorded (y ∷ before) timely recs =
    let f = follows apart p recorded y before timely recs in
    record {
      repeats_a = ap (sum_by (repeats A)) f.are ∙ f.repeated A;
      repeats_b = ap (sum_by (repeats B)) f.are ∙ f.repeated B;
      late = ap (λ ss. count_in 6 (skews_of ss)) f.are ∙ f.late;
    }

-- what each stretch has of a number is what the copies have of one
all_mirrored : (copies : List Placed) (ss : List (List Placed)) (f : Follows copies ss) →
    AreMirrored copies (top_number copies) ((f.newest ∷ f.behind) ∷ f.older)
all_mirrored copies ss f = (mine, weaker f.older f.olds)
  where
    s : List Placed
    s = f.newest ∷ f.behind

    mine : (k : ℤ) → some s k ≡ true → Mirrored copies (top_number copies) s k
    mine k is =
        let m = k -ℤ f.d in
        let above : f.base <ℤ m = back f.base k f.d (f.within k is) in
        record {
          n = m;
          old = down k (top_number s) (top_number copies) f.d f.top (some_below s k is);
          same = λ c. ap (λ i. came c i s) (sym (again k f.d)) ∙ f.same c m above;
          first = ap (λ i. first_time i s) (sym (again k f.d)) ∙ f.first m above;
        }
      where
        back : (b k d : ℤ) → (b +ℤ d) <ℤ k → b <ℤ (k -ℤ d)
        back b k d lt = omega (arith, ints, lt)

        down : (k g t d : ℤ) → g ≡ t +ℤ d → k ≤ℤ g → (k -ℤ d) ≤ℤ t
        down k g t d e le = omega (arith, ints, e, le)

        again : (k d : ℤ) → (k -ℤ d) +ℤ d ≡ k
        again k d = omega (arith, ints)

    higher : (n b t : ℤ) → n ≤ℤ b → b ≤ℤ (t -ℤ pos 1023) → n ≤ℤ t
    higher n b t le level = omega (arith, ints, le, level)

    weaker : (ts : List (List Placed)) → AreMirrored copies f.base ts → AreMirrored copies (top_number copies) ts
    weaker [] all = tt
    weaker (t ∷ ts) all = (
      λ k is. let m = all.0 k is in
          record { n = m.n; old = higher m.n f.base (top_number copies) m.old f.level; same = m.same; first = m.first },
      weaker ts all.1,
    )

-- no number is one of a frame that one side lost
none_only : (apart : ℕ) (p : Passage) (recorded judged : Spans) (copies : List Placed) → PassesInTime apart p → AreRecorded p recorded copies →
    HasAll p recorded copies → GoesPastBoth p → LeavesOut apart recorded judged → (base : ℤ) (ts : List (List Placed)) →
    AreMirrored copies base ts → (sum_by (numbers_with judged OnlyA) ts ≡ 0) × (sum_by (numbers_with judged OnlyB) ts ≡ 0)
none_only apart p recorded judged copies timely recs all both leaves base [] mirrored = (refl, refl)
none_only apart p recorded judged copies timely recs all both leaves base (t ∷ ts) mirrored =
    let rest = none_only apart p recorded judged copies timely recs all both leaves base ts mirrored.1 in
    let none_a : numbers_with judged OnlyA t ≡ 0 =
    none_counted (λ k. same_outcome OnlyA (outcome_of judged t k))
    (λ k. no_only_a (came A k t) (came B k t) (is_beyond judged A (first_time k t)) (is_beyond judged B (first_time k t)) (beyond A k)) (stretch_numbers t) in
    let none_b : numbers_with judged OnlyB t ≡ 0 =
    none_counted (λ k. same_outcome OnlyB (outcome_of judged t k))
    (λ k. no_only_b (came A k t) (came B k t) (is_beyond judged A (first_time k t)) (is_beyond judged B (first_time k t)) (beyond B k)) (stretch_numbers t) in (
      omega (arith, sum_by-cons (numbers_with judged OnlyA) t ts, none_a, rest.0),
      omega (arith, sum_by-cons (numbers_with judged OnlyB) t ts, none_b, rest.1),
    )
  where
    beyond : (side : Side) (k : ℤ) → came side k t ≡ true → came (other_side side) k t ≡ false →
        is_beyond judged (other_side side) (first_time k t) ≡ true
    beyond side k is other =
        let m = mirrored.0 k (some_at side k t is) in
        ap (is_beyond judged (other_side side)) m.first
        ∙ lone_is_outside apart p recorded judged copies side m.n timely recs all both leaves (sym (m.same side) ∙ is)
        (sym (m.same (other_side side)) ∙ other)

pub no_loss : RecordsHaveNoLoss
no_loss apart p recorded judged [] timely recs all both leaves = record { only_a = refl; only_b = refl }
no_loss apart p recorded judged (y ∷ before) timely recs all both leaves =
    let copies = y ∷ before in
    let f = follows apart p recorded y before timely recs in
    let told = each_number judged (arrivals_by copies) in
    let none = none_only apart p recorded judged copies timely recs all both leaves (top_number copies) ((f.newest ∷ f.behind) ∷ f.older)
    (all_mirrored copies (stretches (arrivals_by copies)) f) in
    record {
      only_a = told.only_a ∙ ap (sum_by (numbers_with judged OnlyA)) f.are ∙ none.0;
      only_b = told.only_b ∙ ap (sum_by (numbers_with judged OnlyB)) f.are ∙ none.1;
    }
