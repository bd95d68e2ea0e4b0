-- The times of first copies, and the frames that came at an edge, with one copy more.
use Rattle.std.proofs.Common.{◌≡◌, ℕ, ◌+◌, ◌*◌, ◌%◌, ◌<◌, ◌≤◌, Bool, true, false, cond, ◌||◌, ◌&&◌, not, List, [], ◌∷◌, length, ℤ, pos, negsuc, arith, refl, sym, ap, ◌∙◌, subst, inl, inr}
use Rattle.std.specs.Prelude.{◌^◌, count_by, sum_by, slice_set, slice_index_or, ◌+ℤ◌, ◌-ℤ◌, ◌<ℤ◌, ◌≤ℤ◌}
use Rattle.std.specs.Ordering.{int_eq}
use Rattle.std.proofs.lemmas.Bool.{cases_Bool}
use Rattle.std.proofs.lemmas.Bool.Decides.{Decides-int_eq}
use Rattle.std.proofs.lemmas.Int.{ints}
use Rattle.std.proofs.lemmas.List.{get_or-set_same, get_or-set_other}
use Rattle.std.proofs.lemmas.List.Sums.{sum_by-cons}
use borrow.Author.Differences.{up, down}
use Rattle.sr_sequence.specs.Numbers.{wire}
use Rattle.sr_sequence.specs.Places.{number_at, IsTheOne}
use Rattle.sr_dup_window.specs.Families.{greater}
use Rattle.sr_audit.specs.declared.arrival.Arrival.{Arrival}
use Rattle.sr_audit.specs.declared.side.Side.{Side}
use Rattle.sr_audit.specs.declared.side.Side.TheVariants.{A, B}
use Rattle.sr_audit.specs.declared.span.Spans.{Spans}
use Rattle.sr_audit.specs.declared.tally.Came.{Came}
use Rattle.sr_audit.specs.declared.tally.Sides.{Sides}
use Rattle.sr_audit.specs.Limits.{kept_numbers, place_in}
use Rattle.sr_audit.specs.Stretches.{
  Placed,
  copy_as,
  same_side,
  came,
  top_number,
  lies_from,
  goes_on,
  gone_on,
  stretch_begun,
  with_arrival,
  stretches,
}
use Rattle.sr_audit.specs.Tallies.{frames, frames_with, by_a_alone, by_b_alone, tally_of}
use Rattle.sr_audit.specs.Looks.{came_by, by_neither, look_at}
use Rattle.sr_audit.specs.Edges.{
  first_time,
  frames_at,
  is_beyond,
  at_edge_a,
  at_edge_b,
  edges_of,
  edges_with,
  moments_with,
  KeepsTimes,
  KeepsEdges,
}
use Rattle.sr_audit.proofs.FrameLemmas.{count-cons, came-other, first_other, frames_at-more}
use Rattle.sr_audit.proofs.TallyLemmas.{Grows, rx_a-sum, rx_b-sum, rx-sum}
use Rattle.sr_audit.proofs.FollowLemmas.{number_is, length-stretches}

-- the greatest number of a stretch
greater_up : (m n : ℤ) → m ≤ℤ greater m n
greater_up m n = grind (arith, ints)

pub greater_over : (m n : ℤ) → n ≤ℤ greater m n
greater_over m n = grind (arith, ints)

not_over : (m n : ℤ) → m ≡ n → m ≤ℤ n
not_over m n e = omega (arith, ints, e)

up_to : (k m n : ℤ) → k ≤ℤ m → m ≤ℤ n → k ≤ℤ n
up_to k m n g h = omega (arith, ints, g, h)

pub came_below : (side : Side) (s : List Placed) (n : ℤ) → came side n s ≡ true → n ≤ℤ top_number s
came_below side [] n is = let no : false ≡ true = is in absurd cc
came_below side (y ∷ []) n is =
    elim (cases_Bool (int_eq n y.number)) [
      | inl same ↦ not_over n y.number ((Decides-int_eq n y.number).0 same)
      | inr other ↦ let no : false ≡ true = sym (came-other side n y [] other) ∙ is in absurd cc
    ]
came_below side (y ∷ z ∷ before) n is =
    elim (cases_Bool (int_eq n y.number)) [
      | inl same ↦ up_to n y.number (greater (top_number (z ∷ before)) y.number) (not_over n y.number ((Decides-int_eq n y.number).0 same))
          (greater_over (top_number (z ∷ before)) y.number)
      | inr other ↦ up_to n (top_number (z ∷ before)) (greater (top_number (z ∷ before)) y.number)
          (came_below side (z ∷ before) n (sym (came-other side n y (z ∷ before) other) ∙ is))
          (greater_up (top_number (z ∷ before)) y.number)
    ]

pub some_below : (s : List Placed) (n : ℤ) → (came A n s || came B n s) ≡ true → n ≤ℤ top_number s
some_below s n some = by (came A n s) (came B n s) refl refl some
  where
    by : (a b : Bool) → came A n s ≡ a → came B n s ≡ b → (a || b) ≡ true → n ≤ℤ top_number s
    by true b is_a is_b or = came_below A s n is_a
    by false true is_a is_b or = came_below B s n is_b
    by false false is_a is_b or = let no : false ≡ true = or in absurd cc

-- two of 1024 numbers in a row have places of their own
wire_is : (z : ℤ) → wire z ≡ (up z + 65535 * down z) % 65536
wire_is (pos n) = omega arith
wire_is (negsuc n) = omega arith

same_parts : (a b x y : ℕ) → (a + 65535 * b) % 65536 % 1024 ≡ (x + 65535 * y) % 65536 % 1024 → a + y < x + b + 1024 →
    x + b < a + y + 1024 → a + y ≡ x + b
same_parts a b x y e h g = omega arith

pub same_place : (top m n : ℤ) → (top -ℤ pos kept_numbers) <ℤ m → (top -ℤ pos kept_numbers) <ℤ n → m ≤ℤ top → n ≤ℤ top →
    place_in (wire m) ≡ place_in (wire n) → m ≡ n
same_place top m n above_m above_n below_m below_n same =
    let close_above : m <ℤ (n +ℤ pos 1024) = omega (arith, ints, above_n, below_m) in
    let close_below : n <ℤ (m +ℤ pos 1024) = omega (arith, ints, above_m, below_n) in
    let parts : up m + down n ≡ up n + down m =
    same_parts (up m) (down m) (up n) (down n) (ap (λ k. k % 1024) (sym (wire_is m)) ∙ same ∙ ap (λ k. k % 1024) (wire_is n))
    (omega (arith, ints)) (omega (arith, ints)) in
    omega (arith, ints)

lower : (top higher n : ℤ) → top ≤ℤ higher → (higher -ℤ pos kept_numbers) <ℤ n → (top -ℤ pos kept_numbers) <ℤ n
lower top higher n le near = omega (arith, ints, le, near)

high : (top m : ℤ) → (top -ℤ pos kept_numbers) <ℤ m → (greater top m -ℤ pos kept_numbers) <ℤ m
high top m near = grind (arith, ints)

-- when the first copy of the frame of one copy more came
pub first_own : (y : Placed) (s : List Placed) →
    first_time y.number (y ∷ s) ≡ cond (came A y.number s || came B y.number s) (first_time y.number s) y.time
first_own y s =
    let own : int_eq y.number y.number ≡ true = (Decides-int_eq y.number y.number).1 refl in
    rw own (by (came A y.number s || came B y.number s))
  where
    by : (b : Bool) → cond (not b) y.time (first_time y.number s) ≡ cond b (first_time y.number s) y.time
    by true = refl
    by false = refl

-- the times with one copy more of a stretch
times-more : (z : Placed) (before : List Placed) (x : Arrival) (m : ℤ) (moments : List ℕ) → wire m ≡ x.seq.0 →
    (top_number (z ∷ before) -ℤ pos kept_numbers) <ℤ m → length moments ≡ 1024 → KeepsTimes (z ∷ before) moments →
    KeepsTimes (copy_as x m ∷ z ∷ before) (moments_with x (came_by (z ∷ before) m) moments)
times-more z before x m moments carried near_m full keeps =
    λ n some near. elim (cases_Bool (int_eq n m)) [
      | inl same ↦ subst Shows (sym ((Decides-int_eq n m).0 same)) (own (came A m s || came B m s) refl)
      | inr other ↦
          let before_some : (came A n s || came B n s) ≡ true =
          ap (λ b. b || came B n s) (sym (came-other A n c s other)) ∙ ap (λ b. came A n (c ∷ s) || b) (sym (came-other B n c s other)) ∙ some in
          let kept : slice_index_or moments (place_in (wire n)) 0 ≡ first_time n s =
          keeps n before_some (lower (top_number s) (top_number (c ∷ s)) n (greater_up (top_number s) m) near) in
          let apart : place_in (wire n) ≡ place_in x.seq.0 → ⊥ =
          λ met. let one : n ≡ m = same_place (top_number (c ∷ s)) n m near (high (top_number s) m near_m)
          (some_below (c ∷ s) n some) (greater_over (top_number s) m) (met ∙ ap place_in (sym carried)) in
          let is : int_eq n m ≡ true = (Decides-int_eq n m).1 one in let no : false ≡ true = sym other ∙ is in cc in
          passing n other kept apart (came A m s || came B m s) refl
    ]
  where
    s : List Placed
    s = z ∷ before

    c : Placed
    c = copy_as x m

    -- at a place
    at : List ℕ → ℤ → ℕ
    at times n = slice_index_or times (place_in (wire n)) 0

    with_it : List ℕ
    with_it = slice_set moments (place_in x.seq.0) x.time

    Shows : ℤ → Type 0
    Shows n = slice_index_or (moments_with x (came_by s m) moments) (place_in (wire n)) 0 ≡ first_time n (c ∷ s)

    times_if : (b : Bool) → (came A m s || came B m s) ≡ b → moments_with x (came_by s m) moments ≡ cond b moments with_it
    times_if b e = ap (λ k. cond k moments with_it) e

    first_if : (b : Bool) → (came A m s || came B m s) ≡ b → first_time m (c ∷ s) ≡ cond b (first_time m s) x.time
    first_if b e = first_own c s ∙ ap (λ k. cond k (first_time m s) x.time) e

    own : (b : Bool) → (came A m s || came B m s) ≡ b → Shows m
    own true known = ap (λ l. at l m) (times_if true known) ∙ keeps m known near_m ∙ sym (first_if true known)
    own false new =
        ap (λ l. at l m) (times_if false new) ∙ ap (λ k. slice_index_or with_it (place_in k) 0) carried
        ∙ get_or-set_same moments (place_in x.seq.0) x.time 0 (omega (arith, full)) ∙ sym (first_if false new)

    passing : (n : ℤ) → int_eq n m ≡ false → slice_index_or moments (place_in (wire n)) 0 ≡ first_time n s →
        (place_in (wire n) ≡ place_in x.seq.0 → ⊥) → (b : Bool) → (came A m s || came B m s) ≡ b → Shows n
    passing n other kept apart true known = ap (λ l. at l n) (times_if true known) ∙ kept ∙ sym (first_other n c s other)
    passing n other kept apart false new =
        ap (λ l. at l n) (times_if false new) ∙ get_or-set_other moments (place_in x.seq.0) (place_in (wire n)) x.time 0 apart ∙ kept
        ∙ sym (first_other n c s other)

-- the times of a stretch that begins
wire_small : (n : ℕ) → n < 65536 → wire (pos n) ≡ n
wire_small n h = omega (arith, h)

times-begun : (x : Arrival) (moments : List ℕ) → x.seq.0 < 65536 → length moments ≡ 1024 →
    KeepsTimes (stretch_begun x) (slice_set moments (place_in x.seq.0) x.time)
times-begun x moments fits full =
    λ n some near. elim (cases_Bool (int_eq n (pos x.seq.0))) [
      | inl same ↦ subst Shows (sym ((Decides-int_eq n (pos x.seq.0)).0 same)) own
      | inr other ↦
          let none : (came A n (stretch_begun x) || came B n (stretch_begun x)) ≡ false =
          ap (λ b. b || came B n (stretch_begun x)) (came-other A n c [] other) ∙ came-other B n c [] other in
          let no : false ≡ true = sym none ∙ some in absurd cc
    ]
  where
    c : Placed
    c = copy_as x (pos x.seq.0)

    with_it : List ℕ
    with_it = slice_set moments (place_in x.seq.0) x.time

    Shows : ℤ → Type 0
    Shows n = slice_index_or with_it (place_in (wire n)) 0 ≡ first_time n (stretch_begun x)

    own : Shows (pos x.seq.0)
    own =
        ap (λ k. slice_index_or with_it (place_in k) 0) (wire_small x.seq.0 fits)
        ∙ get_or-set_same moments (place_in x.seq.0) x.time 0 (omega (arith, full)) ∙ sym (first_own c [])

-- no more frames came at an edge than by one side alone
count_both : (p q : ℤ → Bool) (ns : List ℤ) → count_by (λ n. p n && q n) ns ≤ count_by p ns
count_both p q [] = omega arith
count_both p q (n ∷ ns) = step (count_both p q ns) (p n) (q n) (count-cons (λ k. p k && q k) n ns) (count-cons p n ns)
  where
    step : count_by (λ k. p k && q k) ns ≤ count_by p ns → (a b : Bool) → count_by (λ k. p k && q k) (n ∷ ns) ≡ cond (a && b) 1 0 + count_by (λ k. p k && q k) ns →
        count_by p (n ∷ ns) ≡ cond a 1 0 + count_by p ns → count_by (λ k. p k && q k) (n ∷ ns) ≤ count_by p (n ∷ ns)
    step ih true true e f = omega (arith, e, f, ih)
    step ih true false e f = omega (arith, e, f, ih)
    step ih false b e f = omega (arith, e, f, ih)

sum-le : (f g : List Placed → ℕ) → ((s : List Placed) → f s ≤ g s) → (ss : List (List Placed)) → sum_by f ss ≤ sum_by g ss
sum-le f g each [] = omega arith
sum-le f g each (s ∷ ss) = omega (arith, sum_by-cons f s ss, sum_by-cons g s ss, each s, sum-le f g each ss)

pub edges-a-le : (spans : Spans) (ss : List (List Placed)) → (edges_of spans ss).a ≤ (tally_of ss).alone.a
edges-a-le spans ss = sum-le (frames_at (at_edge_a spans)) (frames_with by_a_alone)
    (λ s. count_both (λ n. by_a_alone (came A n s) (came B n s)) (λ n. is_beyond spans B (first_time n s)) (frames s)) ss

pub edges-b-le : (spans : Spans) (ss : List (List Placed)) → (edges_of spans ss).b ≤ (tally_of ss).alone.b
edges-b-le spans ss = sum-le (frames_at (at_edge_b spans)) (frames_with by_b_alone)
    (λ s. count_both (λ n. by_b_alone (came A n s) (came B n s)) (λ n. is_beyond spans A (first_time n s)) (frames s)) ss

few_a : (spans : Spans) (ss : List (List Placed)) → sum_by length ss ≤ 18446744073709551615 → (edges_of spans ss).a ≤ 18446744073709551615
few_a spans ss few = omega (arith, edges-a-le spans ss, rx-sum ss, rx_a-sum ss, few)

few_b : (spans : Spans) (ss : List (List Placed)) → sum_by length ss ≤ 18446744073709551615 → (edges_of spans ss).b ≤ 18446744073709551615
few_b spans ss few = omega (arith, edges-b-le spans ss, rx-sum ss, rx_b-sum ss, few)

-- the counts with one copy more
abbrev sides : ℕ → ℕ → Sides
sides a b = record { a = a; b = b }

sides_are : (a b a' b' : ℕ) → a ≡ a' → b ≡ b' → sides a b ≡ sides a' b'
sides_are a b a' b' e f = λ i. record { a = e i; b = f i }

edges_step : (spans : Spans) (side : Side) (a b : Bool) (time first ea' ea ra eb' eb rb : ℕ) →
    ea' + cond (a || b) (cond (at_edge_a spans a b first) 1 0) 0
    ≡ ea + cond (at_edge_a spans (same_side A side || a) (same_side B side || b) (cond (a || b) first time)) 1 0 →
    eb' + cond (a || b) (cond (at_edge_b spans a b first) 1 0) 0
    ≡ eb + cond (at_edge_b spans (same_side A side || a) (same_side B side || b) (cond (a || b) first time)) 1 0 →
    ea' + ra ≤ 18446744073709551615 → ea + ra ≤ 18446744073709551615 →
    eb' + rb ≤ 18446744073709551615 → eb + rb ≤ 18446744073709551615 →
    edges_with spans side time (record { a = a; b = b }) first (sides (ea + ra) (eb + rb)) ≡ sides (ea' + ra) (eb' + rb)
edges_step spans A true true time first ea' ea ra eb' eb rb e f g h k l =
    sides_are (ea + ra) (eb + rb) (ea' + ra) (eb' + rb) (omega (arith, e)) (omega (arith, f))
edges_step spans A true false time first ea' ea ra eb' eb rb e f g h k l =
    sides_are (ea + ra) (eb + rb) (ea' + ra) (eb' + rb) (omega (arith, e)) (omega (arith, f))
edges_step spans A false true time first ea' ea ra eb' eb rb e f g h k l =
    sides_are _ _ (ea' + ra) (eb' + rb) (omega (arith, e, g, h)) (omega (arith, f, k, l))
edges_step spans A false false time first ea' ea ra eb' eb rb e f g h k l =
    sides_are _ _ (ea' + ra) (eb' + rb) (omega (arith, e, g, h)) (omega (arith, f, k, l))
edges_step spans B true true time first ea' ea ra eb' eb rb e f g h k l =
    sides_are (ea + ra) (eb + rb) (ea' + ra) (eb' + rb) (omega (arith, e)) (omega (arith, f))
edges_step spans B true false time first ea' ea ra eb' eb rb e f g h k l =
    sides_are _ _ (ea' + ra) (eb' + rb) (omega (arith, e, g, h)) (omega (arith, f, k, l))
edges_step spans B false true time first ea' ea ra eb' eb rb e f g h k l =
    sides_are (ea + ra) (eb + rb) (ea' + ra) (eb' + rb) (omega (arith, e)) (omega (arith, f))
edges_step spans B false false time first ea' ea ra eb' eb rb e f g h k l =
    sides_are _ _ (ea' + ra) (eb' + rb) (omega (arith, e, g, h)) (omega (arith, f, k, l))

edges-more : (spans : Spans) (old rest : List (List Placed)) (y : Placed) (s : List Placed) → Grows old s rest →
    sum_by length ((y ∷ s) ∷ rest) ≤ 18446744073709551615 →
    edges_with spans y.side y.time (came_by s y.number) (first_time y.number s) (edges_of spans old) ≡ edges_of spans ((y ∷ s) ∷ rest)
edges-more spans old rest y s grows few =
    let m = y.number in
    let fa = frames_at (at_edge_a spans) in
    let fb = frames_at (at_edge_b spans) in
    let old_few : sum_by length old ≤ 18446744073709551615 =
    omega (arith, grows.sums length refl, sum_by-cons length (y ∷ s) rest, few) in
    let old_a : sum_by fa old ≡ fa s + sum_by fa rest = grows.sums fa refl in
    let old_b : sum_by fb old ≡ fb s + sum_by fb rest = grows.sums fb refl in
    let new_a : sum_by fa ((y ∷ s) ∷ rest) ≡ fa (y ∷ s) + sum_by fa rest = sum_by-cons fa (y ∷ s) rest in
    let new_b : sum_by fb ((y ∷ s) ∷ rest) ≡ fb (y ∷ s) + sum_by fb rest = sum_by-cons fb (y ∷ s) rest in
    let t = cond (came A m s || came B m s) (first_time m s) y.time in
    let was : edges_of spans old ≡ sides (fa s + sum_by fa rest) (fb s + sum_by fb rest) =
    sides_are (sum_by fa old) (sum_by fb old) (fa s + sum_by fa rest) (fb s + sum_by fb rest) old_a old_b in
    let is : edges_of spans ((y ∷ s) ∷ rest) ≡ sides (fa (y ∷ s) + sum_by fa rest) (fb (y ∷ s) + sum_by fb rest) =
    sides_are (sum_by fa ((y ∷ s) ∷ rest)) (sum_by fb ((y ∷ s) ∷ rest)) (fa (y ∷ s) + sum_by fa rest) (fb (y ∷ s) + sum_by fb rest) new_a new_b in
    ap (edges_with spans y.side y.time (came_by s m) (first_time m s)) was
    ∙ edges_step spans y.side (came A m s) (came B m s) y.time (first_time m s) (fa (y ∷ s)) (fa s) (sum_by fa rest) (fb (y ∷ s)) (fb s)
    (sum_by fb rest) (frames_at-more (at_edge_a spans) y s t (first_own y s)) (frames_at-more (at_edge_b spans) y s t (first_own y s))
    (omega (arith, new_a, few_a spans ((y ∷ s) ∷ rest) few)) (omega (arith, old_a, few_a spans old old_few))
    (omega (arith, new_b, few_b spans ((y ∷ s) ∷ rest) few)) (omega (arith, old_b, few_b spans old old_few))
    ∙ sym is

-- where no copy came before, the time of the first one says nothing
any_first : (spans : Spans) (side : Side) (time : ℕ) (k : Came) (t u : ℕ) (edges : Sides) → ((k.a || k.b) ≡ true → t ≡ u) →
    edges_with spans side time k t edges ≡ edges_with spans side time k u edges
any_first spans side time k t u edges same =
    elim (cases_Bool (k.a || k.b)) [
      | inl known ↦ ap (λ v. edges_with spans side time k v edges) (same known)
      | inr new ↦ rw new refl
    ]

-- what is kept, with one arrival more
pub edges_follow : (spans : Spans) (ss : List (List Placed)) (x : Arrival) (moments : List ℕ) (edges : Sides) → x.seq.0 < 65536 →
    length moments ≡ 1024 → 1 + sum_by length ss ≤ 18446744073709551615 → KeepsEdges spans ss moments edges →
    KeepsEdges spans (with_arrival ss x) (moments_with x (look_at ss x).came moments)
    (edges_with spans x.side x.time (look_at ss x).came (slice_index_or moments (place_in x.seq.0) 0) edges)
edges_follow spans ss x moments edges fits full few keeps = go ss few keeps
  where
    now : ℕ
    now = slice_index_or moments (place_in x.seq.0) 0

    begun : (old : List (List Placed)) → 1 + sum_by length old ≤ 18446744073709551615 → KeepsEdges spans old moments edges →
        KeepsEdges spans (stretch_begun x ∷ old) (moments_with x by_neither moments) (edges_with spans x.side x.time by_neither now edges)
    begun old most kept =
        record {
          times = times-begun x moments fits full;
          edges_are = any_first spans x.side x.time by_neither now 0 edges (λ no. let is : false ≡ true = no in absurd cc)
              ∙ ap (edges_with spans x.side x.time by_neither 0) kept.edges_are
              ∙ edges-more spans old old (copy_as x (pos x.seq.0)) [] (record { sums = λ f zero. omega (arith, zero) })
              (omega (arith, most, sum_by-cons length (stretch_begun x) old));
        }

    on : (z : Placed) (before : List Placed) (rest : List (List Placed)) → 1 + sum_by length ((z ∷ before) ∷ rest) ≤ 18446744073709551615 →
        KeepsEdges spans ((z ∷ before) ∷ rest) moments edges →
        KeepsEdges spans (gone_on (z ∷ before) x ∷ rest)
        (moments_with x (came_by (z ∷ before) (number_at (top_number (z ∷ before)) (lies_from (z ∷ before) x.seq.0))) moments)
        (edges_with spans x.side x.time (came_by (z ∷ before) (number_at (top_number (z ∷ before)) (lies_from (z ∷ before) x.seq.0))) now edges)
    on z before rest most kept =
        let s = z ∷ before in
        let m = number_at (top_number s) (lies_from s x.seq.0) in
        let one : IsTheOne kept_numbers (top_number s) x.seq.0 m = number_is (top_number s) x.seq.0 fits in
        let first : (came A m s || came B m s) ≡ true → now ≡ first_time m s =
        λ known. ap (λ k. slice_index_or moments (place_in k) 0) (sym one.carried) ∙ kept.times m known one.near.above in
        record {
          times = times-more z before x m moments one.carried one.near.above full kept.times;
          edges_are = any_first spans x.side x.time (came_by s m) now (first_time m s) edges first
              ∙ ap (edges_with spans x.side x.time (came_by s m) (first_time m s)) kept.edges_are
              ∙ edges-more spans (s ∷ rest) rest (copy_as x m) s (record { sums = λ f zero. sum_by-cons f s rest })
              (omega (arith, most, sum_by-cons length s rest, sum_by-cons length (copy_as x m ∷ s) rest));
        }

    go : (old : List (List Placed)) → 1 + sum_by length old ≤ 18446744073709551615 → KeepsEdges spans old moments edges →
        KeepsEdges spans (with_arrival old x) (moments_with x (look_at old x).came moments)
        (edges_with spans x.side x.time (look_at old x).came now edges)
    go [] most kept = begun [] most kept
    go ([] ∷ rest) most kept = begun ([] ∷ rest) most kept
    go ((z ∷ before) ∷ rest) most kept =
        elim (cases_Bool (goes_on (z ∷ before) x)) [
          | inl goes ↦ rw goes (on z before rest most kept)
          | inr not_on ↦ rw not_on (begun ((z ∷ before) ∷ rest) most kept)
        ]

-- the same, of what the calls answer
pub edges_taken : (spans : Spans) (xs : List Arrival) (x : Arrival) (k : Came) (om nm : List ℕ) (oe ne : Sides) → x.seq.0 < 65536 →
    length om ≡ 1024 → length xs + 1 < 2 ^ 64 → k ≡ (look_at (stretches xs) x).came → nm ≡ moments_with x k om →
    ne ≡ edges_with spans x.side x.time k (slice_index_or om (place_in x.seq.0) 0) oe → KeepsEdges spans (stretches xs) om oe →
    KeepsEdges spans (stretches (x ∷ xs)) nm ne
edges_taken spans xs x k om nm oe ne fits full few look moments edges keeps =
    let follows : KeepsEdges spans (with_arrival (stretches xs) x) (moments_with x (look_at (stretches xs) x).came om)
    (edges_with spans x.side x.time (look_at (stretches xs) x).came (slice_index_or om (place_in x.seq.0) 0) oe) =
    edges_follow spans (stretches xs) x om oe fits full (omega (arith, few, length-stretches xs)) keeps in
    let nm_is : nm ≡ moments_with x (look_at (stretches xs) x).came om = moments ∙ ap (λ c. moments_with x c om) look in
    let ne_is : ne ≡ edges_with spans x.side x.time (look_at (stretches xs) x).came (slice_index_or om (place_in x.seq.0) 0) oe =
    edges ∙ ap (λ c. edges_with spans x.side x.time c (slice_index_or om (place_in x.seq.0) 0) oe) look in
    subst (λ ms. KeepsEdges spans (stretches (x ∷ xs)) ms ne) (sym nm_is)
    (subst (KeepsEdges spans (stretches (x ∷ xs)) (moments_with x (look_at (stretches xs) x).came om)) (sym ne_is) follows)

-- what is kept before an arrival came
pub none_kept : (spans : Spans) (moments : List ℕ) (edges : Sides) → edges ≡ record { a = 0; b = 0 } → KeepsEdges spans [] moments edges
none_kept spans moments edges none =
    record { times = λ n some near. let no : false ≡ true = some in absurd cc; edges_are = none }
