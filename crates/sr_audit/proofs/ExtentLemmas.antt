-- What is kept of how far the numbers of stretches reach, with one arrival more.
use Rattle.std.proofs.Common.{◌≡◌, ℕ, ◌+◌, ◌-◌, ◌*◌, ◌<◌, ◌≤◌, Bool, true, false, cond, ◌||◌, ◌&&◌, not, ◌⊎◌, List, [], ◌∷◌, length, Option, None, Some, ℤ, pos, min, max, arith, refl, sym, ap, ◌∙◌, subst, inl, inr}
use Rattle.std.specs.Prelude.{sum_by, nat_lt, ◌+ℤ◌, ◌-ℤ◌, ◌≤ℤ◌, int_lt}
use Rattle.std.proofs.lemmas.Bool.{cases_Bool, cases_lt, lt-ltb, le-ltb, le-leb, lt-leb}
use Rattle.std.proofs.lemmas.Int.{ints}
use Rattle.std.proofs.lemmas.List.Sums.{sum_by-cons}
use Rattle.sr_sequence.specs.Numbers.{wire}
use Rattle.sr_sequence.specs.Places.{steps, number_at}
use Rattle.sr_sequence.specs.declared.Distance.{Distance}
use Rattle.sr_sequence.specs.declared.Distance.TheVariants.{Behind, Ahead}
use Rattle.sr_dup_window.specs.Families.{greater}
use Rattle.sr_audit.specs.declared.arrival.Arrival.{Arrival}
use Rattle.sr_audit.specs.declared.extent.Extent.{Extent}
use Rattle.sr_audit.specs.declared.extent.Tops.{Tops}
use Rattle.sr_audit.specs.declared.look.Look.{Look}
use Rattle.sr_audit.specs.declared.side.Side.{Side}
use Rattle.sr_audit.specs.declared.side.Side.TheVariants.{A, B}
use Rattle.sr_audit.specs.Limits.{kept_numbers, epoch_gap, exact_arrivals}
use Rattle.sr_audit.specs.Lanes.{other_side}
use Rattle.sr_audit.specs.Counting.{came_before_at}
use Rattle.sr_audit.specs.Shown.{bounded_sum}
use Rattle.sr_audit.specs.Stretches.{
  Placed,
  copy_as,
  same_side,
  came,
  top_number,
  is_far,
  lies_from,
  goes_to,
  goes_on,
  gone_on,
  stretch_begun,
  with_arrival,
  stretches,
}
use Rattle.sr_audit.specs.Looks.{step_to, came_by, by_neither, look_at}
use Rattle.sr_audit.specs.Extents.{lesser, bottom_number, size_of, length_of, has_greater, order, is_jump, is_restart, arrivals_with}
use Rattle.sr_audit.specs.Reaching.{
  sunk,
  lifted,
  is_under,
  tops_begun,
  tops_sunk,
  tops_lifted,
  top_at,
  extent_begun,
  extent_ahead,
  extent_behind,
  extent_restarted,
  extent_jumped,
  extent_by,
  extent_with,
  KeepsTop,
  KeepsReach,
  KeepsExtent,
}
use Rattle.sr_audit.proofs.FollowLemmas.{length-stretches}

-- the greatest of 64 bits
abbrev most : ℕ
most = 18446744073709551615

-- the length of a stretch whose least number lies so far below its greatest
back : (t : ℤ) (d : ℕ) → t -ℤ (t -ℤ pos d) ≡ pos d
back t d = omega (arith, ints)

pub length_is : (y : Placed) (s : List Placed) (d : ℕ) → bottom_number (y ∷ s) ≡ top_number (y ∷ s) -ℤ pos d → length_of (y ∷ s) ≡ d + 1
length_is y s d e =
    ap (λ b. size_of (top_number (y ∷ s) -ℤ b) + 1) e ∙ ap (λ z. size_of z + 1) (back (top_number (y ∷ s)) d)

-- a number further ahead, or behind, is the greatest, or is not
pub greater_ahead : (t m : ℤ) (k : ℕ) → m ≡ t +ℤ pos k → greater t m ≡ m
greater_ahead t m k e = grind (arith, ints)

pub greater_behind : (t m : ℤ) (k : ℕ) → m ≡ t -ℤ pos k → greater t m ≡ t
greater_behind t m k e = grind (arith, ints)

pub lesser_ahead : (t b m : ℤ) (d k : ℕ) → b ≡ t -ℤ pos d → m ≡ t +ℤ pos k → lesser b m ≡ b
lesser_ahead t b m d k e f = grind (arith, ints)

pub lesser_down : (t b m : ℤ) (d k : ℕ) → b ≡ t -ℤ pos d → m ≡ t -ℤ pos k → d ≤ k → lesser b m ≡ m
lesser_down t b m d k e f le = grind (arith, ints)

pub lesser_up : (t b m : ℤ) (d k : ℕ) → b ≡ t -ℤ pos d → m ≡ t -ℤ pos k → k < d → lesser b m ≡ b
lesser_up t b m d k e f lt = grind (arith, ints)

-- tests of two bounds
lt_false : (n a b : ℤ) → b ≤ℤ a → int_lt n a ≡ false → int_lt n b ≡ false
lt_false n a b le not_a = grind (arith, ints)

lt_true : (n a b : ℤ) → a ≤ℤ b → int_lt n a ≡ true → int_lt n b ≡ true
lt_true n a b le is_a = grind (arith, ints)

or_lower : (n a b : ℤ) → b ≤ℤ a → (int_lt n a || int_lt n b) ≡ int_lt n a
or_lower n a b le =
    elim (cases_Bool (int_lt n a)) [
      | inl is_a ↦ rw is_a refl
      | inr not_a ↦ rw not_a (lt_false n a b le not_a)
    ]

or_higher : (n a b : ℤ) → a ≤ℤ b → (int_lt n a || int_lt n b) ≡ int_lt n b
or_higher n a b le =
    elim (cases_Bool (int_lt n a)) [
      | inl is_a ↦ rw is_a (sym (lt_true n a b le is_a))
      | inr not_a ↦ rw not_a refl
    ]

or_false : (b : Bool) → (b || false) ≡ b
or_false true = refl
or_false false = refl

-- a greater number at a side, with one copy more there or at the other
abbrev at : Side → ℤ → ℕ → Placed
at side m u = record { side = side; number = m; time = u }

passed_own : (side : Side) (n m : ℤ) (u : ℕ) (s : List Placed) → has_greater side n (at side m u ∷ s) ≡ (int_lt n m || has_greater side n s)
passed_own A n m u s = refl
passed_own B n m u s = refl

passed_other : (side : Side) (n m : ℤ) (u : ℕ) (s : List Placed) → has_greater side n (at (other_side side) m u ∷ s) ≡ has_greater side n s
passed_other A n m u s = refl
passed_other B n m u s = refl

-- sums below the greatest of 64 bits
whole_sum : (n m : ℕ) → n + m ≤ most → bounded_sum n m ≡ n + m
whole_sum n m few = omega (arith, few)

-- the greatest number of a side in a stretch that begins
same_number : (m : ℤ) → m ≡ m -ℤ pos 0
same_number m = omega (arith, ints)

top_begun : (side own : Side) (m : ℤ) (u : ℕ) → KeepsTop side (at own m u ∷ []) 0 (top_at side (tops_begun own))
top_begun A A m u = (omega arith, λ n. or_false (int_lt n m) ∙ ap (int_lt n) (same_number m))
top_begun A B m u = λ n. refl
top_begun B A m u = λ n. refl
top_begun B B m u = (omega arith, λ n. or_false (int_lt n m) ∙ ap (int_lt n) (same_number m))

-- with a copy ahead of the greatest number
module_ahead : (t m : ℤ) (j k : ℕ) → m ≡ t +ℤ pos k → t -ℤ pos j ≡ m -ℤ pos (j + k)
module_ahead t m j k e = omega (arith, ints, e)

below_ahead : (t m : ℤ) (j k : ℕ) → m ≡ t +ℤ pos k → (t -ℤ pos j) ≤ℤ m
below_ahead t m j k e = omega (arith, ints, e)

ahead_own : (side : Side) (m : ℤ) (u : ℕ) (z : Placed) (before : List Placed) (d k : ℕ) (o : Option ℕ) → m ≡ top_number (z ∷ before) +ℤ pos k →
    KeepsTop side (z ∷ before) d o → KeepsTop side (at side m u ∷ z ∷ before) (bounded_sum d k) (lifted 0 (sunk k o))
ahead_own side m u z before d k None e keeps = (
  omega arith,
  λ n. passed_own side n m u (z ∷ before) ∙ ap (λ b. int_lt n m || b) (keeps n) ∙ or_false (int_lt n m)
      ∙ ap (int_lt n) (same_number m ∙ ap (λ g. g -ℤ pos 0) (sym (greater_ahead (top_number (z ∷ before)) m k e))),
)
ahead_own side m u z before d k (Some j) e keeps = (
  omega arith,
  λ n. passed_own side n m u (z ∷ before) ∙ ap (λ b. int_lt n m || b) (keeps.1 n)
      ∙ or_lower n m (top_number (z ∷ before) -ℤ pos j) (below_ahead (top_number (z ∷ before)) m j k e)
      ∙ ap (int_lt n) (same_number m ∙ ap (λ g. g -ℤ pos 0) (sym (greater_ahead (top_number (z ∷ before)) m k e))
      ∙ ap (λ i. greater (top_number (z ∷ before)) m -ℤ pos i) (none_below (bounded_sum j k))),
)
  where
    none_below : (i : ℕ) → 0 ≡ min i 0
    none_below i = omega arith

ahead_other : (side : Side) (m : ℤ) (u : ℕ) (z : Placed) (before : List Placed) (d k : ℕ) (o : Option ℕ) → m ≡ top_number (z ∷ before) +ℤ pos k →
    d + k ≤ most → KeepsTop side (z ∷ before) d o → KeepsTop side (at (other_side side) m u ∷ z ∷ before) (bounded_sum d k) (sunk k o)
ahead_other side m u z before d k None e few keeps = λ n. passed_other side n m u (z ∷ before) ∙ keeps n
ahead_other side m u z before d k (Some j) e few keeps =
    let sums : bounded_sum j k ≡ j + k = omega (arith, few, keeps.0) in (
      omega (arith, keeps.0),
      λ n. passed_other side n m u (z ∷ before) ∙ keeps.1 n
          ∙ ap (int_lt n) (module_ahead (top_number (z ∷ before)) m j k e ∙ ap (λ g. g -ℤ pos (j + k)) (sym (greater_ahead (top_number (z ∷ before)) m k e))
          ∙ ap (λ i. greater (top_number (z ∷ before)) m -ℤ pos i) (sym sums)),
    )

top_ahead : (side own : Side) (m : ℤ) (u : ℕ) (z : Placed) (before : List Placed) (d k : ℕ) (tops : Tops) → m ≡ top_number (z ∷ before) +ℤ pos k →
    d + k ≤ most → KeepsTop side (z ∷ before) d (top_at side tops) →
    KeepsTop side (at own m u ∷ z ∷ before) (bounded_sum d k) (top_at side (tops_lifted own 0 (tops_sunk k tops)))
top_ahead A A m u z before d k tops e few keeps = ahead_own A m u z before d k tops.a e keeps
top_ahead A B m u z before d k tops e few keeps = ahead_other A m u z before d k tops.a e few keeps
top_ahead B A m u z before d k tops e few keeps = ahead_other B m u z before d k tops.b e few keeps
top_ahead B B m u z before d k tops e few keeps = ahead_own B m u z before d k tops.b e keeps

-- no number passes one that lies ahead
not_under : (t m : ℤ) (j k : ℕ) → m ≡ t +ℤ pos k → int_lt m (t -ℤ pos j) ≡ false
not_under t m j k e = grind (arith, ints)

none_over : (side : Side) (m : ℤ) (s : List Placed) (d k : ℕ) (o : Option ℕ) → m ≡ top_number s +ℤ pos k → KeepsTop side s d o →
    has_greater side m s ≡ false
none_over side m s d k None e keeps = keeps m
none_over side m s d k (Some j) e keeps = keeps.1 m ∙ not_under (top_number s) m j k e

-- with a copy that is the greatest number or lies behind it
level : (t m : ℤ) (k : ℕ) → m ≡ t -ℤ pos k → m ≡ greater t m -ℤ pos k
level t m k e = e ∙ ap (λ g. g -ℤ pos k) (sym (greater_behind t m k e))

behind_lower : (t m : ℤ) (j k : ℕ) → m ≡ t -ℤ pos k → j ≤ k → m ≤ℤ (t -ℤ pos j)
behind_lower t m j k e le = omega (arith, ints, e, le)

behind_higher : (t m : ℤ) (j k : ℕ) → m ≡ t -ℤ pos k → k < j → (t -ℤ pos j) ≤ℤ m
behind_higher t m j k e lt = omega (arith, ints, e, lt)

behind_own : (side : Side) (m : ℤ) (u : ℕ) (z : Placed) (before : List Placed) (d k : ℕ) (o : Option ℕ) → m ≡ top_number (z ∷ before) -ℤ pos k →
    KeepsTop side (z ∷ before) d o → KeepsTop side (at side m u ∷ z ∷ before) (max d k) (lifted k o)
behind_own side m u z before d k None e keeps = (
  omega arith,
  λ n. passed_own side n m u (z ∷ before) ∙ ap (λ b. int_lt n m || b) (keeps n) ∙ or_false (int_lt n m)
      ∙ ap (int_lt n) (level (top_number (z ∷ before)) m k e),
)
behind_own side m u z before d k (Some j) e keeps = (omega (arith, keeps.0), λ n. by n (cases_lt k j))
  where
    t : ℤ
    t = top_number (z ∷ before)

    by : (n : ℤ) → (k < j) ⊎ (j ≤ k) → has_greater side n (at side m u ∷ z ∷ before) ≡ int_lt n (greater t m -ℤ pos (min j k))
    by n (inl lt) =
        let least : k ≡ min j k = omega (arith, lt) in
        passed_own side n m u (z ∷ before) ∙ ap (λ b. int_lt n m || b) (keeps.1 n) ∙ or_lower n m (t -ℤ pos j) (behind_higher t m j k e lt)
        ∙ ap (int_lt n) (level t m k e ∙ ap (λ i. greater t m -ℤ pos i) least)
    by n (inr le) =
        let least : j ≡ min j k = omega (arith, le) in
        passed_own side n m u (z ∷ before) ∙ ap (λ b. int_lt n m || b) (keeps.1 n) ∙ or_higher n m (t -ℤ pos j) (behind_lower t m j k e le)
        ∙ ap (int_lt n) (ap (λ g. g -ℤ pos j) (sym (greater_behind t m k e)) ∙ ap (λ i. greater t m -ℤ pos i) least)

behind_other : (side : Side) (m : ℤ) (u : ℕ) (z : Placed) (before : List Placed) (d k : ℕ) (o : Option ℕ) → m ≡ top_number (z ∷ before) -ℤ pos k →
    KeepsTop side (z ∷ before) d o → KeepsTop side (at (other_side side) m u ∷ z ∷ before) (max d k) o
behind_other side m u z before d k None e keeps = λ n. passed_other side n m u (z ∷ before) ∙ keeps n
behind_other side m u z before d k (Some j) e keeps = (
  omega (arith, keeps.0),
  λ n. passed_other side n m u (z ∷ before) ∙ keeps.1 n
      ∙ ap (int_lt n) (ap (λ g. g -ℤ pos j) (sym (greater_behind (top_number (z ∷ before)) m k e))),
)

top_behind : (side own : Side) (m : ℤ) (u : ℕ) (z : Placed) (before : List Placed) (d k : ℕ) (tops : Tops) → m ≡ top_number (z ∷ before) -ℤ pos k →
    KeepsTop side (z ∷ before) d (top_at side tops) →
    KeepsTop side (at own m u ∷ z ∷ before) (max d k) (top_at side (tops_lifted own k tops))
top_behind A A m u z before d k tops e keeps = behind_own A m u z before d k tops.a e keeps
top_behind A B m u z before d k tops e keeps = behind_other A m u z before d k tops.a e keeps
top_behind B A m u z before d k tops e keeps = behind_other B m u z before d k tops.b e keeps
top_behind B B m u z before d k tops e keeps = behind_own B m u z before d k tops.b e keeps

-- a number is passed where the greatest of the side lies less far below
under_is : (t m : ℤ) (j k : ℕ) → m ≡ t -ℤ pos k → int_lt m (t -ℤ pos j) ≡ nat_lt j k
under_is t m j k e = by (cases_lt j k)
  where
    yes : j < k → int_lt m (t -ℤ pos j) ≡ true
    yes lt = grind (arith, ints)

    no : k ≤ j → int_lt m (t -ℤ pos j) ≡ false
    no le = grind (arith, ints)

    by : (j < k) ⊎ (k ≤ j) → int_lt m (t -ℤ pos j) ≡ nat_lt j k
    by (inl lt) = yes lt ∙ sym (lt-ltb j k lt)
    by (inr le) = no le ∙ sym (le-ltb j k le)

passed_is : (side : Side) (m : ℤ) (s : List Placed) (d k : ℕ) (o : Option ℕ) → m ≡ top_number s -ℤ pos k → KeepsTop side s d o →
    has_greater side m s ≡ is_under k o
passed_is side m s d k None e keeps = keeps m
passed_is side m s d k (Some j) e keeps = keeps.1 m ∙ under_is (top_number s) m j k e

-- figures of order do not pass the number of copies
order_le : (side : Side) (s : List Placed) → order side s ≤ length s
order_le side [] = omega arith
order_le side (y ∷ s) = by (same_side side y.side && (not (came side y.number s) && has_greater side y.number s)) (order_le side s)
  where
    by : (b : Bool) → order side s ≤ length s → cond b 1 0 + order side s ≤ length (y ∷ s)
    by true le = omega (arith, le)
    by false le = omega (arith, le)

sum_order_le : (side : Side) (ss : List (List Placed)) → sum_by (order side) ss ≤ sum_by length ss
sum_order_le side [] = omega arith
sum_order_le side (s ∷ ss) =
    omega (arith, sum_by-cons (order side) s ss, sum_by-cons length s ss, order_le side s, sum_order_le side ss)

-- lengths and copies with one copy more
grown : (kept sum_old len_old rest len_new sum_new d d' more : ℕ) → kept ≡ sum_old → sum_old ≡ len_old + rest → len_old ≡ d + 1 →
    len_new ≡ d' + 1 → d' ≡ d + more → sum_new ≡ len_new + rest → sum_old + more ≤ most → bounded_sum kept more ≡ sum_new
grown kept sum_old len_old rest len_new sum_new d d' more a b c e f g few = omega (arith, a, b, c, e, f, g, few)

few_more : (sum_old len_old rest len_new sum_new d d' more copies_old copies one_longer copies_rest copies_new : ℕ) → sum_old ≡ len_old + rest → len_old ≡ d + 1 →
    len_new ≡ d' + 1 → d' ≡ d + more → sum_new ≡ len_new + rest → more ≤ 1024 → sum_old ≤ 1024 * copies_old → copies_old ≡ copies + copies_rest →
    copies_new ≡ one_longer + copies_rest → one_longer ≡ 1 + copies → sum_new ≤ 1024 * copies_new
few_more sum_old len_old rest len_new sum_new d d' more copies_old copies one_longer copies_rest copies_new a b c e f g h i j l =
    omega (arith, a, b, c, e, f, g, h, i, j, l)

-- no copy comes late, where its number lies ahead
not_late : (own came passed : Bool) → passed ≡ false → cond {A = ℕ} (own && (not came && passed)) 1 0 ≡ 0
not_late true true passed e = refl
not_late true false passed e = ap (λ b. cond {A = ℕ} b 1 0) e
not_late false c passed e = refl

order_kept : (side : Side) (y : Placed) (s : List Placed) (rest : List (List Placed)) → has_greater side y.number s ≡ false →
    sum_by (order side) (s ∷ rest) ≡ sum_by (order side) ((y ∷ s) ∷ rest)
order_kept side y s rest never = omega (
  arith,
  sum_by-cons (order side) s rest,
  sum_by-cons (order side) (y ∷ s) rest,
  not_late (same_side side y.side) (came side y.number s) (has_greater side y.number s) never,
)

pub reach_ahead : (z : Placed) (before : List Placed) (rest : List (List Placed)) (x : Arrival) (m : ℤ) (k : ℕ) (e : Extent) →
    m ≡ top_number (z ∷ before) +ℤ pos k → k ≤ 1024 → 1024 * (1 + sum_by length ((z ∷ before) ∷ rest)) ≤ most →
    KeepsReach ((z ∷ before) ∷ rest) e → KeepsReach ((copy_as x m ∷ z ∷ before) ∷ rest) (extent_ahead x.side k e)
reach_ahead z before rest x m k e is small few keeps =
    let s = z ∷ before in
    let c = copy_as x m in
    let t = top_number s in
    let len_old : length_of s ≡ e.depth + 1 = length_is z before e.depth keeps.depth in
    let old : sum_by length_of (s ∷ rest) ≡ length_of s + sum_by length_of rest = sum_by-cons length_of s rest in
    let new : sum_by length_of ((c ∷ s) ∷ rest) ≡ length_of (c ∷ s) + sum_by length_of rest = sum_by-cons length_of (c ∷ s) rest in
    let copies_old : sum_by length (s ∷ rest) ≡ length s + sum_by length rest = sum_by-cons length s rest in
    let copies_new : sum_by length ((c ∷ s) ∷ rest) ≡ length (c ∷ s) + sum_by length rest = sum_by-cons length (c ∷ s) rest in
    let fits : sum_by length_of (s ∷ rest) + k ≤ most = omega (arith, keeps.few, few, small) in
    let deep : e.depth + k ≤ most = shallow e.depth (length_of s) (sum_by length_of (s ∷ rest)) (sum_by length_of rest) k len_old old fits in
    let depth_is : bounded_sum e.depth k ≡ e.depth + k = whole_sum e.depth k deep in
    let depth : bottom_number (c ∷ s) ≡ top_number (c ∷ s) -ℤ pos (bounded_sum e.depth k) =
    lesser_ahead t (bottom_number s) m e.depth k keeps.depth is ∙ keeps.depth ∙ module_ahead t m e.depth k is
    ∙ ap (λ g. g -ℤ pos (e.depth + k)) (sym (greater_ahead t m k is)) ∙ ap (λ i. greater t m -ℤ pos i) (sym depth_is) in
    let len_new : length_of (c ∷ s) ≡ bounded_sum e.depth k + 1 = length_is c s (bounded_sum e.depth k) depth in
    record {
      depth = depth;
      top_a = top_ahead A x.side m x.time z before e.depth k e.tops is deep keeps.top_a;
      top_b = top_ahead B x.side m x.time z before e.depth k e.tops is deep keeps.top_b;
      lengths = grown e.lengths _ _ _ _ _ e.depth (bounded_sum e.depth k) k keeps.lengths old len_old len_new depth_is new fits;
      few = few_more _ _ _ _ _ e.depth (bounded_sum e.depth k) k _ (length s) (length (c ∷ s)) (sum_by length rest) _ old len_old len_new depth_is new small
          keeps.few copies_old copies_new (omega arith);
      order_a = keeps.order_a ∙ order_kept A c s rest (none_over A m s e.depth k e.tops.a is keeps.top_a);
      order_b = keeps.order_b ∙ order_kept B c s rest (none_over B m s e.depth k e.tops.b is keeps.top_b);
    }
  where
    shallow : (d len sum rest k : ℕ) → len ≡ d + 1 → sum ≡ len + rest → sum + k ≤ most → d + k ≤ most
    shallow d len sum rest k a b few = omega (arith, a, b, few)

-- one copy more at a side, that comes late there or does not
order_more : (side own : Side) (m : ℤ) (u : ℕ) (s : List Placed) (rest : List (List Placed)) (kept : ℕ) (late : Bool) →
    kept ≡ sum_by (order side) (s ∷ rest) → sum_by (order side) (s ∷ rest) + 1 ≤ most →
    (not (came side m s) && has_greater side m s) ≡ late →
    bounded_sum kept (cond (same_side side own && late) 1 0) ≡ sum_by (order side) ((at own m u ∷ s) ∷ rest)
order_more side own m u s rest kept late is few same =
    by (same_side side own) late (sum_by-cons (order side) s rest)
    (sum_by-cons (order side) (at own m u ∷ s) rest ∙ ap (λ b. cond (same_side side own && b) 1 0 + order side s + sum_by (order side) rest) same)
  where
    by : (b l : Bool) → sum_by (order side) (s ∷ rest) ≡ order side s + sum_by (order side) rest →
        sum_by (order side) ((at own m u ∷ s) ∷ rest) ≡ cond (b && l) 1 0 + order side s + sum_by (order side) rest →
        bounded_sum kept (cond (b && l) 1 0) ≡ sum_by (order side) ((at own m u ∷ s) ∷ rest)
    by true true old new = omega (arith, is, few, old, new)
    by true false old new = omega (arith, is, few, old, new)
    by false l old new = omega (arith, is, few, old, new)

-- at the side where the copy came, the test by the sides of which copies came before
order_here : (side own : Side) (m : ℤ) (u : ℕ) (s : List Placed) (rest : List (List Placed)) (kept d k : ℕ) (tops : Tops) →
    m ≡ top_number s -ℤ pos k → kept ≡ sum_by (order side) (s ∷ rest) → sum_by (order side) (s ∷ rest) + 1 ≤ most →
    KeepsTop side s d (top_at side tops) →
    bounded_sum kept (cond (same_side side own && (not (came_before_at (came_by s m) own) && is_under k (top_at own tops))) 1 0)
    ≡ sum_by (order side) ((at own m u ∷ s) ∷ rest)
order_here A A m u s rest kept d k tops e is few keeps =
    order_more A A m u s rest kept _ is few (ap (λ b. not (came A m s) && b) (passed_is A m s d k tops.a e keeps))
order_here A B m u s rest kept d k tops e is few keeps = order_more A B m u s rest kept _ is few refl
order_here B A m u s rest kept d k tops e is few keeps = order_more B A m u s rest kept _ is few refl
order_here B B m u s rest kept d k tops e is few keeps =
    order_more B B m u s rest kept _ is few (ap (λ b. not (came B m s) && b) (passed_is B m s d k tops.b e keeps))

pub reach_behind : (z : Placed) (before : List Placed) (rest : List (List Placed)) (x : Arrival) (m : ℤ) (k : ℕ) (e : Extent) →
    m ≡ top_number (z ∷ before) -ℤ pos k → k ≤ 1024 → 1024 * (1 + sum_by length ((z ∷ before) ∷ rest)) ≤ most →
    KeepsReach ((z ∷ before) ∷ rest) e →
    KeepsReach ((copy_as x m ∷ z ∷ before) ∷ rest) (extent_behind x.side k (not (came_before_at (came_by (z ∷ before) m) x.side)) e)
reach_behind z before rest x m k e is small few keeps =
    let s = z ∷ before in
    let c = copy_as x m in
    let t = top_number s in
    let len_old : length_of s ≡ e.depth + 1 = length_is z before e.depth keeps.depth in
    let old : sum_by length_of (s ∷ rest) ≡ length_of s + sum_by length_of rest = sum_by-cons length_of s rest in
    let new : sum_by length_of ((c ∷ s) ∷ rest) ≡ length_of (c ∷ s) + sum_by length_of rest = sum_by-cons length_of (c ∷ s) rest in
    let copies_old : sum_by length (s ∷ rest) ≡ length s + sum_by length rest = sum_by-cons length s rest in
    let copies_new : sum_by length ((c ∷ s) ∷ rest) ≡ length (c ∷ s) + sum_by length rest = sum_by-cons length (c ∷ s) rest in
    let fits : sum_by length_of (s ∷ rest) + (k - e.depth) ≤ most = omega (arith, keeps.few, few, small) in
    let depth_is : max e.depth k ≡ e.depth + (k - e.depth) = omega arith in
    let little : k - e.depth ≤ 1024 = omega (arith, small) in
    let depth : bottom_number (c ∷ s) ≡ top_number (c ∷ s) -ℤ pos (max e.depth k) = deepest (cases_lt k e.depth) in
    let len_new : length_of (c ∷ s) ≡ max e.depth k + 1 = length_is c s (max e.depth k) depth in
    record {
      depth = depth;
      top_a = top_behind A x.side m x.time z before e.depth k e.tops is keeps.top_a;
      top_b = top_behind B x.side m x.time z before e.depth k e.tops is keeps.top_b;
      lengths = grown e.lengths _ _ _ _ _ e.depth (max e.depth k) (k - e.depth) keeps.lengths old len_old len_new depth_is new fits;
      few = few_more _ _ _ _ _ e.depth (max e.depth k) (k - e.depth) _ (length s) (length (c ∷ s)) (sum_by length rest) _ old len_old len_new depth_is new
          little keeps.few copies_old copies_new (omega arith);
      order_a = order_here A x.side m x.time s rest e.order.a e.depth k e.tops is keeps.order_a
          (room (sum_by (order A) (s ∷ rest)) (sum_by length (s ∷ rest)) (sum_order_le A (s ∷ rest)) few) keeps.top_a;
      order_b = order_here B x.side m x.time s rest e.order.b e.depth k e.tops is keeps.order_b
          (room (sum_by (order B) (s ∷ rest)) (sum_by length (s ∷ rest)) (sum_order_le B (s ∷ rest)) few) keeps.top_b;
    }
  where
    deepest : (k < e.depth) ⊎ (e.depth ≤ k) →
        bottom_number (copy_as x m ∷ z ∷ before) ≡ top_number (copy_as x m ∷ z ∷ before) -ℤ pos (max e.depth k)
    deepest (inl lt) =
        let deep : e.depth ≡ max e.depth k = omega (arith, lt) in
        lesser_up (top_number (z ∷ before)) (bottom_number (z ∷ before)) m e.depth k keeps.depth is lt ∙ keeps.depth
        ∙ ap (λ g. g -ℤ pos e.depth) (sym (greater_behind (top_number (z ∷ before)) m k is))
        ∙ ap (λ i. greater (top_number (z ∷ before)) m -ℤ pos i) deep
    deepest (inr le) =
        let deep : k ≡ max e.depth k = omega (arith, le) in
        lesser_down (top_number (z ∷ before)) (bottom_number (z ∷ before)) m e.depth k keeps.depth is le ∙ level (top_number (z ∷ before)) m k is
        ∙ ap (λ i. greater (top_number (z ∷ before)) m -ℤ pos i) deep

    room : (o copies : ℕ) → o ≤ copies → 1024 * (1 + copies) ≤ most → o + 1 ≤ most
    room o copies le few = omega (arith, le, few)

-- with an arrival that begins a stretch
one_copy : (side own : Side) (m : ℤ) (u : ℕ) → order side (at own m u ∷ []) ≡ 0
one_copy side own m u = ap (λ n. n + 0) (not_late (same_side side own) false false refl)

pub reach_begun : (ss : List (List Placed)) (x : Arrival) (e : Extent) → 1024 * (1 + sum_by length ss) ≤ most → KeepsReach ss e →
    KeepsReach (stretch_begun x ∷ ss) (extent_begun x.side e)
reach_begun ss x e few keeps =
    let m : ℤ = pos x.seq.0 in
    let len : length_of (stretch_begun x) ≡ 0 + 1 = length_is (copy_as x m) [] 0 (same_number m) in
    let new : sum_by length_of (stretch_begun x ∷ ss) ≡ length_of (stretch_begun x) + sum_by length_of ss = sum_by-cons length_of (stretch_begun x) ss in
    let copies : sum_by length (stretch_begun x ∷ ss) ≡ 1 + sum_by length ss = sum_by-cons length (stretch_begun x) ss in
    record {
      depth = same_number m;
      top_a = top_begun A x.side m x.time;
      top_b = top_begun B x.side m x.time;
      lengths = counted e.lengths (sum_by length_of ss) (length_of (stretch_begun x)) (sum_by length_of (stretch_begun x ∷ ss)) (sum_by length ss)
          keeps.lengths keeps.few few len new;
      few = bounded (sum_by length_of ss) (length_of (stretch_begun x)) (sum_by length_of (stretch_begun x ∷ ss)) (sum_by length ss)
          (sum_by length (stretch_begun x ∷ ss)) keeps.few len new copies;
      order_a = keeps.order_a ∙ none_more A;
      order_b = keeps.order_b ∙ none_more B;
    }
  where
    counted : (kept sum len new copies : ℕ) → kept ≡ sum → sum ≤ 1024 * copies → 1024 * (1 + copies) ≤ most → len ≡ 0 + 1 → new ≡ len + sum →
        bounded_sum kept 1 ≡ new
    counted kept sum len new copies a b c d f = omega (arith, a, b, c, d, f)

    bounded : (sum len new copies copies_new : ℕ) → sum ≤ 1024 * copies → len ≡ 0 + 1 → new ≡ len + sum → copies_new ≡ 1 + copies →
        new ≤ 1024 * copies_new
    bounded sum len new copies copies_new a b c d = omega (arith, a, b, c, d)

    none_more : (side : Side) → sum_by (order side) ss ≡ sum_by (order side) (stretch_begun x ∷ ss)
    none_more side = omega (arith, sum_by-cons (order side) (stretch_begun x) ss, one_copy side x.side (pos x.seq.0) x.time)

-- no stretch is empty
pub no_empty : (xs : List Arrival) (rest : List (List Placed)) → stretches xs ≡ [] ∷ rest → ⊥
no_empty [] rest e = cc
no_empty (x ∷ xs) rest e = by (stretches xs) e
  where
    by : (ss : List (List Placed)) → with_arrival ss x ≡ [] ∷ rest → ⊥
    by [] e = cc
    by (s ∷ ss) e =
        elim (cases_Bool (goes_on s x)) [
          | inl on ↦ let is : gone_on s x ∷ ss ≡ [] ∷ rest = rw on at e in cc
          | inr off ↦ let is : stretch_begun x ∷ s ∷ ss ≡ [] ∷ rest = rw off at e in cc
        ]

-- what is kept with an arrival
abbrev Goes : List (List Placed) → Arrival → Extent → Extent → Type 0
Goes ss x e e' = KeepsReach (with_arrival ss x) e' × (e'.jumps ≡ cond (is_jump ss x) 1 0 + e.jumps) × (e'.restarts ≡ cond (is_restart ss x) 1 0 + e.restarts)

same_kept : (n : ℕ) → n ≡ 0 + n
same_kept n = omega arith

one_more : (n : ℕ) → n + 1 ≤ most → bounded_sum n 1 ≡ 1 + n
one_more n few = omega (arith, few)

restarted : (ss : List (List Placed)) (side : Side) (e : Extent) → KeepsReach ss (extent_begun side e) → KeepsReach ss (extent_restarted side e)
restarted ss side e r = record {
  depth = r.depth;
  top_a = r.top_a;
  top_b = r.top_b;
  lengths = r.lengths;
  few = r.few;
  order_a = r.order_a;
  order_b = r.order_b;
}

jumped : (ss : List (List Placed)) (side : Side) (e : Extent) → KeepsReach ss (extent_begun side e) → KeepsReach ss (extent_jumped side e)
jumped ss side e r = record {
  depth = r.depth;
  top_a = r.top_a;
  top_b = r.top_b;
  lengths = r.lengths;
  few = r.few;
  order_a = r.order_a;
  order_b = r.order_b;
}

goes : (ss : List (List Placed)) (x : Arrival) (e : Extent) → ((rest : List (List Placed)) → ss ≡ [] ∷ rest → ⊥) →
    1024 * (1 + sum_by length ss) ≤ most → e.jumps + 1 ≤ most → e.restarts + 1 ≤ most → KeepsReach ss e →
    Goes ss x e (extent_with x.side (look_at ss x) e)
goes [] x e some few jumps restarts keeps = (reach_begun [] x e few keeps, same_kept e.jumps, same_kept e.restarts)
goes ([] ∷ rest) x e some few jumps restarts keeps = absurd (some rest refl)
goes ((z ∷ before) ∷ rest) x e some few jumps restarts keeps =
    place (cases_lt (steps x.seq.0 (wire t)) kept_numbers) (cases_lt (steps (wire t) x.seq.0) kept_numbers) (cases_Bool soon)
  where
    s : List Placed
    s = z ∷ before

    t : ℤ
    t = top_number s

    soon : Bool
    soon = nat_lt (x.time - z.time) epoch_gap

    begun : KeepsReach (stretch_begun x ∷ s ∷ rest) (extent_begun x.side e)
    begun = reach_begun (s ∷ rest) x e few keeps

    -- by the place of the number
    after : Distance → Extent
    after p = extent_by x.side (cond (goes_to soon p) (came_by s (number_at t p)) by_neither) (step_to soon p) e

    By : Distance → Type 0
    By p =
        KeepsReach (cond (goes_to soon p) ((copy_as x (number_at t p) ∷ s) ∷ rest) (stretch_begun x ∷ s ∷ rest)) (after p)
        × ((after p).jumps ≡ cond (soon && is_far p) 1 0 + e.jumps)
        × ((after p).restarts ≡ cond (not soon && not (goes_to soon p)) 1 0 + e.restarts)

    lies : (b : Bool) → nat_lt (steps x.seq.0 (wire t)) kept_numbers ≡ b →
        cond b (Behind (steps x.seq.0 (wire t))) (Ahead (steps (wire t) x.seq.0)) ≡ lies_from s x.seq.0
    lies b e = ap (λ c. cond c (Behind (steps x.seq.0 (wire t))) (Ahead (steps (wire t) x.seq.0))) (sym e)

    place : (steps x.seq.0 (wire t) < kept_numbers) ⊎ (kept_numbers ≤ steps x.seq.0 (wire t)) →
        (steps (wire t) x.seq.0 < kept_numbers) ⊎ (kept_numbers ≤ steps (wire t) x.seq.0) → (soon ≡ true) ⊎ (soon ≡ false) → By (lies_from s x.seq.0)
    place (inl less) any (inl near) =
        subst By (lies true (lt-ltb (steps x.seq.0 (wire t)) kept_numbers less))
        (rw near (
          reach_behind z before rest x (t -ℤ pos (steps x.seq.0 (wire t))) (steps x.seq.0 (wire t)) e refl (omega (arith, less)) few keeps,
          same_kept e.jumps,
          same_kept e.restarts,
        ))
    place (inl less) any (inr silent) =
        subst By (lies true (lt-ltb (steps x.seq.0 (wire t)) kept_numbers less))
        (rw silent (restarted (stretch_begun x ∷ s ∷ rest) x.side e begun, same_kept e.jumps, one_more e.restarts restarts))
    place (inr more) (inl close) (inl near) =
        subst By (lies false (le-ltb (steps x.seq.0 (wire t)) kept_numbers more))
        (rw (near, lt-leb kept_numbers (steps (wire t) x.seq.0) close) (
          reach_ahead z before rest x (t +ℤ pos (steps (wire t) x.seq.0)) (steps (wire t) x.seq.0) e refl (omega (arith, close)) few keeps,
          same_kept e.jumps,
          same_kept e.restarts,
        ))
    place (inr more) (inl close) (inr silent) =
        subst By (lies false (le-ltb (steps x.seq.0 (wire t)) kept_numbers more))
        (rw (silent, lt-leb kept_numbers (steps (wire t) x.seq.0) close) (
          reach_ahead z before rest x (t +ℤ pos (steps (wire t) x.seq.0)) (steps (wire t) x.seq.0) e refl (omega (arith, close)) few keeps,
          same_kept e.jumps,
          same_kept e.restarts,
        ))
    place (inr more) (inr far) (inl near) =
        subst By (lies false (le-ltb (steps x.seq.0 (wire t)) kept_numbers more))
        (rw (near, le-leb kept_numbers (steps (wire t) x.seq.0) far) (
          jumped (stretch_begun x ∷ s ∷ rest) x.side e begun,
          one_more e.jumps jumps,
          same_kept e.restarts,
        ))
    place (inr more) (inr far) (inr silent) =
        subst By (lies false (le-ltb (steps x.seq.0 (wire t)) kept_numbers more))
        (rw (silent, le-leb kept_numbers (steps (wire t) x.seq.0) far) (
          restarted (stretch_begun x ∷ s ∷ rest) x.side e begun,
          same_kept e.jumps,
          one_more e.restarts restarts,
        ))

-- no more arrivals pass a test than there are
arrivals_le : (test : List (List Placed) → Arrival → Bool) (xs : List Arrival) → arrivals_with test xs ≤ length xs
arrivals_le test [] = omega arith
arrivals_le test (x ∷ xs) = by (test (stretches xs) x) (arrivals_le test xs)
  where
    by : (b : Bool) → arrivals_with test xs ≤ length xs → cond b 1 0 + arrivals_with test xs ≤ length (x ∷ xs)
    by true le = omega (arith, le)
    by false le = omega (arith, le)

-- what is kept, with one arrival more
pub extent_follows : (xs : List Arrival) (x : Arrival) (k : Look) (e : Extent) → length xs + 1 ≤ exact_arrivals →
    k ≡ look_at (stretches xs) x → KeepsExtent xs e → KeepsExtent (x ∷ xs) (extent_with x.side k e)
extent_follows xs x k e few look keeps =
    let copies : sum_by length (stretches xs) ≡ length xs = length-stretches xs in
    let room : 1024 * (1 + sum_by length (stretches xs)) ≤ most = omega (arith, few, copies) in
    let jumps : e.jumps + 1 ≤ most = omega (arith, few, keeps.jumps, arrivals_le is_jump xs) in
    let restarts : e.restarts + 1 ≤ most = omega (arith, few, keeps.restarts, arrivals_le is_restart xs) in
    let went : Goes (stretches xs) x e (extent_with x.side (look_at (stretches xs) x) e) =
    goes (stretches xs) x e (no_empty xs) room jumps restarts keeps.reach in
    subst (λ l. KeepsExtent (x ∷ xs) (extent_with x.side l e)) (sym look) (record {
      reach = went.0;
      jumps = went.1 ∙ ap (λ n. cond (is_jump (stretches xs) x) 1 0 + n) keeps.jumps;
      restarts = went.2 ∙ ap (λ n. cond (is_restart (stretches xs) x) 1 0 + n) keeps.restarts;
    })

-- what is kept before an arrival came
pub none_reached : (e : Extent) → e.depth ≡ 0 → e.tops ≡ record { a = None; b = None } → e.lengths ≡ 0 → e.order ≡ record { a = 0; b = 0 } →
    e.jumps ≡ 0 → e.restarts ≡ 0 → KeepsExtent [] e
none_reached e depth tops lengths ordered jumps restarts =
    record {
      reach = record {
        depth = same_number (pos 0) ∙ ap (λ i. pos 0 -ℤ pos i) (sym depth);
        top_a = subst (λ ts. KeepsTop A [] e.depth ts.a) (sym tops) (λ n. refl);
        top_b = subst (λ ts. KeepsTop B [] e.depth ts.b) (sym tops) (λ n. refl);
        lengths = lengths;
        few = omega arith;
        order_a = ap (λ s. s.a) ordered;
        order_b = ap (λ s. s.b) ordered;
      };
      jumps = jumps;
      restarts = restarts;
    }
