-- The frames of a stretch fit into its length.
use Rattle.std.proofs.Common.{◌≡◌, ℕ, zero, suc, ◌+◌, ◌-◌, ◌*◌, ◌≤◌, Bool, true, false, cond, ◌||◌, ◌&&◌, List, [], ◌∷◌, length, ℤ, pos, negsuc, arith, refl, sym, ap, ◌∙◌, subst, inl, inr}
use Rattle.std.specs.Prelude.{count_by, sum_by, ◌+ℤ◌, ◌-ℤ◌, ◌<ℤ◌, ◌≤ℤ◌}
use Rattle.std.specs.Ordering.{int_eq}
use Rattle.std.proofs.lemmas.Bool.{cases_Bool}
use Rattle.std.proofs.lemmas.Bool.Decides.{Decides-int_eq}
use Rattle.std.proofs.lemmas.Int.{ints, by_lt_z}
use Rattle.std.proofs.lemmas.List.Sums.{sum_by-cons}
use Rattle.sr_audit.specs.declared.side.Side.{Side}
use Rattle.sr_audit.specs.declared.side.Side.TheVariants.{A, B}
use Rattle.sr_audit.specs.declared.tally.Tally.{Tally}
use Rattle.sr_audit.specs.Limits.{exact_arrivals}
use Rattle.sr_audit.specs.Shown.{frames_in}
use Rattle.sr_audit.specs.Stretches.{Placed, same_side, came, top_number}
use Rattle.sr_audit.specs.Tallies.{frames, frames_with, by_both, by_a_alone, by_b_alone, tally_of}
use Rattle.sr_audit.specs.Extents.{lesser, bottom_number, size_of, length_of, neither_of}
use Rattle.sr_audit.proofs.FrameLemmas.{count-cons, came-other, came-same, once}
use Rattle.sr_audit.proofs.EdgeLemmas.{some_below}

-- a number of which a copy came is not below the least
lesser_first : (m n : ℤ) → lesser m n ≤ℤ m
lesser_first m n = grind (arith, ints)

lesser_second : (m n : ℤ) → lesser m n ≤ℤ n
lesser_second m n = grind (arith, ints)

same_least : (m n : ℤ) → m ≡ n → n ≤ℤ m
same_least m n e = omega (arith, ints, e)

down_to : (k m n : ℤ) → k ≤ℤ m → m ≤ℤ n → k ≤ℤ n
down_to k m n g h = omega (arith, ints, g, h)

came_over : (side : Side) (s : List Placed) (n : ℤ) → came side n s ≡ true → bottom_number s ≤ℤ n
came_over side [] n is = let no_copy : false ≡ true = is in absurd cc
came_over side (y ∷ []) n is =
    elim (cases_Bool (int_eq n y.number)) [
      | inl same ↦ same_least n y.number ((Decides-int_eq n y.number).0 same)
      | inr other ↦ let no_copy : false ≡ true = sym (came-other side n y [] other) ∙ is in absurd cc
    ]
came_over side (y ∷ z ∷ before) n is =
    elim (cases_Bool (int_eq n y.number)) [
      | inl same ↦ down_to (lesser (bottom_number (z ∷ before)) y.number) y.number n (lesser_second (bottom_number (z ∷ before)) y.number)
          (same_least n y.number ((Decides-int_eq n y.number).0 same))
      | inr other ↦ down_to (lesser (bottom_number (z ∷ before)) y.number) (bottom_number (z ∷ before)) n
          (lesser_first (bottom_number (z ∷ before)) y.number) (came_over side (z ∷ before) n (sym (came-other side n y (z ∷ before) other) ∙ is))
    ]

pub some_over : (s : List Placed) (n : ℤ) → (came A n s || came B n s) ≡ true → bottom_number s ≤ℤ n
some_over s n some = by (came A n s) (came B n s) refl refl some
  where
    by : (a b : Bool) → came A n s ≡ a → came B n s ≡ b → (a || b) ≡ true → bottom_number s ≤ℤ n
    by true b is_a is_b or = came_over A s n is_a
    by false true is_a is_b or = came_over B s n is_b
    by false false is_a is_b or = let none : false ≡ true = or in absurd cc

-- one of so many numbers from a least one on
within : ℤ → ℕ → ℤ → Bool
within b zero n = false
within b (suc k) n = within b k n || int_eq n (b +ℤ pos k)

or_true : (b : Bool) → (b || true) ≡ true
or_true true = refl
or_true false = refl

last_one : (b n : ℤ) (k : ℕ) → (b +ℤ pos k) ≤ℤ n → n <ℤ (b +ℤ pos (suc k)) → n ≡ b +ℤ pos k
last_one b n k over under = omega (arith, ints, over, under)

nothing_left : (b n : ℤ) → b ≤ℤ n → n <ℤ (b +ℤ pos 0) → ⊥
nothing_left b n over under = omega (arith, ints, over, under)

within_is : (b n : ℤ) (k : ℕ) → b ≤ℤ n → n <ℤ (b +ℤ pos k) → within b k n ≡ true
unfolding within
within_is b n zero over under = absurd (nothing_left b n over under)
within_is b n (suc k) over under =
    by_lt_z n (b +ℤ pos k)
    (λ lower. ap (λ t. t || int_eq n (b +ℤ pos k)) (within_is b n k over lower))
    (λ higher. ap (λ t. within b k n || t) ((Decides-int_eq n (b +ℤ pos k)).1 (last_one b n k higher under)) ∙ or_true (within b k n))

-- frames of which each is one of so many numbers are no more
count_none : (ns : List ℤ) → count_by (λ (n : ℤ). false) ns ≡ 0
count_none [] = refl
count_none (n ∷ ns) = omega (arith, count-cons (λ (m : ℤ). false) n ns, count_none ns)

count_or : (p q : ℤ → Bool) (ns : List ℤ) → count_by (λ n. p n || q n) ns ≤ count_by p ns + count_by q ns
count_or p q [] = omega arith
count_or p q (n ∷ ns) =
    by (p n) (q n) (count-cons (λ m. p m || q m) n ns) (count-cons p n ns) (count-cons q n ns) (count_or p q ns)
  where
    by : (a b : Bool) → count_by (λ m. p m || q m) (n ∷ ns) ≡ cond (a || b) 1 0 + count_by (λ m. p m || q m) ns →
        count_by p (n ∷ ns) ≡ cond a 1 0 + count_by p ns → count_by q (n ∷ ns) ≡ cond b 1 0 + count_by q ns →
        count_by (λ m. p m || q m) ns ≤ count_by p ns + count_by q ns →
        count_by (λ m. p m || q m) (n ∷ ns) ≤ count_by p (n ∷ ns) + count_by q (n ∷ ns)
    by true true e f g h = omega (arith, e, f, g, h)
    by true false e f g h = omega (arith, e, f, g, h)
    by false true e f g h = omega (arith, e, f, g, h)
    by false false e f g h = omega (arith, e, f, g, h)

one_at_most : (b : Bool) → cond {A = ℕ} b 1 0 ≤ 1
one_at_most true = omega arith
one_at_most false = omega arith

count_one : (m : ℤ) (s : List Placed) → count_by (λ n. int_eq n m) (frames s) ≤ 1
count_one m s = subst (λ c. c ≤ 1) (sym (once m s)) (one_at_most (came A m s || came B m s))

count_within : (b : ℤ) (k : ℕ) (s : List Placed) → count_by (within b k) (frames s) ≤ k
unfolding within
count_within b zero s = subst (λ c. c ≤ 0) (sym (count_none (frames s))) (omega arith)
count_within b (suc k) s =
    both (count_by (λ n. within b k n || int_eq n (b +ℤ pos k)) (frames s)) (count_by (within b k) (frames s))
    (count_by (λ n. int_eq n (b +ℤ pos k)) (frames s)) k (count_or (within b k) (λ n. int_eq n (b +ℤ pos k)) (frames s)) (count_within b k s)
    (count_one (b +ℤ pos k) s)
  where
    both : (c p q k : ℕ) → c ≤ p + q → p ≤ k → q ≤ 1 → c ≤ suc k
    both c p q k e f g = omega (arith, e, f, g)

-- a copy that is there is there with one copy more
came_more : (side : Side) (n : ℤ) (y : Placed) (s : List Placed) → came side n s ≡ true → came side n (y ∷ s) ≡ true
came_more side n y s is = ap (λ b. (int_eq n y.number && same_side side y.side) || b) is ∙ or_true (int_eq n y.number && same_side side y.side)

some_more : (n : ℤ) (y : Placed) (s : List Placed) → (came A n s || came B n s) ≡ true → (came A n (y ∷ s) || came B n (y ∷ s)) ≡ true
some_more n y s some = by (came A n s) (came B n s) refl refl some
  where
    by : (a b : Bool) → came A n s ≡ a → came B n s ≡ b → (a || b) ≡ true → (came A n (y ∷ s) || came B n (y ∷ s)) ≡ true
    by true b is_a is_b or = ap (λ t. t || came B n (y ∷ s)) (came_more A n y s is_a)
    by false true is_a is_b or = ap (λ t. came A n (y ∷ s) || t) (came_more B n y s is_b) ∙ or_true (came A n (y ∷ s))
    by false false is_a is_b or = let none : false ≡ true = or in absurd cc

own_came : (y : Placed) (s : List Placed) → (came A y.number (y ∷ s) || came B y.number (y ∷ s)) ≡ true
own_came y s =
    let own : int_eq y.number y.number ≡ true = (Decides-int_eq y.number y.number).1 refl in
    rw (came-same A y.number y s own, came-same B y.number y s own) (by y.side (came A y.number s) (came B y.number s))
  where
    by : (side : Side) (a b : Bool) → ((same_side A side || a) || (same_side B side || b)) ≡ true
    by A a b = refl
    by B true b = refl
    by B false b = refl

-- a test that all frames of a stretch pass
all_counted : (p : ℤ → Bool) (s : List Placed) → ((n : ℤ) → (came A n s || came B n s) ≡ true → p n ≡ true) →
    count_by p (frames s) ≡ length (frames s)
all_counted p [] passes = refl
all_counted p (y ∷ s) passes =
    let rest : count_by p (frames s) ≡ length (frames s) = all_counted p s (λ n some. passes n (some_more n y s some)) in
    elim (cases_Bool (came A y.number s || came B y.number s)) [
      | inl known ↦ rw known rest
      | inr new ↦ rw new (count-cons p y.number (frames s) ∙ ap (λ b. cond b 1 0 + count_by p (frames s)) (passes y.number (own_came y s))
          ∙ added (count_by p (frames s)) (frames s) rest)
    ]
  where
    added : (c : ℕ) (ns : List ℤ) → c ≡ length ns → 1 + c ≡ length (y.number ∷ ns)
    added c ns e = omega (arith, e)

-- from the least number to the greatest
reaches : (d b t n : ℤ) → t -ℤ b ≡ d → b ≤ℤ n → n ≤ℤ t → n <ℤ (b +ℤ pos (size_of d + 1))
reaches (pos k) b t n e over under = omega (arith, ints, e, over, under)
reaches (negsuc k) b t n e over under = absurd (turned b t n k e over under)
  where
    turned : (b t n : ℤ) (k : ℕ) → t -ℤ b ≡ negsuc k → b ≤ℤ n → n ≤ℤ t → ⊥
    turned b t n k e over under = omega (arith, ints, e, over, under)

pub frames_fit : (s : List Placed) → length (frames s) ≤ length_of s
frames_fit [] = omega arith
frames_fit (y ∷ before) =
    let s = y ∷ before in
    let k = size_of (top_number s -ℤ bottom_number s) + 1 in
    let all : count_by (within (bottom_number s) k) (frames s) ≡ length (frames s) =
    all_counted (within (bottom_number s) k) s
    (λ n some. within_is (bottom_number s) n k (some_over s n some)
    (reaches (top_number s -ℤ bottom_number s) (bottom_number s) (top_number s) n refl (some_over s n some) (some_below s n some))) in
    subst (λ c. c ≤ k) all (count_within (bottom_number s) k s)

-- each frame came by both sides or by one alone
pub frames_split : (s : List Placed) → frames_with by_both s + frames_with by_a_alone s + frames_with by_b_alone s ≡ length (frames s)
frames_split s =
    three (λ n. came A n s) (λ n. came B n s) (frames s) ∙ all_counted (λ n. came A n s || came B n s) s (λ n some. some)
  where
    three : (a b : ℤ → Bool) (ns : List ℤ) →
        count_by (λ n. by_both (a n) (b n)) ns + count_by (λ n. by_a_alone (a n) (b n)) ns + count_by (λ n. by_b_alone (a n) (b n)) ns
        ≡ count_by (λ n. a n || b n) ns
    three a b [] = refl
    three a b (n ∷ ns) = by (a n) (b n) (count-cons (λ m. by_both (a m) (b m)) n ns) (count-cons (λ m. by_a_alone (a m) (b m)) n ns)
        (count-cons (λ m. by_b_alone (a m) (b m)) n ns) (count-cons (λ m. a m || b m) n ns) (three a b ns)
      where
        by : (t u : Bool) → count_by (λ m. by_both (a m) (b m)) (n ∷ ns) ≡ cond (by_both t u) 1 0 + count_by (λ m. by_both (a m) (b m)) ns →
            count_by (λ m. by_a_alone (a m) (b m)) (n ∷ ns) ≡ cond (by_a_alone t u) 1 0 + count_by (λ m. by_a_alone (a m) (b m)) ns →
            count_by (λ m. by_b_alone (a m) (b m)) (n ∷ ns) ≡ cond (by_b_alone t u) 1 0 + count_by (λ m. by_b_alone (a m) (b m)) ns →
            count_by (λ m. a m || b m) (n ∷ ns) ≡ cond (t || u) 1 0 + count_by (λ m. a m || b m) ns →
            count_by (λ m. by_both (a m) (b m)) ns + count_by (λ m. by_a_alone (a m) (b m)) ns + count_by (λ m. by_b_alone (a m) (b m)) ns
            ≡ count_by (λ m. a m || b m) ns →
            count_by (λ m. by_both (a m) (b m)) (n ∷ ns) + count_by (λ m. by_a_alone (a m) (b m)) (n ∷ ns)
            + count_by (λ m. by_b_alone (a m) (b m)) (n ∷ ns) ≡ count_by (λ m. a m || b m) (n ∷ ns)
        by true true e f g h i = omega (arith, e, f, g, h, i)
        by true false e f g h i = omega (arith, e, f, g, h, i)
        by false true e f g h i = omega (arith, e, f, g, h, i)
        by false false e f g h i = omega (arith, e, f, g, h, i)

-- the lengths of all stretches are their frames, and the numbers that no frame has
pub lengths-sum : (ss : List (List Placed)) →
    (tally_of ss).pairs + (tally_of ss).alone.a + (tally_of ss).alone.b + sum_by neither_of ss ≡ sum_by length_of ss
lengths-sum [] = refl
lengths-sum (s ∷ ss) = omega (
  arith,
  sum_by-cons (frames_with by_both) s ss,
  sum_by-cons (frames_with by_a_alone) s ss,
  sum_by-cons (frames_with by_b_alone) s ss,
  sum_by-cons neither_of s ss,
  sum_by-cons length_of s ss,
  frames_split s,
  frames_fit s,
  lengths-sum ss,
)

-- what is left of the lengths
pub neither_left : (ss : List (List Placed)) (t : Tally) (lengths copies : ℕ) → t ≡ tally_of ss → lengths ≡ sum_by length_of ss →
    sum_by length_of ss ≤ 1024 * copies → copies ≤ exact_arrivals → lengths - frames_in t ≡ sum_by neither_of ss
neither_left ss t lengths copies same is few exact =
    ap (λ u. lengths - frames_in u) same
    ∙ left (tally_of ss).pairs (tally_of ss).alone.a (tally_of ss).alone.b (sum_by neither_of ss) (sum_by length_of ss) lengths copies
    (lengths-sum ss) is few exact
  where
    left : (p a b n whole lengths copies : ℕ) → p + a + b + n ≡ whole → lengths ≡ whole → whole ≤ 1024 * copies → copies ≤ exact_arrivals →
        lengths - frames_in (record { rx = record { a = 0; b = 0 }; pairs = p; alone = record { a = a; b = b }; repeats = record { a = 0; b = 0 } }) ≡ n
    left p a b n whole lengths copies e f g h = omega (arith, e, f, g, h)
