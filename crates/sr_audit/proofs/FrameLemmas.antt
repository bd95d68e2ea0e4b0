-- How the counts of a stretch change with one copy more.
use Rattle.std.proofs.Common.{◌≡◌, ℕ, ◌+◌, Bool, true, false, cond, ◌||◌, List, [], ◌∷◌, ℤ, arith, refl, sym, ap, ◌∙◌, inl, inr}
use Rattle.std.specs.Prelude.{count_by}
use Rattle.std.specs.Ordering.{int_eq}
use Rattle.std.proofs.lemmas.Bool.{cases_Bool, false_from_ne_true}
use Rattle.std.proofs.lemmas.Bool.Decides.{Decides-int_eq}
use Rattle.std.proofs.lemmas.List.Sums.{sum_by-cons}
use Rattle.sr_audit.specs.declared.side.Side.{Side}
use Rattle.sr_audit.specs.declared.side.Side.TheVariants.{A, B}
use Rattle.sr_audit.specs.Stretches.{Placed, same_side, came}
use Rattle.sr_audit.specs.Edges.{first_time, frames_at}
use Rattle.sr_audit.specs.Tallies.{frames, frames_with}

pub count-cons : {X : Type 0} (p : X → Bool) (x : X) (xs : List X) → count_by p (x ∷ xs) ≡ cond (p x) 1 0 + count_by p xs
count-cons p x xs = sum_by-cons (λ y. cond (p y) 1 0) x xs

int_eq_swap : (m n : ℤ) → int_eq m n ≡ int_eq n m
int_eq_swap m n =
    elim (cases_Bool (int_eq m n)) [
      | inl same ↦ same ∙ sym ((Decides-int_eq n m).1 (sym ((Decides-int_eq m n).0 same)))
      | inr other ↦ other ∙ sym (false_from_ne_true (int_eq n m)
          (λ e. let same : int_eq m n ≡ true = (Decides-int_eq m n).1 (sym ((Decides-int_eq n m).0 e)) in
          let no : false ≡ true = sym other ∙ same in absurd cc))
    ]

-- where two tests differ at one number alone, and that is not in a list, they count alike
same_without : (p q : ℤ → Bool) (m : ℤ) → ((n : ℤ) → int_eq n m ≡ false → q n ≡ p n) → (ns : List ℤ) →
    count_by (λ n. int_eq n m) ns ≡ 0 → count_by q ns ≡ count_by p ns
same_without p q m same [] none = refl
same_without p q m same (n ∷ ns) none =
    let parts : cond (int_eq n m) 1 0 + count_by (λ k. int_eq k m) ns ≡ 0 = sym (count-cons (λ k. int_eq k m) n ns) ∙ none in
    elim (cases_Bool (int_eq n m)) [
      | inl is ↦ let no : 1 + count_by (λ k. int_eq k m) ns ≡ 0 = rw is at parts in absurd (omega (arith, no))
      | inr other ↦
          let rest : count_by (λ k. int_eq k m) ns ≡ 0 =
          let e : 0 + count_by (λ k. int_eq k m) ns ≡ 0 = rw other at parts in omega (arith, e) in
          count-cons q n ns ∙ ap (λ b. cond b 1 0 + count_by q ns) (same n other)
          ∙ ap (λ c. cond (p n) 1 0 + c) (same_without p q m same ns rest) ∙ sym (count-cons p n ns)
    ]

-- where it is there once, it makes the difference
changed_once : (p q : ℤ → Bool) (m : ℤ) → ((n : ℤ) → int_eq n m ≡ false → q n ≡ p n) → (ns : List ℤ) →
    count_by (λ n. int_eq n m) ns ≡ 1 → count_by q ns + cond (p m) 1 0 ≡ count_by p ns + cond (q m) 1 0
changed_once p q m same [] none = absurd (no 0 refl none)
  where
    no : (n : ℕ) → n ≡ 0 → n ≡ 1 → ⊥
    no n e f = omega (arith, e, f)
changed_once p q m same (n ∷ ns) once =
    let parts : cond (int_eq n m) 1 0 + count_by (λ k. int_eq k m) ns ≡ 1 = sym (count-cons (λ k. int_eq k m) n ns) ∙ once in
    let head_q : count_by q (n ∷ ns) ≡ cond (q n) 1 0 + count_by q ns = count-cons q n ns in
    let head_p : count_by p (n ∷ ns) ≡ cond (p n) 1 0 + count_by p ns = count-cons p n ns in
    elim (cases_Bool (int_eq n m)) [
      | inl is ↦
          let rest : count_by (λ k. int_eq k m) ns ≡ 0 = less (count_by (λ k. int_eq k m) ns) (rw is at parts) in
          let alike : count_by q ns ≡ count_by p ns = same_without p q m same ns rest in
          let one : n ≡ m = (Decides-int_eq n m).0 is in
          let at_q : cond {A = ℕ} (q n) 1 0 ≡ cond (q m) 1 0 = ap (λ k. cond {A = ℕ} (q k) 1 0) one in
          let at_p : cond {A = ℕ} (p n) 1 0 ≡ cond (p m) 1 0 = ap (λ k. cond {A = ℕ} (p k) 1 0) one in
          omega (arith, head_q, head_p, alike, at_q, at_p)
      | inr other ↦
          let rest : count_by (λ k. int_eq k m) ns ≡ 1 = kept (count_by (λ k. int_eq k m) ns) (rw other at parts) in
          let ih : count_by q ns + cond (p m) 1 0 ≡ count_by p ns + cond (q m) 1 0 = changed_once p q m same ns rest in
          let here : cond {A = ℕ} (q n) 1 0 ≡ cond (p n) 1 0 = ap (λ b. cond {A = ℕ} b 1 0) (same n other) in
          omega (arith, head_q, head_p, ih, here)
    ]
  where
    less : (n : ℕ) → 1 + n ≡ 1 → n ≡ 0
    less n e = omega (arith, e)

    kept : (n : ℕ) → 0 + n ≡ 1 → n ≡ 1
    kept n e = omega (arith, e)

-- a copy of another frame, or of this one
pub came-other : (side : Side) (m : ℤ) (y : Placed) (s : List Placed) → int_eq m y.number ≡ false →
    came side m (y ∷ s) ≡ came side m s
came-other side m y s other = rw other refl

pub came-same : (side : Side) (m : ℤ) (y : Placed) (s : List Placed) → int_eq m y.number ≡ true →
    came side m (y ∷ s) ≡ (same_side side y.side || came side m s)
came-same side m y s same = rw same refl

some_side : (side : Side) (a b : Bool) → ((same_side A side || a) || (same_side B side || b)) ≡ true
some_side A a b = refl
some_side B true b = refl
some_side B false b = refl

still_some : (t u a b : Bool) → (a || b) ≡ true → ((t || a) || (u || b)) ≡ true
still_some true u a b some = refl
still_some false u true b some = refl
still_some false true false b some = refl
still_some false false false b some = some

-- a frame that came is there once, and another is not there
pub once : (m : ℤ) (s : List Placed) → count_by (λ n. int_eq n m) (frames s) ≡ cond (came A m s || came B m s) 1 0
once m [] = refl
once m (y ∷ s) =
    let ih : count_by (λ n. int_eq n m) (frames s) ≡ cond (came A m s || came B m s) 1 0 = once m s in
    elim (cases_Bool (int_eq m y.number)) [
      | inl same ↦
          let one : m ≡ y.number = (Decides-int_eq m y.number).0 same in
          let after : (came A m (y ∷ s) || came B m (y ∷ s)) ≡ true =
          rw (came-same A m y s same, came-same B m y s same) (some_side y.side (came A m s) (came B m s)) in
          elim (cases_Bool (came A y.number s || came B y.number s)) [
            | inl known ↦
                let before : (came A m s || came B m s) ≡ true = ap (λ k. came A k s || came B k s) one ∙ known in
                rw (after, known) (ih ∙ ap (λ b. cond b 1 0) before)
            | inr new ↦
                let before : (came A m s || came B m s) ≡ false = ap (λ k. came A k s || came B k s) one ∙ new in
                let here : int_eq y.number m ≡ true = int_eq_swap y.number m ∙ same in
                rw (after, new) (count-cons (λ n. int_eq n m) y.number (frames s)
                ∙ ap (λ b. cond b 1 0 + count_by (λ n. int_eq n m) (frames s)) here
                ∙ ap (λ c. 1 + c) (ih ∙ ap (λ b. cond b 1 0) before))
          ]
      | inr other ↦
          let after : (came A m (y ∷ s) || came B m (y ∷ s)) ≡ (came A m s || came B m s) =
          rw (came-other A m y s other, came-other B m y s other) refl in
          elim (cases_Bool (came A y.number s || came B y.number s)) [
            | inl known ↦ rw (after, known) ih
            | inr new ↦
                let here : int_eq y.number m ≡ false = int_eq_swap y.number m ∙ other in
                let head : count_by (λ n. int_eq n m) (y.number ∷ frames s) ≡ 0 + count_by (λ n. int_eq n m) (frames s) =
                count-cons (λ n. int_eq n m) y.number (frames s)
                ∙ ap (λ b. cond b 1 0 + count_by (λ n. int_eq n m) (frames s)) here in
                rw (after, new) (omega (arith, head, ih))
          ]
    ]

-- when the first copy of another frame came, or of this one
pub first_other : (n : ℤ) (y : Placed) (s : List Placed) → int_eq n y.number ≡ false → first_time n (y ∷ s) ≡ first_time n s
first_other n y s other = rw other refl

-- what one copy more does to how many frames pass a test, also of when the first copy came
pub frames_at-more : (test : Bool → Bool → ℕ → Bool) (y : Placed) (s : List Placed) (t : ℕ) → first_time y.number (y ∷ s) ≡ t →
    frames_at test (y ∷ s)
    + cond (came A y.number s || came B y.number s) (cond (test (came A y.number s) (came B y.number s) (first_time y.number s)) 1 0) 0
    ≡ frames_at test s
    + cond (test (same_side A y.side || came A y.number s) (same_side B y.side || came B y.number s) t) 1 0
frames_at-more test y s t first =
    let m = y.number in
    let p : ℤ → Bool = λ n. test (came A n s) (came B n s) (first_time n s) in
    let q : ℤ → Bool = λ n. test (came A n (y ∷ s)) (came B n (y ∷ s)) (first_time n (y ∷ s)) in
    let same : (n : ℤ) → int_eq n m ≡ false → q n ≡ p n =
    λ n other. ap (λ b. test b (came B n (y ∷ s)) (first_time n (y ∷ s))) (came-other A n y s other)
    ∙ ap (λ b. test (came A n s) b (first_time n (y ∷ s))) (came-other B n y s other)
    ∙ ap (test (came A n s) (came B n s)) (first_other n y s other) in
    let own : int_eq m m ≡ true = (Decides-int_eq m m).1 refl in
    let here : q m ≡ test (same_side A y.side || came A m s) (same_side B y.side || came B m s) t =
    ap (λ b. test b (came B m (y ∷ s)) (first_time m (y ∷ s))) (came-same A m y s own)
    ∙ ap (λ b. test (same_side A y.side || came A m s) b (first_time m (y ∷ s))) (came-same B m y s own)
    ∙ ap (test (same_side A y.side || came A m s) (same_side B y.side || came B m s)) first in
    let here_one : cond (q m) 1 0 ≡ cond (test (same_side A y.side || came A m s) (same_side B y.side || came B m s) t) 1 0 =
    ap (λ b. cond b 1 0) here in
    elim (cases_Bool (came A m s || came B m s)) [
      | inl known ↦
          let times : count_by (λ n. int_eq n m) (frames s) ≡ 1 = once m s ∙ ap (λ b. cond b 1 0) known in
          rw known (changed_once p q m same (frames s) times ∙ ap (λ c. count_by p (frames s) + c) here_one)
      | inr new ↦
          let times : count_by (λ n. int_eq n m) (frames s) ≡ 0 = once m s ∙ ap (λ b. cond b 1 0) new in
          let alike : count_by q (frames s) ≡ count_by p (frames s) = same_without p q m same (frames s) times in
          let head : count_by q (m ∷ frames s) ≡ cond (q m) 1 0 + count_by q (frames s) = count-cons q m (frames s) in
          rw new (joined (count_by q (m ∷ frames s)) (cond (q m) 1 0) (count_by q (frames s)) (count_by p (frames s))
          (cond (test (same_side A y.side || came A m s) (same_side B y.side || came B m s) t) 1 0) head alike here_one)
    ]
  where
    joined : (c h t u k : ℕ) → c ≡ h + t → t ≡ u → h ≡ k → c + 0 ≡ u + k
    joined c h t u k e f g = omega arith

-- what one copy more does to how many frames pass a test
pub frames_with-more : (test : Bool → Bool → Bool) (y : Placed) (s : List Placed) →
    frames_with test (y ∷ s)
    + cond (came A y.number s || came B y.number s) (cond (test (came A y.number s) (came B y.number s)) 1 0) 0
    ≡ frames_with test s + cond (test (same_side A y.side || came A y.number s) (same_side B y.side || came B y.number s)) 1 0
frames_with-more test y s = frames_at-more (λ a b time. test a b) y s (first_time y.number (y ∷ s)) refl
