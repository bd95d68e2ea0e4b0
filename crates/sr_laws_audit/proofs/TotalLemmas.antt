-- Sums over numbers in a row.
use Rattle.std.proofs.Common.{◌≡◌, ℕ, zero, suc, ◌+◌, ◌<◌, true, false, ℤ, pos, arith, refl, sym, ap, ◌∙◌, inl, inr}
use Rattle.std.specs.Prelude.{◌+ℤ◌, ◌<ℤ◌, ◌≤ℤ◌}
use Rattle.std.specs.Ordering.{int_eq}
use Rattle.std.proofs.lemmas.Bool.{cases_Bool}
use Rattle.std.proofs.lemmas.Bool.Decides.{Decides-int_eq}
use Rattle.std.proofs.lemmas.Int.{ints, by_lt_z}

-- of so many numbers from a least one on
pub total : (ℤ → ℕ) → ℤ → ℕ → ℕ
total f b zero = 0
total f b (suc k) = f (b +ℤ pos k) + total f b k

pub total_zero : (f : ℤ → ℕ) (b : ℤ) → total f b 0 ≡ 0
unfolding total
total_zero f b = refl

pub total_suc : (f : ℤ → ℕ) (b : ℤ) (k : ℕ) → total f b (suc k) ≡ f (b +ℤ pos k) + total f b k
unfolding total
total_suc f b k = refl

-- sums of the same are the same, and of nothing nothing
pub total_same : (f g : ℤ → ℕ) (b : ℤ) (k : ℕ) → ((i : ℕ) → i < k → f (b +ℤ pos i) ≡ g (b +ℤ pos i)) → total f b k ≡ total g b k
total_same f g b zero same = total_zero f b ∙ sym (total_zero g b)
total_same f g b (suc k) same =
    total_suc f b k ∙ ap (λ v. v + total f b k) (same k (omega arith))
    ∙ ap (λ v. g (b +ℤ pos k) + v) (total_same f g b k (λ i lt. same i (omega (arith, lt)))) ∙ sym (total_suc g b k)

pub total_none : (f : ℤ → ℕ) (b : ℤ) (k : ℕ) → ((i : ℕ) → i < k → f (b +ℤ pos i) ≡ 0) → total f b k ≡ 0
total_none f b zero none = total_zero f b
total_none f b (suc k) none =
    total_suc f b k ∙ ap (λ v. v + total f b k) (none k (omega arith))
    ∙ ap (λ v. 0 + v) (total_none f b k (λ i lt. none i (omega (arith, lt))))

pub total_plus : (f g : ℤ → ℕ) (b : ℤ) (k : ℕ) → total (λ n. f n + g n) b k ≡ total f b k + total g b k
total_plus f g b zero = total_zero (λ n. f n + g n) b ∙ sym (ap (λ v. v + total g b 0) (total_zero f b) ∙ ap (λ v. 0 + v) (total_zero g b))
total_plus f g b (suc k) =
    moved (f (b +ℤ pos k)) (g (b +ℤ pos k)) (total f b k) (total g b k) (total (λ n. f n + g n) b k) (total (λ n. f n + g n) b (suc k))
    (total f b (suc k)) (total g b (suc k)) (total_suc (λ n. f n + g n) b k) (total_plus f g b k) (total_suc f b k) (total_suc g b k)
  where
    moved : (u v tu tv t s su sv : ℕ) → s ≡ u + v + t → t ≡ tu + tv → su ≡ u + tu → sv ≡ v + tv → s ≡ su + sv
    moved u v tu tv t s su sv e f g h = omega (arith, e, f, g, h)

-- in two parts
next_on : (n : ℤ) (j k : ℕ) → (n +ℤ pos j) +ℤ pos k ≡ n +ℤ pos (j + k)
next_on n j k = omega (arith, ints)

pub total_split : (f : ℤ → ℕ) (b : ℤ) (j k : ℕ) → total f b (j + k) ≡ total f b j + total f (b +ℤ pos j) k
total_split f b j zero =
    ap (total f b) (none_more j) ∙ ended (total f b j) (total f (b +ℤ pos j) 0) (total_zero f (b +ℤ pos j))
  where
    none_more : (j : ℕ) → j + 0 ≡ j
    none_more j = omega arith

    ended : (u v : ℕ) → v ≡ 0 → u ≡ u + v
    ended u v e = omega (arith, e)
total_split f b j (suc k) =
    ap (total f b) (one_more j k) ∙ total_suc f b (j + k)
    ∙ joined (f (b +ℤ pos (j + k))) (f ((b +ℤ pos j) +ℤ pos k)) (total f b (j + k)) (total f b j) (total f (b +ℤ pos j) k)
    (total f (b +ℤ pos j) (suc k)) (ap f (sym (next_on b j k))) (total_split f b j k) (total_suc f (b +ℤ pos j) k)
  where
    one_more : (j k : ℕ) → j + suc k ≡ suc (j + k)
    one_more j k = omega arith

    joined : (u v t low high more : ℕ) → u ≡ v → t ≡ low + high → more ≡ v + high → u + t ≡ low + more
    joined u v t low high more e f g = omega (arith, e, f, g)

-- where two differ at one number alone, the sums differ by as much
pub total_once : (f g : ℤ → ℕ) (m : ℤ) (p q : ℕ) (b : ℤ) (k : ℕ) →
    ((i : ℕ) → i < k → int_eq (b +ℤ pos i) m ≡ false → f (b +ℤ pos i) ≡ g (b +ℤ pos i)) → p + f m ≡ q + g m → b ≤ℤ m →
    m <ℤ (b +ℤ pos k) → p + total f b k ≡ q + total g b k
total_once f g m p q b zero same here over under = absurd (none b m over under)
  where
    none : (b m : ℤ) → b ≤ℤ m → m <ℤ (b +ℤ pos 0) → ⊥
    none b m over under = omega (arith, ints, over, under)
total_once f g m p q b (suc k) same here over under =
    elim (cases_Bool (int_eq (b +ℤ pos k) m)) [
      | inl is ↦
          let at : b +ℤ pos k ≡ m = (Decides-int_eq (b +ℤ pos k) m).0 is in
          let rest : total f b k ≡ total g b k = total_same f g b k (λ i lt. same i (omega (arith, lt)) (apart at i lt)) in
          let f_at : f (b +ℤ pos k) ≡ f m = ap f at in
          let g_at : g (b +ℤ pos k) ≡ g m = ap g at in
          omega (arith, here, rest, f_at, g_at, total_suc f b k, total_suc g b k)
      | inr other ↦
          let rest : p + total f b k ≡ q + total g b k =
          total_once f g m p q b k (λ i lt. same i (omega (arith, lt))) here over (lower b m k under (λ e.
          let yes : int_eq (b +ℤ pos k) m ≡ true = (Decides-int_eq (b +ℤ pos k) m).1 e in let no : true ≡ false = sym yes ∙ other in cc)) in
          let last : f (b +ℤ pos k) ≡ g (b +ℤ pos k) = same k (omega arith) other in
          omega (arith, rest, last, total_suc f b k, total_suc g b k)
    ]
  where
    lower_one : (b : ℤ) (i k : ℕ) → i < k → b +ℤ pos i ≡ b +ℤ pos k → ⊥
    lower_one b i k lt e = omega (arith, ints, lt, e)

    apart : b +ℤ pos k ≡ m → (i : ℕ) → i < k → int_eq (b +ℤ pos i) m ≡ false
    apart at i lt =
        elim (cases_Bool (int_eq (b +ℤ pos i) m)) [
          | inl same_one ↦ absurd (lower_one b i k lt ((Decides-int_eq (b +ℤ pos i) m).0 same_one ∙ sym at))
          | inr other ↦ other
        ]

    joined : (b m : ℤ) (k : ℕ) → m <ℤ (b +ℤ pos (suc k)) → (b +ℤ pos k) ≤ℤ m → b +ℤ pos k ≡ m
    joined b m k under higher = omega (arith, ints, under, higher)

    lower : (b m : ℤ) (k : ℕ) → m <ℤ (b +ℤ pos (suc k)) → (b +ℤ pos k ≡ m → ⊥) → m <ℤ (b +ℤ pos k)
    lower b m k under differ =
        by_lt_z m (b +ℤ pos k) (λ less. less) (λ higher. absurd (differ (joined b m k under higher)))
