-- Families and their greatest numbers.
use Rattle.std.proofs.Common.{◌≡◌, ℕ, false, eqb, ℤ, pos, arith, refl, sym, ap, ◌∙◌, subst, inl, inr}
use Rattle.std.specs.Prelude.{◌-ℤ◌, ◌≤ℤ◌, ◌<ℤ◌}
use Rattle.std.specs.Ordering.{int_eq}
use Rattle.std.proofs.lemmas.Int.{ints, by_lt_z}
use Rattle.std.proofs.lemmas.Bool.{cases_eq, eq-eqb, ne_eqb, or_left, or_right, or_cases, and_parts, and_from, false_from_ne_true}
use Rattle.std.proofs.lemmas.Bool.Decides.{Decides-int_eq}
use Rattle.sr_dup_window.specs.declared.lane_sets.Lane.{Lane}
use Rattle.sr_dup_window.specs.declared.lane_sets.Lanes.{Lanes}
use Rattle.sr_dup_window.specs.LaneSets.{has, is_empty}
use Rattle.sr_dup_window.specs.LaneLemmas.{some_lane}
use Rattle.sr_dup_window.specs.Families.{Family, IsGreatest, IsClose, singleton, join, greater}

same_back : (m : ℤ) (j k : ℕ) → (m -ℤ pos j) ≡ (m -ℤ pos k) → j ≡ k
same_back m j k e = omega (arith, ints)

-- numbers before one number are told apart by how far they are before it
pub int_eq-back : (m : ℤ) (j k : ℕ) → int_eq (m -ℤ pos j) (m -ℤ pos k) ≡ eqb j k
int_eq-back m j k =
    elim (cases_eq j k) [
      | inl e ↦ (Decides-int_eq (m -ℤ pos j) (m -ℤ pos k)).1 (ap (λ i. m -ℤ pos i) e) ∙ sym (eq-eqb j k e)
      | inr ne ↦ false_from_ne_true (int_eq (m -ℤ pos j) (m -ℤ pos k))
          (λ t. ne (same_back m j k ((Decides-int_eq (m -ℤ pos j) (m -ℤ pos k)).0 t))) ∙ sym (ne_eqb j k ne)
    ]

pub greater_same : (m n : ℤ) → n ≤ℤ m → greater m n ≡ m
greater_same m n h = grind (arith, ints)

pub greater_more : (m n : ℤ) → m ≤ℤ n → greater m n ≡ n
greater_more m n h = grind (arith, ints)

pub close_swap : (m n : ℤ) → IsClose m n → IsClose n m
close_swap m n a = (a.1, a.0)

pub close_greater : (m n k : ℤ) → IsClose m k → IsClose n k → IsClose (greater m n) k
close_greater m n k a b = (grind (arith, ints, a.0, b.0), grind (arith, ints, a.1, b.1))

-- no lane has a number above the greatest
pub lacks_above : (f : Family) (m n : ℤ) (lane : Lane) → IsGreatest f m → m <ℤ n → f lane n ≡ false
lacks_above f m n lane top above = false_from_ne_true (f lane n) (λ t. let no : n ≤ℤ m = top.most lane n t in absurd (omega (arith, ints)))

-- the greatest number of two families together
pub join_greatest : (f g : Family) (m n : ℤ) → IsGreatest f m → IsGreatest g n → IsGreatest (join f g) (greater m n)
join_greatest f g m n a b =
    let Q : ℤ → Type 0 = λ x. IsGreatest (join f g) x in
    by_lt_z m n
    (λ less. subst Q (sym (greater_more m n (omega (arith, ints)))) (record {
      member = (b.member.0, or_right (f b.member.0 n) (g b.member.0 n) b.member.1);
      most = λ lane x t. elim (or_cases (f lane x) (g lane x) t) [
        | inl u ↦ let below : x ≤ℤ m = a.most lane x u in omega (arith, ints)
        | inr u ↦ b.most lane x u
      ];
    }))
    (λ le. subst Q (sym (greater_same m n le)) (record {
      member = (a.member.0, or_left (f a.member.0 m) (g a.member.0 m) a.member.1);
      most = λ lane x t. elim (or_cases (f lane x) (g lane x) t) [
        | inl u ↦ a.most lane x u
        | inr u ↦ let below : x ≤ℤ n = b.most lane x u in omega (arith, ints)
      ];
    }))

-- the greatest number of a family of one number
pub singleton_greatest : (lanes : Lanes) (n : ℤ) → is_empty lanes ≡ false → IsGreatest (singleton lanes n) n
singleton_greatest lanes n h =
    let some = some_lane lanes h in
    record {
      member = (some.0, and_from (int_eq n n) (has lanes some.0) ((Decides-int_eq n n).1 refl) some.1);
      most = λ lane x t.
          let e : x ≡ n = (Decides-int_eq x n).0 (and_parts (int_eq x n) (has lanes lane) t).0 in omega (arith, ints);
    }

-- families of the same numbers have one greatest
pub same_greatest : (f g : Family) (m n : ℤ) → IsGreatest f m → IsGreatest g n → ((lane : Lane) (x : ℤ) → f lane x ≡ g lane x) → m ≡ n
same_greatest f g m n a b same =
    let less : m ≤ℤ n = b.most a.member.0 m (sym (same a.member.0 m) ∙ a.member.1) in
    let more : n ≤ℤ m = a.most b.member.0 n (same b.member.0 n ∙ b.member.1) in
    omega (arith, ints)
