-- Arrivals of one source at one time are steady where each number is near those before it.
use Rattle.std.proofs.Common.{◌≡◌, ℕ, ◌-◌, true, List, [], ◌∷◌, ℤ, pos, arith, refl, sym, ap, subst, inl, inr}
use Rattle.std.specs.Prelude.{nat_lt, ◌-ℤ◌, ◌+ℤ◌, ◌<ℤ◌, ◌≤ℤ◌}
use Rattle.std.proofs.lemmas.Bool.{lt-ltb}
use Rattle.std.proofs.lemmas.Int.{ints}
use Rattle.sr_frame.specs.declared.fields.Mac.{Mac}
use Rattle.sr_sequence.specs.Numbers.{IsNear}
use Rattle.sr_dup_window.specs.Families.{greater}
use Rattle.sr_dup_window.specs.Bins.{IsWidth}
use Rattle.sr_frame.specs.AddressLemmas.{mac_refl}
use Rattle.sr_dup_table.specs.Limits.{forget_time}
use Rattle.sr_laws_dup.specs.TableRuns.{
  epoch,
  greatest_of,
  copies_of,
  IsNearAll,
  AreSteady,
  at_once,
  NumbersAreSteady,
  late_copies,
  over_the_end,
}

-- the greatest of some numbers, one at least
abbrev greatest_in : List ℤ → ℤ
greatest_in [] = pos 0
greatest_in (n ∷ []) = n
greatest_in (n ∷ m ∷ before) = greater (greatest_in (m ∷ before)) n

-- each number is near those before it
abbrev AreNear : ℕ → List ℤ → Type 0
AreNear w [] = Unit {0}
AreNear w (n ∷ []) = Unit {0}
AreNear w (n ∷ m ∷ before) = AreNear w (m ∷ before) × IsNear w (greatest_in (m ∷ before)) n

greatest_same : (src : Mac) (now : ℕ) (ns : List ℤ) → greatest_of (at_once src now ns) ≡ greatest_in ns
greatest_same src now [] = refl
greatest_same src now (n ∷ []) = refl
greatest_same src now (n ∷ m ∷ ms) = ap (λ g. greater g n) (greatest_same src now (m ∷ ms))

-- they are one epoch
still_live : (now : ℕ) → nat_lt (now - now) forget_time ≡ true
still_live now = lt-ltb (now - now) forget_time (omega arith)

epoch_all : (src : Mac) (now : ℕ) (ns : List ℤ) → epoch src now (at_once src now ns) ≡ at_once src now ns
epoch_all src now [] = refl
epoch_all src now (n ∷ ns) = rw (mac_refl src, still_live now)
    (ap (λ ys. record { src = src; number = n; time = now } ∷ ys) (epoch_all src now ns))

near_all : (w : ℕ) (src : Mac) (now : ℕ) (n : ℤ) (ns : List ℤ) → AreNear w (n ∷ ns) → IsNearAll w (at_once src now ns) n
near_all w src now n [] near = tt
near_all w src now n (m ∷ ms) near = subst (λ g. IsNear w g n) (sym (greatest_same src now (m ∷ ms))) near.1

near_before : (w : ℕ) (n : ℤ) (ns : List ℤ) → AreNear w (n ∷ ns) → AreNear w ns
near_before w n [] near = tt
near_before w n (m ∷ ms) near = near.0

steady_of : (w : ℕ) (src : Mac) (now : ℕ) (ns : List ℤ) → AreNear w ns → AreSteady w (at_once src now ns)
steady_of w src now [] near = tt
steady_of w src now (n ∷ ns) near =
    let xs = at_once src now ns in
    let all = sym (epoch_all src now ns) in (
      steady_of w src now ns (near_before w n ns near),
      (subst (λ ys. IsNearAll w ys n) all (near_all w src now n ns near), ap (λ ys. copies_of src n ys) all),
    )

-- a number that is near at either width is near at both
near : (w : ℕ) → IsWidth w → (g n : ℤ) → (g -ℤ pos 1024) <ℤ n → n ≤ℤ (g +ℤ pos 63488) → IsNear w g n
near w (inl is) g n above below = record { above = omega (arith, ints, is, above); below = omega (arith, ints, is, below) }
near w (inr is) g n above below = record { above = omega (arith, ints, is, above); below = omega (arith, ints, is, below) }

pub late_copies_are_steady : NumbersAreSteady late_copies
late_copies_are_steady w width src now = steady_of w src now late_copies (
  (
    (
      (
        (tt, near w width _ _ (omega (arith, ints)) (omega (arith, ints))),
        near w width _ _ (omega (arith, ints)) (omega (arith, ints)),
      ),
      near w width _ _ (omega (arith, ints)) (omega (arith, ints)),
    ),
    near w width _ _ (omega (arith, ints)) (omega (arith, ints)),
  ),
  near w width _ _ (omega (arith, ints)) (omega (arith, ints)),
)

pub over_the_end_is_steady : NumbersAreSteady over_the_end
over_the_end_is_steady w width src now = steady_of w src now over_the_end (
  (
    (
      (
        (
          (
            (tt, near w width _ _ (omega (arith, ints)) (omega (arith, ints))),
            near w width _ _ (omega (arith, ints)) (omega (arith, ints)),
          ),
          near w width _ _ (omega (arith, ints)) (omega (arith, ints)),
        ),
        near w width _ _ (omega (arith, ints)) (omega (arith, ints)),
      ),
      near w width _ _ (omega (arith, ints)) (omega (arith, ints)),
    ),
    near w width _ _ (omega (arith, ints)) (omega (arith, ints)),
  ),
  near w width _ _ (omega (arith, ints)) (omega (arith, ints)),
)
