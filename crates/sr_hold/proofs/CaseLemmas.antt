-- Lists of turns worked out.
use Rattle.std.proofs.Common.{◌≡◌, ℕ, ◌≤◌, List, [], ◌∷◌, refl, ap, arith}
use Rattle.sr_hold.specs.declared.recorder.Recorder.TheVariants.{A, B}
use Rattle.sr_hold.specs.declared.hold.Released.{Released}
use Rattle.sr_hold.specs.Laws.{IsClean}
use Rattle.sr_hold.specs.Turns.{state_after}
use Rattle.sr_hold.specs.Cases.{four_arrivals, WorkedListsAreTold, FalseModelsAreRefused}

abbrev first_of : List ℕ → ℕ
first_of [] = 0
first_of (x ∷ xs) = x

abbrev first_item : List (Released ℕ) → ℕ
first_item [] = 0
first_item (x ∷ xs) = x.item

clean : IsClean (state_after 5 0 four_arrivals)
clean = record { a = refl; b = refl }

pub worked : WorkedListsAreTold
worked = record { released = refl; clean = clean; put_forward = refl; counted = refl; over = refl }

differ : ◌≡◌ {A = ℕ} 0 1 → ⊥
differ e = omega (arith, e)

swapped : ◌≡◌ {A = ℕ} 2 1 → ⊥
swapped e = omega (arith, e)

turned : ◌≡◌ {A = ℕ} 1 2 → ⊥
turned e = omega (arith, e)

back : 20 ≤ 10 → ⊥
back le = omega (arith, le)

pub refused : FalseModelsAreRefused
refused = record {
  lost = λ i. differ (ap first_of (i.each A));
  b_first = λ i. swapped (ap first_item (i.merged clean));
  goes_back = λ h i. back i.ordered.1.0;
  others = λ h i. turned (ap first_of (i.each B));
}
