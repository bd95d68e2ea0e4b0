-- Runs in which one frame is numbered: its limits.
use Rattle.std.proofs.Common.{◌≡◌, inl, inr, ℕ, ◌+◌, ◌-◌, ◌<◌, ◌≤◌, ◌==◌, [], ◌∷◌, subst, arith}
use Rattle.std.proofs.lemmas.Bool.{cases_Bool}
use Rattle.sr_sequence.specs.declared.Seq.{Seq}
use Rattle.sr_dup_table.specs.Limits.{forget_time}
use Rattle.sr_node.specs.Limits.{first_number}
use Rattle.sr_plant.specs.declared.event.PlantEvent.TheVariants.{Carry}
use Rattle.sr_plant.specs.Plants.{Plant}
use Rattle.sr_laws_plant_runs.specs.Traffic.{Numbering, AreFew, IsTimely, count_of}

-- the number of the first frame of a node
abbrev pub number : Seq
number = record { 0 = first_number }

-- the one frame, of this node
abbrev pub only : ℕ → Numbering
only i = record { node = i; before = 0; time = 0 }

pub few : (i greatest : ℕ) → greatest ≤ 2048 → AreFew greatest (only i ∷ []) 0
few i greatest small k = elim (cases_Bool (k == i)) [
  | inl is ↦ rw is (omega (arith, small))
  | inr other ↦ rw other (omega arith)
]

pub none_few : (greatest : ℕ) → greatest ≤ 2048 → AreFew greatest [] 0
none_few greatest small k = omega (arith, small)

own_count : (i : ℕ) → count_of i (only i ∷ []) ≤ 1
own_count i = elim (cases_Bool (i == i)) [
  | inl is ↦ rw is (omega arith)
  | inr other ↦ rw other (omega arith)
]

pub timely : (i least : ℕ) → 1024 ≤ least → (s : Plant) → s.clock ≡ 0 → IsTimely least (only i ∷ []) (only i ∷ []) s (Carry 0)
timely i least some s clock m got =
    let same : only i ≡ m = cc in
    let one = own_count i in
    subst (λ x. (count_of x.node (only i ∷ []) - (x.before + 1) < least) × (s.clock < x.time + forget_time)) same (omega (arith, some, one), omega (arith, clock))
