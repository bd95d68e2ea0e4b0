-- What happens to a plant, put together.
use Rattle.std.proofs.Common.{◌≡◌, ℕ, suc, ◌+◌, ◌≤◌, List, [], ◌++◌, length, Some, None, refl, sym, ap, ◌∙◌, append_assoc, add-one, arith, inl, inr}
use Rattle.std.specs.Prelude.{◌⊎◌}
use Rattle.std.proofs.lemmas.List.{nil_from_length}
use Rattle.sr_script.specs.Texts.{refusal_line}
use Rattle.sr_plant.specs.declared.event.PlantEvent.{PlantEvent}
use Rattle.sr_plant.specs.declared.event.PlantEvent.TheVariants as event
use Rattle.sr_plant.specs.declared.fault.PlantFault.{PlantFault}
use Rattle.sr_plant.specs.declared.fault.PlantFault.TheVariants.{NoMemory}
use Rattle.sr_plant.specs.Plants.{Plant}
use Rattle.sr_plant.specs.Steps.{PlantRefuses}
use Rattle.sr_plant_script.specs.Texts.{fault_name, flow_line}
use Rattle.sr_plant_script.specs.Happenings.{IsTaken, Happens, Carries, Flows, most_carries}

-- the line of a refusal is appended to a text
abbrev pub Tells : ℕ → PlantFault → List ℕ → List ℕ → Type 0
Tells number f text later = (name : List ℕ) × (fault_name f ≡ Some name) × (later ≡ text ++ refusal_line number name)

pub refused : (s t : Plant) (number : ℕ) (e : PlantEvent) (f : PlantFault) (text later : List ℕ)
    → PlantRefuses s e f → Tells number f text later → t ≡ s
    → (told : List ℕ) × Happens s number e told t × (later ≡ text ++ told)
refused s t number e f text later refuses tells same =
    (refusal_line number tells.0, inr (f, refuses, record { name = tells.0; named = tells.1; told = refl; same = same }), tells.2)

-- so many carries are done, and their lines are appended to a text
abbrev pub Carried : Plant → ℕ → Plant → List ℕ → List ℕ → Type 0
Carried s n u before text = (ups : List ℕ) × Carries s n ups u × (text ≡ before ++ ups)

pub carried_more : (s u t : Plant) (n : ℕ) (before text later : List ℕ) → Carried s n u before text
    → ((told : List ℕ) × IsTaken u (event.Carry 0) told t × (later ≡ text ++ told)) → Carried s (n + 1) t before later
carried_more s u t n before text later h served =
    let more : Carries s (suc n) (h.0 ++ served.0) t = (u, h.0, served.0, h.1, served.1, refl) in
    (h.0 ++ served.0, rw add-one more, served.2 ∙ ap (λ (l : List ℕ). l ++ served.0) h.2 ∙ append_assoc before h.0 served.0)

-- an event that is refused is told; a lack of memory has no line
pub refusal_told : (s t : Plant) (number : ℕ) (e : PlantEvent) (f : PlantFault) (text between later : List ℕ)
    → (f ≡ NoMemory) ⊎ (PlantRefuses s e f × (t ≡ s) × (between ≡ text)) → Tells number f between later
    → PlantRefuses s e f × (t ≡ s) × Tells number f text later
refusal_told s t number e f text between later (inl none) tells =
    let no : None ≡ Some tells.0 = sym (ap fault_name none) ∙ tells.1 in absurd (cc)
refusal_told s t number e f text between later (inr refuses) tells =
    (refuses.0, refuses.1, (tells.0, tells.1, tells.2 ∙ ap (λ (l : List ℕ). l ++ refusal_line number tells.0) refuses.2))

pub flow_over : (s u : Plant) (number n : ℕ) (before text later : List ℕ) → n ≤ most_carries → Carried s n u before text
    → (u.flight ≡ []) ⊎ (n ≡ most_carries) → later ≡ text ++ flow_line n
    → (told : List ℕ) × Flows s number told u × (later ≡ before ++ told)
flow_over s u number n before text later small h why told = (
  h.0 ++ flow_line n,
  (n, u, h.0, flow_line n, small, h.1, inl (why, refl, refl), refl),
  told ∙ ap (λ (l : List ℕ). l ++ flow_line n) h.2 ∙ append_assoc before h.0 (flow_line n),
)

pub flow_empty : (s u : Plant) (number n : ℕ) (before text later : List ℕ) → n ≤ most_carries → Carried s n u before text
    → length u.flight ≡ 0 → later ≡ text ++ flow_line n → (told : List ℕ) × Flows s number told u × (later ≡ before ++ told)
flow_empty s u number n before text later small h none told =
    flow_over s u number n before text later small h (inl (nil_from_length u.flight none)) told

pub flow_refused : (s u t : Plant) (number n : ℕ) (f : PlantFault) (before text later : List ℕ) → n ≤ most_carries → Carried s n u before text
    → PlantRefuses u (event.Carry 0) f → Tells number f text later → t ≡ u
    → (told : List ℕ) × Flows s number told t × (later ≡ before ++ told)
flow_refused s u t number n f before text later small h refuses tells same =
    let last = refusal_line number tells.0 in (
      h.0 ++ last,
      (n, u, h.0, last, small, h.1, inr (f, refuses, record { name = tells.0; named = tells.1; told = refl; same = same }), refl),
      tells.2 ∙ ap (λ (l : List ℕ). l ++ last) h.2 ∙ append_assoc before h.0 last,
    )

pub flow_full : (s u : Plant) (number n : ℕ) (before text later : List ℕ) → n ≡ most_carries → Carried s n u before text
    → later ≡ text ++ flow_line most_carries → (told : List ℕ) × Flows s number told u × (later ≡ before ++ told)
flow_full s u number n before text later e h told =
    flow_over s u number n before text later (omega arith) h (inr e) (told ∙ ap (λ m. text ++ flow_line m) (sym e))
