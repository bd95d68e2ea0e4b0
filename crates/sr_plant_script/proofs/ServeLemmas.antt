-- What a host is handed at an event, and how it is taken.
use Rattle.std.proofs.Common.{◌≡◌, ℕ, zero, suc, ◌+◌, ◌<◌, List, [], ◌∷◌, ◌++◌, length, get_or, slice_set, replicate, Option, None, Some, ◌⊎◌, inl, inr, refl, sym, ap, ◌∙◌, arith}
use Rattle.std.proofs.lemmas.List.{append-nil, get_or-set_same, set-get_or, length-set}
use Rattle.sr_forwarding.specs.Parcels.{ParcelImage}
use Rattle.sr_plant.specs.declared.event.PlantEvent.{PlantEvent}
use Rattle.sr_plant.specs.declared.event.PlantEvent.TheVariants as event
use Rattle.sr_plant.specs.Copies.{Copy}
use Rattle.sr_plant.specs.Plants.{Plant}
use Rattle.sr_plant.specs.Steps.{PlantStep, Comes, IsLost, without, plant_refusal}
use Rattle.sr_plant_script.specs.Texts.{up_lines, all_up_lines}
use Rattle.sr_plant_script.specs.Happenings.{HasNothingUp, host_of, IsTaken}

-- the lines where one host at most was handed something
none_up : (k n : ℕ) → all_up_lines k (replicate n []) ≡ []
none_up k zero = refl
none_up k (suc n) = none_up (k + 1) n

one_up : (k n i : ℕ) (h : List ParcelImage) → i < n → all_up_lines k (slice_set (replicate n []) i h) ≡ up_lines (k + i) h
one_up k zero i h within = absurd (omega arith)
one_up k (suc n) zero h within =
    let e : k + zero ≡ k = omega arith in
    ap (λ (l : List ℕ). up_lines k h ++ l) (none_up (k + 1) n) ∙ append-nil (up_lines k h) ∙ ap (λ m. up_lines m h) (sym e)
one_up k (suc n) (suc i) h within =
    let e : k + 1 + i ≡ k + suc i = omega arith in
    one_up (k + 1) n i h (omega (arith, within)) ∙ ap (λ m. up_lines m h) e

set_again : {X : Type 0} (xs : List X) (i : ℕ) (x y : X) → slice_set (slice_set xs i x) i y ≡ slice_set xs i y
set_again [] i x y = refl
set_again (z ∷ zs) zero x y = refl
set_again (z ∷ zs) (suc i) x y = ap (λ (ws : List _). z ∷ ws) (set_again zs i x y)

set_all : {X : Type 0} (n i : ℕ) (x : X) → slice_set (replicate n x) i x ≡ replicate n x
set_all zero i x = refl
set_all (suc n) zero x = refl
set_all (suc n) (suc i) x = ap (λ (ws : List _). x ∷ ws) (set_all n i x)

-- what was handed up changes at this host alone
abbrev pub Hands : Option ℕ → List (List ParcelImage) → List (List ParcelImage) → Type 0
Hands None old new = new ≡ old
Hands (Some i) old new = (h : List ParcelImage) × (new ≡ slice_set old i h)

carry_hands : (s t : Plant) (place : ℕ) (c : Copy) → Comes s place c t ⊎ (IsLost s c × (t ≡ without s place)) → Hands (Some c.hop.to.node) s.handed t.handed
carry_hands s t place c (inl comes) = (_, ap (λ (p : Plant). p.handed) comes.plant)
carry_hands s t place c (inr lost) =
    (get_or s.handed c.hop.to.node [], ap (λ (p : Plant). p.handed) lost.1 ∙ sym (set-get_or s.handed c.hop.to.node []))

pub step_hands : (s t : Plant) (e : PlantEvent) → PlantStep s e t → Hands (host_of s e) s.handed t.handed
step_hands s t (event.Send i frame) step = (_, ap (λ (p : Plant). p.handed) step.plant)
step_hands s t (event.Carry place) step = rw step.1 (carry_hands s t place step.0 step.2)
step_hands s t (event.Drop place) step = ap (λ (p : Plant). p.handed) step
step_hands s t (event.Repeat place) step = ap (λ (p : Plant). p.handed) step.2
step_hands s t (event.Cut link) step = ap (λ (p : Plant). p.handed) step
step_hands s t (event.Mend link) step = ap (λ (p : Plant). p.handed) step
step_hands s t (event.Tick i now) step = (_, ap (λ (p : Plant). p.handed) step.plant)

-- an event at which no host is handed anything
pub served_none : (s t : Plant) (e : PlantEvent) (text : List ℕ) → HasNothingUp s → host_of s e ≡ None → plant_refusal s e ≡ None → PlantStep s e t →
    (told : List ℕ) × IsTaken s e told t × (text ≡ text ++ told)
served_none s t e text quiet none fits step =
    let same : t.handed ≡ s.handed = rw none at (step_hands s t e step) in
    let still : HasNothingUp t = rw same quiet in
    let nothing : all_up_lines 0 t.handed ≡ [] = ap (all_up_lines 0) still ∙ none_up 0 (length t.handed) in
    ([], record { after = t; fits = fits; step = step; told = sym nothing; left = ap (λ (h : List (List ParcelImage)). record t { handed = h }) still }, sym (append-nil text))

-- an event at which one is
all_taken : (s u : Plant) (i : ℕ) → HasNothingUp s → Hands (Some i) s.handed u.handed → slice_set u.handed i [] ≡ replicate (length u.handed) []
all_taken s u i quiet hands =
    let n = length s.handed in
    let all : u.handed ≡ slice_set (replicate n []) i hands.0 = hands.1 ∙ ap (λ (hs : List (List ParcelImage)). slice_set hs i hands.0) quiet in
    let long : length u.handed ≡ n = ap length hands.1 ∙ length-set s.handed i hands.0 in
    ap (λ (hs : List (List ParcelImage)). slice_set hs i []) all
    ∙ (set_again (replicate n []) i hands.0 [] ∙ (set_all n i [] ∙ ap (λ (m : ℕ). replicate m []) (sym long)))

-- who takes it, so that nothing is left
pub quiet_after : (s u t : Plant) (e : PlantEvent) (i : ℕ) → HasNothingUp s → host_of s e ≡ Some i → PlantStep s e u →
    t ≡ record u { handed = slice_set u.handed i [] } → HasNothingUp t
quiet_after s u t e i quiet some step left =
    let hands : Hands (Some i) s.handed u.handed = rw some at (step_hands s u e step) in
    let empty = all_taken s u i quiet hands in
    let here : t.handed ≡ slice_set u.handed i [] = ap (λ (p : Plant). p.handed) left in
    let long : length t.handed ≡ length u.handed = ap length here ∙ length-set u.handed i [] in
    here ∙ (empty ∙ ap (λ (m : ℕ). replicate m []) (sym long))

pub served_one : (s u t : Plant) (e : PlantEvent) (i : ℕ) (text later : List ℕ) → HasNothingUp s → host_of s e ≡ Some i → i < length s.handed →
    plant_refusal s e ≡ None → PlantStep s e u → later ≡ text ++ up_lines i (get_or u.handed i []) →
    t ≡ record u { handed = slice_set u.handed i [] } → (told : List ℕ) × IsTaken s e told t × (later ≡ text ++ told)
served_one s u t e i text later quiet some within fits step said left =
    let hands : Hands (Some i) s.handed u.handed = rw some at (step_hands s u e step) in
    let all : u.handed ≡ slice_set (replicate (length s.handed) []) i hands.0 = hands.1 ∙ ap (λ (hs : List (List ParcelImage)). slice_set hs i hands.0) quiet in
    let one : get_or u.handed i [] ≡ hands.0 = ap (λ (hs : List (List ParcelImage)). get_or hs i []) hands.1 ∙ get_or-set_same s.handed i hands.0 [] within in
    let number : i ≡ 0 + i = omega arith in
    let lines : up_lines i (get_or u.handed i []) ≡ all_up_lines 0 u.handed =
    ap (up_lines i) one
    ∙ (ap (λ (m : ℕ). up_lines m hands.0) number ∙ (sym (one_up 0 (length s.handed) i hands.0 within) ∙ ap (all_up_lines 0) (sym all))) in
    let empty = all_taken s u i quiet hands in
    (up_lines i (get_or u.handed i []), record { after = u; fits = fits; step = step; told = lines; left = left ∙ ap (λ (h : List (List ParcelImage)). record u { handed = h }) empty }, said)
