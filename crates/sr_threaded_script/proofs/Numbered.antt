-- The number of the last line of a script.
use Rattle.std.proofs.Common.{◌≡◌, ◌+◌, ◌-◌, ◌^◌, ◌≤◌, ℕ, List, [], ◌∷◌, length, Option, Some, None, ap, arith, subst, ◌∙◌, lit≤}
use Rattle.std.specs.Prelude.{min}
use Rattle.std.proofs.Math.Nat.{min-eq_left}
use Rattle.sr_session.specs.Runs.{Replies}
use Rattle.sr_plant.specs.declared.fault.PlantFault.{PlantFault}
use Rattle.sr_plant_script.specs.declared.command.Receiver.{Receiver}
use Rattle.sr_plant_script.specs.Sendings.{send_refusal}
use Rattle.sr_threaded_script.specs.declared.setup.ThreadedSetup.{ThreadedSetup}
use Rattle.sr_threaded_script.specs.Lines.{Sendings, IsSendingTaken, IsDone, Answered, threaded_dialogue}
use Rattle.sr_threaded_script.specs.Runs.{no_sendings_of}

last_of_sending : (s t : Sendings) (number node : ℕ) (receiver : Receiver) (octets : List ℕ) (refusal : Option PlantFault)
    (text : List ℕ) → IsSendingTaken s number node receiver octets refusal text t → t.last ≡ number
last_of_sending s t number node receiver octets None text h = ap (λ (x : Sendings). x.last) h.1
last_of_sending s t number node receiver octets (Some fault) text h = ap (λ (x : Sendings). x.last) h.3

last_of_done : (s t : Sendings) (number : ℕ) (asked : Option (ℕ × Receiver)) (octets text : List ℕ)
    → IsDone s number asked octets text t → t.last ≡ number
last_of_done s t number None octets text h = ap (λ (x : Sendings). x.last) h.1
last_of_done s t number (Some parts) octets text h =
    last_of_sending s t number parts.0 parts.1 octets (send_refusal s.nodes parts.0 parts.1 (length octets)) text h

last_of_answer : (s t : Sendings) (number : ℕ) (line text : List ℕ) → Answered s number line text t → t.last ≡ number
last_of_answer s t number line text h = last_of_done s t number h.0 h.1 text h.3

-- lines are counted, and there are not too many of them
pub record AreCounted (t : Sendings) (number : ℕ) : Type 0 where
  pub counted : t.last + 1 ≡ number
  pub few : t.last ≤ 1000000

counted : (s t : Sendings) (number : ℕ) (lines : List (List ℕ)) (text : List ℕ) → AreCounted s number
    → Replies threaded_dialogue s number lines text t → AreCounted t (number + length lines)
counted s t number [] text so_far h = record {
  counted = ap (λ (x : Sendings). x.last + 1) h.1 ∙ omega (arith, so_far.counted);
  few = rw h.1 so_far.few;
}
counted s t number (line ∷ lines) text so_far h =
    let is = last_of_answer s h.1 number line h.0 h.4 in
    let next : AreCounted h.1 (number + 1) = record { counted = omega (arith, is); few = omega (arith, is, h.3.count) } in
    let e : number + 1 + length lines ≡ number + length (line ∷ lines) = omega arith in
    let rest : AreCounted t (number + 1 + length lines) = counted h.1 t (number + 1) lines h.2 next h.5 in
    subst (λ (n : ℕ). AreCounted t n) e rest

-- behind all lines of a script, the number of the next one is one more than how many they are
pub line_behind : (setup : ThreadedSetup) (told : Sendings) (lines : List (List ℕ)) (text : List ℕ)
    → Replies threaded_dialogue (no_sendings_of setup) 1 lines text told
    → min (told.last + 1) (2 ^ 64 - 1) ≡ length lines + 1
line_behind setup told lines text h =
    let start : AreCounted (no_sendings_of setup) 1 = record { counted = omega arith; few = omega arith } in
    let all = counted (no_sendings_of setup) told 1 lines text start h in
    let fits : 1000001 ≤ 2 ^ 64 - 1 = lit≤ tt in
    let few : told.last + 1 ≤ 2 ^ 64 - 1 = omega (arith, all.few, fits) in
    min-eq_left few ∙ omega (arith, all.counted)
