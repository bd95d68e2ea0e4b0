-- In a run of a plant all that is done keeps its rules.
use Rattle.std.proofs.Common.{◌≡◌, ℕ, ◌≤◌, inl, inr, List, [], ◌∷◌, ◌++◌, arith, refl, sym, ap, ◌∙◌, subst, None, Some}
use Rattle.std.specs.Prelude.{option_to_list}
use Rattle.sr_laws_plant.specs.Handlings.{Handling, is_sending, IsNotEarlier}
use Rattle.sr_laws_plant.proofs.OriginLemmas.{KeepsOwnRules, AreOrderly}
use Rattle.sr_laws_plant.specs.Ledger.{Net, PlantTurn, handlings}
use Rattle.sr_laws_plant.specs.PlantEvents.{Event, send, tick, carry, drop, repeat, cut, mend, Plant, idle_turn, Sends, Moves, History}
use Rattle.sr_laws_plant.specs.PlantEvents.{turns, PlantRun}

-- nothing was done later
abbrev IsPast : List Handling → ℕ → Type 0
IsPast [] clock = Unit {0}
IsPast (d ∷ ds) clock = d.time ≤ clock

abbrev IsKept : List Handling → ℕ → Type 0
IsKept ds clock = AreOrderly ds × IsPast ds clock

past_later : (ds : List Handling) (now after : ℕ) → now ≤ after → IsPast ds now → IsPast ds after
past_later [] now after le p = tt
past_later (d ∷ ds) now after le p = omega arith

not_earlier : (ds : List Handling) (d : Handling) (clock : ℕ) → clock ≤ d.time → IsPast ds clock → IsNotEarlier ds d
not_earlier [] d clock le p = tt
not_earlier (e ∷ es) d clock le p = omega arith

idle : (ds : List Handling) (turn x : PlantTurn) (clock after : ℕ) → turn ≡ x → x.did ≡ None → clock ≤ after → IsKept ds clock →
    IsKept (option_to_list turn.did ++ ds) after
idle ds turn x clock after says nothing le kept =
    subst (λ did. IsKept (option_to_list did ++ ds) after) (sym (ap (λ y. y.did) says ∙ nothing)) (
      kept.0,
      past_later ds clock after le kept.1,
    )

busy : (ds : List Handling) (turn x : PlantTurn) (d : Handling) (clock after : ℕ) → turn ≡ x → x.did ≡ Some d → clock ≤ d.time →
    d.time ≤ after → KeepsOwnRules (is_sending d) ds d → IsKept ds clock → IsKept (option_to_list turn.did ++ ds) after
busy ds turn x d clock after says something from to rule kept =
    subst (λ did. IsKept (option_to_list did ++ ds) after) (sym (ap (λ y. y.did) says ∙ something)) (
      (
        kept.0,
        not_earlier ds d clock from kept.1,
        rule,
      ),
      to,
    )

sends_kept : (net : Net) (ds : List Handling) (s : Plant) (now : ℕ) (d : Handling) (turn : PlantTurn) (t : Plant) → s.clock ≤ now →
    Sends net ds s now d turn t → IsKept ds s.clock → IsKept (option_to_list turn.did ++ ds) t.clock
sends_kept net ds s now d turn t le m kept =
    let clock : t.clock ≡ now = ap (λ x. x.clock) m.after in
    let time = m.time in
    busy ds turn _ d s.clock t.clock m.says refl (omega arith) (omega arith)
    (subst (λ b. KeepsOwnRules b ds d) (sym m.inlet) m.sending) kept

move_kept : (net : Net) (ds : List Handling) (s : Plant) (e : Event) (turn : PlantTurn) (t : Plant) → Moves net ds s e turn t →
    IsKept ds s.clock → IsKept (option_to_list turn.did ++ ds) t.clock
move_kept net ds s (send node) turn t m kept = sends_kept net ds s s.clock m.0 turn t (omega arith) m.2 kept
move_kept net ds s (tick node now) turn t (order, inl rest) kept =
    let clock : t.clock ≡ now = ap (λ x. x.clock) rest.1 in
    idle ds turn idle_turn s.clock t.clock rest.0 refl (omega arith) kept
move_kept net ds s (tick node now) turn t (order, inr life) kept = sends_kept net ds s now life.0 turn t order life.3 kept
move_kept net ds s (carry place) turn t (c, rest, out, inl m) kept =
    let clock : t.clock ≡ s.clock = ap (λ x. x.clock) m.after in
    idle ds turn _ s.clock t.clock m.says refl (omega arith) kept
move_kept net ds s (carry place) turn t (c, rest, out, inr (inl m)) kept =
    let clock : t.clock ≡ s.clock = ap (λ x. x.clock) m.after in
    idle ds turn _ s.clock t.clock m.says refl (omega arith) kept
move_kept net ds s (carry place) turn t (c, rest, out, inr (inr m)) kept =
    let takes = m.1 in
    let clock : t.clock ≡ s.clock = ap (λ x. x.clock) takes.after in
    let time = takes.time in
    busy ds turn _ m.0 s.clock t.clock takes.says refl (omega arith) (omega arith)
    (subst (λ b. KeepsOwnRules b ds m.0) (sym takes.inlet) takes.foreign) kept
move_kept net ds s (drop place) turn t m kept =
    let clock : t.clock ≡ s.clock = ap (λ x. x.clock) m.3.after in
    idle ds turn _ s.clock t.clock m.3.says refl (omega arith) kept
move_kept net ds s (repeat place) turn t m kept =
    let clock : t.clock ≡ s.clock = ap (λ x. x.clock) m.4 in
    idle ds turn _ s.clock t.clock m.3 refl (omega arith) kept
move_kept net ds s (cut link) turn t m kept =
    let clock : t.clock ≡ s.clock = ap (λ x. x.clock) m.1 in
    idle ds turn _ s.clock t.clock m.0 refl (omega arith) kept
move_kept net ds s (mend link) turn t m kept =
    let clock : t.clock ≡ s.clock = ap (λ x. x.clock) m.1 in
    idle ds turn _ s.clock t.clock m.0 refl (omega arith) kept

run_kept : (net : Net) (es : History) (t : Plant) → PlantRun net es t → IsKept (handlings (turns es)) t.clock
run_kept net [] t run = (tt, tt)
run_kept net (e ∷ es) t run = move_kept net (handlings (turns es)) run.0 e.0 e.1 t run.2 (run_kept net es run.0 run.1)

pub orderly : (net : Net) (es : History) (t : Plant) → PlantRun net es t → AreOrderly (handlings (turns es))
orderly net es t run = (run_kept net es t run).0
