use Rattle.std.proofs.Common.{◌≡◌, ◌++◌, ◌∷◌, ℕ, List, Err, rules, sym, ap, subst, ◌∙◌}
use Rattle.std.specs.Fmt.{decimal}
use Rattle.sr_words.specs.Words.{IsHex}
use Rattle.sr_session.specs.declared.fault.FaultKind.TheVariants as kind
use Rattle.sr_words.specs.WordLemmas.{decimal_lacks, one_hex}
use Rattle.sr_plant_script.specs.Commands.{IsReceiver}
use Rattle.sr_plant_script.proofs.Words.{receiver_lacks}
use Rattle.sr_plant_script.proofs.reading.sending.Goals as goal

pub returns-in_default-clause-only : goal.returns-in_default-clause-only
returns-in_default-clause-only c node receiver os h =
    absurd (c.in_default.ensures.only (decimal node) (h.0 ++ 32 ∷ h.1) (decimal_lacks node h.3) h.2)

pub returns-in_default-split_word-clause-only : goal.returns-in_default-split_word-clause-only
returns-in_default-split_word-clause-only c node receiver os h =
    let a = c.in-Some.ensures.only (decimal node) (h.0 ++ 32 ∷ h.1) (decimal_lacks node h.3) h.2 in
    absurd (c.in_default-split_word.ensures.only h.0 h.1 (receiver_lacks h.0 receiver h.4) a.1)

pub returns-in_default-count_of-clause-only : goal.returns-in_default-count_of-clause-only
returns-in_default-count_of-clause-only c node receiver os h =
    let a = c.in-Some.ensures.only (decimal node) (h.0 ++ 32 ∷ h.1) (decimal_lacks node h.3) h.2 in
    let none = c.in_default-count_of.ensures.only node h.3 a.0 in
    absurd cc

pub returns-in_default-receiver_of-clause-only : goal.returns-in_default-receiver_of-clause-only
returns-in_default-receiver_of-clause-only c node receiver os h =
    let a = c.in-Some.ensures.only (decimal node) (h.0 ++ 32 ∷ h.1) (decimal_lacks node h.3) h.2 in
    let b = c.in-Some-split_word.ensures.only h.0 h.1 (receiver_lacks h.0 receiver h.4) a.1 in
    let none = c.in_default-receiver_of.ensures.only receiver (subst (λ (l : List ℕ). IsReceiver l receiver) (sym b.0) h.4) in
    absurd cc

pub returns-in-Ok-clause-only : goal.returns-in-Ok-clause-only
returns-in-Ok-clause-only c node receiver os h =
    let a = c.in-Some.ensures.only (decimal node) (h.0 ++ 32 ∷ h.1) (decimal_lacks node h.3) h.2 in
    let b = c.in-Some-split_word.ensures.only h.0 h.1 (receiver_lacks h.0 receiver h.4) a.1 in
    let node_is = c.in-Some-count_of.ensures.only node h.3 a.0 in
    let receiver_is = c.in-Some-receiver_of.ensures.only receiver (subst (λ (l : List ℕ). IsReceiver l receiver) (sym b.0) h.4) in
    (cc (node_is, receiver_is), one_hex c.in-Some-split_word.digits.now _ _ c.in-Ok.ensures.found (subst (λ (d : List ℕ). IsHex d os) (sym b.1) h.5))

pub returns-in-Err-clause-only : goal.returns-in-Err-clause-only
returns-in-Err-clause-only c node receiver os h =
    let a = c.in-Some.ensures.only (decimal node) (h.0 ++ 32 ∷ h.1) (decimal_lacks node h.3) h.2 in
    let b = c.in-Some-split_word.ensures.only h.0 h.1 (receiver_lacks h.0 receiver h.4) a.1 in
    c.in-Err.ensures.only os (subst (λ (d : List ℕ). IsHex d os) (sym b.1) h.5)

pub returns-in-Err-clause-memory : goal.returns-in-Err-clause-memory
returns-in-Err-clause-memory c h =
    let is : c.in-Err.kind ≡ kind.Memory = cc h in
    let m = c.in-Err.ensures.memory (ap Err is) in
    let n = c.in-Some-count_of.node in
    let text =
    c.in-Some.ensures.found ∙ ap (λ (l : List ℕ). l ++ 32 ∷ c.in-Some.rest.now) c.in-Some-count_of.ensures.found
    ∙ ap (λ (l : List ℕ). decimal n ++ 32 ∷ l) c.in-Some-split_word.ensures.found in (
      n,
      c.in-Some-receiver_of.receiver,
      m.0,
      (c.in-Some-split_word.receiver.now, c.in-Some-split_word.digits.now, text, search rules, c.in-Some-receiver_of.ensures.found, m.1),
    )
