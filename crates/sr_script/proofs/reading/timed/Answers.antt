use Rattle.std.proofs.Common.{ℕ, List, sym, subst}
use Rattle.std.specs.Fmt.{decimal}
use Rattle.sr_words.specs.Words.{IsHex}
use Rattle.sr_words.specs.WordLemmas.{decimal_lacks, one_hex}
use Rattle.sr_script.proofs.reading.timed.Goals as goal

pub returns-in_default-clause-only : goal.returns-in_default-clause-only
returns-in_default-clause-only c time os h = absurd (c.in_default.ensures.only (decimal time) h.0 (decimal_lacks time h.2) h.1)

pub returns-in_default-number_of-clause-only : goal.returns-in_default-number_of-clause-only
returns-in_default-number_of-clause-only c time os h =
    let parts = c.in-Some.ensures.only (decimal time) h.0 (decimal_lacks time h.2) h.1 in
    let none = c.in_default-number_of.ensures.only time h.2 parts.0 in
    absurd cc

pub returns-in-Ok-clause-only : goal.returns-in-Ok-clause-only
returns-in-Ok-clause-only c time os h =
    let parts = c.in-Some.ensures.only (decimal time) h.0 (decimal_lacks time h.2) h.1 in
    let time_is = c.in-Some-number_of.ensures.only time h.2 parts.0 in
    (cc, one_hex c.in-Some.digits.now _ _ c.in-Ok.ensures.found (subst (λ (d : List ℕ). IsHex d os) (sym parts.1) h.3))

pub returns-in-Err-clause-only : goal.returns-in-Err-clause-only
returns-in-Err-clause-only c time os h =
    let parts = c.in-Some.ensures.only (decimal time) h.0 (decimal_lacks time h.2) h.1 in
    c.in-Err.ensures.only os (subst (λ (d : List ℕ). IsHex d os) (sym parts.1) h.3)
