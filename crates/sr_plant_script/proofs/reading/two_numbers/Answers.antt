use Rattle.std.specs.Fmt.{decimal}
use Rattle.sr_words.specs.WordLemmas.{decimal_lacks}
use Rattle.sr_plant_script.proofs.reading.two_numbers.Goals as goal

pub returns-in_default-clause-only : goal.returns-in_default-clause-only
returns-in_default-clause-only c first second h = absurd (c.in_default.ensures.only (decimal first) (decimal second) (decimal_lacks first h.1) h.0)

pub returns-in_default-count_of-clause-only : goal.returns-in_default-count_of-clause-only
returns-in_default-count_of-clause-only c first second h =
    let parts = c.in-Some.ensures.only (decimal first) (decimal second) (decimal_lacks first h.1) h.0 in
    let none = c.in_default-count_of.ensures.only first h.1 parts.0 in
    absurd cc

pub returns-in-Some-number_of-clause-only : goal.returns-in-Some-number_of-clause-only
returns-in-Some-number_of-clause-only c first second h =
    let parts = c.in-Some.ensures.only (decimal first) (decimal second) (decimal_lacks first h.1) h.0 in
    let first_is = c.in-Some-count_of.ensures.only first h.1 parts.0 in
    let second_is = c.in-Some-number_of.ensures.only second h.2 parts.1 in
    cc (first_is, second_is)

pub returns-in-None-clause-only : goal.returns-in-None-clause-only
returns-in-None-clause-only c first second h =
    let parts = c.in-Some.ensures.only (decimal first) (decimal second) (decimal_lacks first h.1) h.0 in
    let none = c.in-None.ensures.only second h.2 parts.1 in
    absurd cc
