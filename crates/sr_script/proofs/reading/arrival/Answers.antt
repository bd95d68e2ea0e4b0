use Rattle.std.proofs.Common.{◌≡◌, ◌++◌, ◌∷◌, ℕ, List, Err, ap, ◌∙◌}
use Rattle.std.specs.Fmt.{decimal}
use Rattle.sr_session.specs.declared.fault.FaultKind.TheVariants as kind
use Rattle.sr_script.specs.Commands.{letter_of}
use Rattle.sr_script.proofs.reading.arrival.Goals as goal

pub returns-in-Ok-clause-only : goal.returns-in-Ok-clause-only
returns-in-Ok-clause-only c port time os h =
    let first = c.in-Some.ensures.only port (decimal time ++ 32 ∷ h.0) h.2 h.1 in
    let rest = c.in-Ok.ensures.only time os (h.0, first.1, h.3, h.4) in
    (cc (first.0, rest.0), rest.1)

pub returns-in-Err-clause-only : goal.returns-in-Err-clause-only
returns-in-Err-clause-only c port time os h =
    let first = c.in-Some.ensures.only port (decimal time ++ 32 ∷ h.0) h.2 h.1 in
    c.in-Err.ensures.only time os (h.0, first.1, h.3, h.4)

pub returns-in-Err-clause-memory : goal.returns-in-Err-clause-memory
returns-in-Err-clause-memory c h =
    let is : c.in-Err.kind ≡ kind.Memory = cc h in
    let m = c.in-Err.ensures.memory (ap Err is) in
    (c.in-Some.port, m.0, m.1, (m.2.0, c.in-Some.ensures.found.0 ∙ ap (λ (l : List ℕ). letter_of c.in-Some.port ++ 32 ∷ l) m.2.1, c.in-Some.ensures.found.1, m.2.2, m.2.3))
