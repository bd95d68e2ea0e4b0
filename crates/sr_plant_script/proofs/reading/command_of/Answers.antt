use Rattle.std.proofs.Common.{◌≡◌, ◌++◌, ℕ, List, Err, ap, sym, ◌∙◌}
use Rattle.std.specs.Prelude.{codes}
use Rattle.sr_session.specs.declared.fault.FaultKind.TheVariants as kind
use Rattle.sr_plant_script.specs.declared.command.Receiver.{Receiver}
use Rattle.sr_plant_script.specs.declared.command.Command.TheVariants.{Send}
use Rattle.sr_plant_script.proofs.Words.{sent_only}
use Rattle.sr_plant_script.proofs.reading.command_of.Goals as goal

pub returns-in-Ok-clause-only : goal.returns-in-Ok-clause-only
returns-in-Ok-clause-only c command os h =
    let s = sent_only _ _ c.in-Some.ensures.found command os h in
    let parts = c.in-Ok.ensures.only s.0 s.1 os s.3 in
    (ap (λ (p : ℕ × Receiver). Send p.0 p.1) parts.0 ∙ sym s.2, parts.1)

pub returns-in-Err-clause-only : goal.returns-in-Err-clause-only
returns-in-Err-clause-only c command os h =
    let s = sent_only _ _ c.in-Some.ensures.found command os h in
    c.in-Err.ensures.only s.0 s.1 os s.3

pub returns-in-Err-clause-memory : goal.returns-in-Err-clause-memory
returns-in-Err-clause-memory c h =
    let is : c.in-Err.kind ≡ kind.Memory = cc h in
    let m = c.in-Err.ensures.memory (ap Err is) in
    let line = c.in-Some.ensures.found ∙ ap (λ (l : List ℕ). codes "send " ++ l) m.3.2 in
    (m.0, m.1, m.2, (m.3.0, m.3.1, line, m.3.3, m.3.4, m.3.5))
