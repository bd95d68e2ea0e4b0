use Rattle.std.proofs.Common.{◌++◌, ℕ, List, ap, ◌∙◌}
use Rattle.std.specs.Prelude.{codes}
use Rattle.sr_script.specs.declared.reading.Command.TheVariants.{Arrive, Send}
use Rattle.sr_script.proofs.reading.command_of.Goals as goal

pub returns-in-Some-clause-memory : goal.returns-in-Some-clause-memory
returns-in-Some-clause-memory c h =
    let m = c.arrival.ensures.memory h in
    (Arrive m.0 m.1, m.2, (m.3.0, c.in-Some.ensures.found ∙ ap (λ (l : List ℕ). codes "in " ++ l) m.3.1, m.3.2, m.3.3, m.3.4))

pub returns-in-Some-behind_send-clause-memory : goal.returns-in-Some-behind_send-clause-memory
returns-in-Some-behind_send-clause-memory c h =
    let m = c.sending.ensures.memory h in
    (Send m.0, m.1, (m.2.0, c.in-Some-behind_send.ensures.found ∙ ap (λ (l : List ℕ). codes "send " ++ l) m.2.1, m.2.2, m.2.3))
