use Rattle.std.proofs.lemmas.Result.{on_ok_weaker}
use Rattle.sr_capture_audit.proofs.spanning.BesidePass.take.Goals as goal

pub returns-clause-taken : goal.returns-clause-taken
returns-clause-taken g c =
    on_ok_weaker c.take.result (λ took x is. record { spans = c.note.ensures x is; other = took x is }) c.take.ensures.taken
