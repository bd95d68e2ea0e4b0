use Rattle.std.proofs.lemmas.Result.{on_ok_weaker}
use Rattle.sr_capture_sources.proofs.sighting.BesidePass.take.Goals as goal

pub returns-clause-taken : goal.returns-clause-taken
returns-clause-taken g c =
    on_ok_weaker c.take-2.result (λ took x is. record { sighted = c.in_ok-take.ensures.taken x is; other = took x is }) c.take-2.ensures.taken
