use Rattle.std.proofs.Common.{◌≡◌, Some, Err, ap}
use Rattle.sr_session.specs.declared.fault.FaultKind.TheVariants as kind
use Rattle.sr_threaded_script.proofs.Asked.{known}
use Rattle.sr_threaded_script.proofs.reading.sending_of.Goals as goal

pub returns-in-Err-clause-bad : goal.returns-in-Err-clause-bad
returns-in-Err-clause-bad c is line =
    let memory : c.in-Err.kind ≡ kind.Memory = known _ c.in-Err.kind line.0 line.1 line.2 c.in-Err.ensures.only in
    absurd cc

pub returns-in-Err-clause-memory : goal.returns-in-Err-clause-memory
returns-in-Err-clause-memory c h =
    let is : c.in-Err.kind ≡ kind.Memory = cc h in
    let m = c.in-Err.ensures.memory (ap Err is) in
    (Some (m.0, m.1), m.2, m.3)
