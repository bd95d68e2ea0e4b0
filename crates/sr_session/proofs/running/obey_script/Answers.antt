use Rattle.sr_session.specs.declared.fault.Fault.{Fault}
use Rattle.sr_session.proofs.Going.{ends_behind, behind_fault}
use Rattle.sr_session.proofs.LeftLines.{left_alone}
use Rattle.sr_session.proofs.running.obey_script.Goals as goal

pub returns-in-Err-clause-ended : goal.returns-in-Err-clause-ended
returns-in-Err-clause-ended g c =
    let f : Fault = record { line = c.in_ok-number.number; kind = c.in-Err.kind } in
    ends_behind g.S.Session.dialogue _ _ _ _ _ _ _ f c.in_ok-number.ensures.done (c.in-Err.ensures.kept c.in_ok-number.number _) (behind_fault g.S.Session.dialogue _ _ _ _ c.in-Err.ensures.failed)

pub returns-in-Err-clause-left : goal.returns-in-Err-clause-left
returns-in-Err-clause-left g c = left_alone c.in-Err.kind _ 1 _ _ c.in-Err.ensures.failed
