use Rattle.sr_session.specs.RunLemmas.{runs_begun}
use Rattle.sr_session.proofs.running.run_session_leaving.Goals as goal

pub returns-clause-runs : goal.returns-clause-runs
returns-clause-runs g c =
    runs_begun g.S.Session.dialogue _ _ _ _ _ _ c.obey_script.result c.obey_script.ensures.done c.obey_script.ensures.ended
