use Rattle.sr_script.proofs.node_session.NodeSessionSession.answer_unended.Goals as goal

pub returns-clause-ok : goal.returns-clause-ok
returns-clause-ok g c = c.answer_unended.ensures.ok

pub returns-clause-kept : goal.returns-clause-kept
returns-clause-kept g c = c.answer_unended.ensures.kept

pub returns-clause-known : goal.returns-clause-known
returns-clause-known g c = c.answer_unended.ensures.known

pub returns-clause-err : goal.returns-clause-err
returns-clause-err g c = c.answer_unended.ensures.err
