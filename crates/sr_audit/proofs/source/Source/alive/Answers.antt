use Rattle.sr_audit.proofs.source.Source.alive.Goals as goal

pub returns-clause-alive : goal.returns-clause-alive
returns-clause-alive c = λ signs few heard. heard.alive few
