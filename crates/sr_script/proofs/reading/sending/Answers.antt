use Rattle.sr_script.proofs.reading.sending.Goals as goal

pub returns-in-Ok-clause-only : goal.returns-in-Ok-clause-only
returns-in-Ok-clause-only c time os h = let all = c.in-Ok.ensures.only time os h in (cc all.0, all.1)
