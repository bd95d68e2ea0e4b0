use Rattle.sr_script.proofs.printing.append_first.Goals as goal

pub returns-in-H-clause-ok : goal.returns-in-H-clause-ok
returns-in-H-clause-ok g c = rw c.in-H.is (c.append_handed.ensures.ok c.args.role.now)
