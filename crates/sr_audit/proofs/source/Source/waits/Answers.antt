use Rattle.std.proofs.Common.{◌∙◌, refl}
use Rattle.sr_audit.proofs.WaitingLemmas.{waits_at, waits_none_at}
use Rattle.sr_audit.proofs.source.Source.waits.Goals as goal

pub returns-in-Some : goal.returns-in-Some
returns-in-Some c = λ spans xs taken. c.waits_over.ensures
    ∙ waits_at c.args.mark xs c.args.self.now.numbers c.in-Some.numbers c.args.self.now.moments.times.items 1024 refl c.in-Some.is taken.numbers taken.edges.times

pub returns-in-None : goal.returns-in-None
returns-in-None c = λ spans xs taken. waits_none_at c.args.mark xs c.args.self.now.numbers c.in-None.is taken.numbers
