use Rattle.std.proofs.Common.{Some, None, set, refl, rules}
use Rattle.sr_ports.specs.Parts.{part}
use Rattle.sr_ports.proofs.RestLemmas.{stepped_to}
use Rattle.sr_ports.proofs.rests.Rests.step.Goals as goal

pub returns-in-Some : goal.returns-in-Some
returns-in-Some c w others =
    stepped_to w c.args.entry.now.worker (c.args.entry.now.event, c.args.entry.now.answer) c.args.self.now.left
    (set c.args.self.now.left c.place-at.result (Some c.in-Some.rest)) c.place-at.result c.index-rests-at.result (Some c.in-Some.rest) c.behind.result (part w others)
    c.place-at.ensures.place (search rules) c.index-rests-at.is c.behind.ensures c.in-Some.is refl

pub returns-in-None : goal.returns-in-None
returns-in-None c w others =
    stepped_to w c.args.entry.now.worker (c.args.entry.now.event, c.args.entry.now.answer) c.args.self.now.left
    c.end.new.self.left c.place-at.result c.index-rests-at.result None c.behind.result (part w others)
    c.place-at.ensures.place (search rules) c.index-rests-at.is c.behind.ensures c.in-None.is c.end.ensures
