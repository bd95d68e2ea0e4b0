use Rattle.std.proofs.Common.{◌∙◌, arith, rules}
use Rattle.sr_dup_window.proofs.CallLemmas.{read_behind}
use Rattle.sr_dup_window.proofs.record.Record.lanes_of.Goals as goal

pub returns-in-Behind : goal.returns-in-Behind
returns-in-Behind g c = c.lanes_at.ensures ∙ read_behind c.args.self.now c.in-Behind.field-0 c.args.seq.0 (omega arith) c.in-Behind.ensures.formula c.in-Behind.ensures.within

pub returns-in-Ahead : goal.returns-in-Ahead
returns-in-Ahead g c = search rules
