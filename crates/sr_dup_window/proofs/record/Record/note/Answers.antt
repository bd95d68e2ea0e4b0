use Rattle.std.proofs.Common.{refl, ap, ◌∙◌, arith, ◌*◌, ◌%◌}
use Rattle.sr_dup_window.specs.LaneSets.{none}
use Rattle.sr_dup_window.specs.Windows.{window_of, lanes_behind}
use Rattle.sr_dup_window.specs.RecordLemmas.{record-width}
use Rattle.sr_dup_window.specs.WindowLemmas.{notes-from}
use Rattle.sr_dup_window.proofs.CallLemmas.{some_put, some_kept, noted_behind, noted_ahead, read_behind, fresh_from}
use Rattle.sr_dup_window.proofs.record.Record.note.Goals as goal

pub invariant_of-self-clause-some : goal.invariant_of-self-clause-some
invariant_of-self-clause-some g c = some_kept c.args.self.now.rows c.mark.new.rows c.args.lanes (c.args.seq.0 % (64 * g.row.N)) (c.args.self.now.reference.0 % (64 * g.row.N)) c.args.self.now.some c.mark.ensures.lanes

pub invariant_of-self-in-Ahead-clause-some : goal.invariant_of-self-in-Ahead-clause-some
invariant_of-self-in-Ahead-clause-some g c = some_put c.pass.new.rows c.put.new.rows c.args.lanes (c.args.seq.0 % (64 * g.row.N)) c.requires c.put.ensures.lanes

pub returns-in-Behind-clause-value : goal.returns-in-Behind-clause-value
returns-in-Behind-clause-value g c = noted_behind c.args.self.now _ c.args.lanes c.in-Behind.field-0 c.args.seq.0 (omega arith) c.in-Behind.ensures.formula c.in-Behind.ensures.within refl c.mark.ensures.lanes

pub returns-in-Behind-clause-answer : goal.returns-in-Behind-clause-answer
returns-in-Behind-clause-answer g c =
    fresh_from c.args.self.now c.args.seq.0 c.args.lanes c.difference.result c.lanes_at-noted.result c.difference.ensures
    (c.lanes_at-noted.ensures ∙ read_behind c.args.self.now c.in-Behind.field-0 c.args.seq.0 (omega arith) c.in-Behind.ensures.formula c.in-Behind.ensures.within)

pub returns-in-Behind-clause-stands : goal.returns-in-Behind-clause-stands
returns-in-Behind-clause-stands g c =
    notes-from (64 * g.row.N) (window_of c.args.self.now) _ c.args.seq.0 c.args.lanes c.difference.result (record-width c.args.self.now) c.requires
    (noted_behind c.args.self.now _ c.args.lanes c.in-Behind.field-0 c.args.seq.0 (omega arith) c.in-Behind.ensures.formula c.in-Behind.ensures.within refl c.mark.ensures.lanes)
    (fresh_from c.args.self.now c.args.seq.0 c.args.lanes c.difference.result c.lanes_at-noted.result c.difference.ensures
    (c.lanes_at-noted.ensures ∙ read_behind c.args.self.now c.in-Behind.field-0 c.args.seq.0 (omega arith) c.in-Behind.ensures.formula c.in-Behind.ensures.within))

pub returns-in-Ahead-clause-value : goal.returns-in-Ahead-clause-value
returns-in-Ahead-clause-value g c = noted_ahead c.args.self.now _ c.pass.new.rows c.args.lanes c.in-Ahead.steps c.args.seq.0 (omega arith) c.in-Ahead.ensures.formula c.in-Ahead.ensures.within.0 c.in-Ahead.ensures.within.1 refl c.pass.ensures.lanes c.put.ensures.lanes

pub returns-in-Ahead-clause-answer : goal.returns-in-Ahead-clause-answer
returns-in-Ahead-clause-answer g c = fresh_from c.args.self.now c.args.seq.0 c.args.lanes c.difference-in-Ahead.result none c.difference-in-Ahead.ensures (ap (lanes_behind (window_of c.args.self.now)) c.in-Ahead.ensures.formula)

pub returns-in-Ahead-clause-stands : goal.returns-in-Ahead-clause-stands
returns-in-Ahead-clause-stands g c =
    notes-from (64 * g.row.N) (window_of c.args.self.now) _ c.args.seq.0 c.args.lanes c.difference-in-Ahead.result (record-width c.args.self.now) c.requires
    (noted_ahead c.args.self.now _ c.pass.new.rows c.args.lanes c.in-Ahead.steps c.args.seq.0 (omega arith) c.in-Ahead.ensures.formula c.in-Ahead.ensures.within.0 c.in-Ahead.ensures.within.1 refl c.pass.ensures.lanes c.put.ensures.lanes)
    (fresh_from c.args.self.now c.args.seq.0 c.args.lanes c.difference-in-Ahead.result none c.difference-in-Ahead.ensures (ap (lanes_behind (window_of c.args.self.now)) c.in-Ahead.ensures.formula))
