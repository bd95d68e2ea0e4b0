use Rattle.std.proofs.Common.{refl, ◌∙◌, arith, ◌*◌}
use Rattle.std.proofs.lemmas.Bool.{false≢true}
use Rattle.sr_dup_window.specs.Windows.{window_of}
use Rattle.sr_dup_window.specs.RecordLemmas.{record-width}
use Rattle.sr_dup_window.specs.WindowLemmas.{merges-from}
use Rattle.sr_dup_window.proofs.CallLemmas.{merged_behind, merged_ahead, some_united_left, some_united_right, not_apart}
use Rattle.sr_dup_window.proofs.record.Record.merge.Goals as goal

pub invariant_of-self-clause-some : goal.invariant_of-self-clause-some
invariant_of-self-clause-some g c = some_united_left c.args.self.now c.pass.new.rows c.unite.new.rows c.unite.ensures.lanes

pub invariant_of-self-in-Ahead-clause-some : goal.invariant_of-self-in-Ahead-clause-some
invariant_of-self-in-Ahead-clause-some g c =
    some_united_right c.args.other.now c.pass-in-Ahead.new.rows c.unite-in-Ahead.new.rows (c.pass-in-Ahead.ensures.whole.many ∙ c.args.self.now.whole.many) c.unite-in-Ahead.ensures.lanes

pub returns-in-Behind-clause-value : goal.returns-in-Behind-clause-value
returns-in-Behind-clause-value g c = merged_behind c.args.self.now c.args.other.now _ c.pass.new.rows c.in-Behind.steps c.in-Behind.ensures.formula c.in-Behind.ensures.within refl c.pass.ensures.lanes c.unite.ensures.lanes

pub returns-in-Behind-clause-joins : goal.returns-in-Behind-clause-joins
returns-in-Behind-clause-joins g c =
    merges-from (64 * g.row.N) (window_of c.args.self.now) (window_of c.args.other.now) _ (record-width c.args.self.now)
    (merged_behind c.args.self.now c.args.other.now _ c.pass.new.rows c.in-Behind.steps c.in-Behind.ensures.formula c.in-Behind.ensures.within refl c.pass.ensures.lanes c.unite.ensures.lanes)

pub returns-in-Behind-clause-apart : goal.returns-in-Behind-clause-apart
returns-in-Behind-clause-apart g c =
    (λ e. absurd (false≢true e), λ e. absurd (not_apart c.args.self.now.reference.0 c.args.other.now.reference.0 c.in-Behind.steps (omega arith) (omega arith) c.in-Behind.ensures.formula c.in-Behind.ensures.within e))

pub returns-in-Ahead-clause-value : goal.returns-in-Ahead-clause-value
returns-in-Ahead-clause-value g c = merged_ahead c.args.self.now c.args.other.now _ c.pass-in-Ahead.new.rows c.in-Ahead.steps c.in-Ahead.ensures.formula c.in-Ahead.ensures.within.1 refl c.pass-in-Ahead.ensures.whole.many c.pass-in-Ahead.ensures.lanes c.unite-in-Ahead.ensures.lanes

pub returns-in-Ahead-clause-joins : goal.returns-in-Ahead-clause-joins
returns-in-Ahead-clause-joins g c =
    merges-from (64 * g.row.N) (window_of c.args.self.now) (window_of c.args.other.now) _ (record-width c.args.self.now)
    (merged_ahead c.args.self.now c.args.other.now _ c.pass-in-Ahead.new.rows c.in-Ahead.steps c.in-Ahead.ensures.formula c.in-Ahead.ensures.within.1 refl c.pass-in-Ahead.ensures.whole.many c.pass-in-Ahead.ensures.lanes c.unite-in-Ahead.ensures.lanes)
