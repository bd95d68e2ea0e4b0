use Rattle.std.proofs.Common.{ap, ◌∙◌}
use Rattle.sr_audit.specs.Rows.{shown_row}
use Rattle.sr_audit.proofs.RowLemmas.{rows_end}
use Rattle.sr_audit.proofs.source.Source.was_sided.Goals as goal

pub returns : goal.returns
returns c = λ xs taken. c.shown_row.ensures
    ∙ ap (λ r. shown_row r.closed) (c.rows.ensures
    ∙ rows_end c.args.spans.now xs c.args.self.now.numbers c.args.self.now.moments.times.items c.args.self.now.rows
    taken.numbers taken.edges.times taken.rows)
