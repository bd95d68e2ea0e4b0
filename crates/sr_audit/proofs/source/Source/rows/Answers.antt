use Rattle.std.proofs.Common.{◌∙◌, ap, sym}
use Rattle.sr_audit.specs.Rows.{rows_before}
use Rattle.sr_audit.proofs.source.Source.rows.Goals as goal

pub returns-in-Some : goal.returns-in-Some
returns-in-Some c = c.rows_over.ensures
    ∙ ap (λ o. rows_before c.args.spans.now o c.args.self.now.moments.times.items c.args.self.now.rows) (sym c.in-Some.is)
