use Rattle.std.proofs.Common.{◌∙◌}
use Rattle.sr_audit.proofs.AuditLemmas.{left_kept}
use Rattle.sr_audit.proofs.audit.Audit.hear.Goals as goal

pub returns-then-branch-clause-left_out : goal.returns-then-branch-clause-left_out
returns-then-branch-clause-left_out c = λ spans xs audits counts.
    rw (c.hear_known.ensures.left_out, c.make_entry.ensures.left_out)
    (left_kept c.args.self.now.sources.entries c.hear_known.new.self.sources.entries xs c.args.self.now.left_out
    (c.hear_known.ensures.known xs ∙ c.make_entry.ensures.known spans xs audits) counts)
