use Rattle.std.proofs.Common.{refl}
use Rattle.sr_capture_audit.proofs.Audited.{begun}
use Rattle.sr_capture_audit.proofs.figures.Report.new.Goals as goal

pub returns : goal.returns
returns c = begun c.args.subject c.args.spans _ c.new.result refl c.new.ensures.audits c.new.ensures.hears c.new.ensures.spans c.new.ensures.left_out
