use Rattle.std.proofs.Common.{refl}
use Rattle.sr_capture_audit.proofs.Ruled.{rule_begun}
use Rattle.sr_capture_audit.proofs.ruling.Ruling.new.Goals as goal

pub returns : goal.returns
returns c = record {
  subject_is = refl;
  rule_is = refl;
  spans_are = refl;
  audit = rule_begun c.args.rule c.args.subject c.args.spans _ c.new.ensures.audits c.new.ensures.spans;
}
