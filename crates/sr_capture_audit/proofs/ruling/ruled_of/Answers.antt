use Rattle.sr_capture_script.specs.Merging.{feed_of}
use Rattle.sr_capture_audit.proofs.GatheringLemmas.{ruling_all}
use Rattle.sr_capture_audit.proofs.ruling.ruled_of.Goals as goal

pub returns-clause-audits : goal.returns-clause-audits
returns-clause-audits g c sa sb sc fa fb fc =
    let all = c.args.captures.now in
    let after = c.in_ok-ruling.ensures.takes sa sb sc fa fb fc in
    ruling_all c.args.rule c.args.choice.now c.args.subject c.args.spans (feed_of all.a sa) (feed_of all.b sb) (feed_of all.c sc) _
    c.in_ok-ruling.ruling after.merged after.came c.new.ensures after.taken
