use Rattle.sr_capture_script.specs.Merging.{feed_of}
use Rattle.sr_capture_audit.proofs.GatheringLemmas.{report_of_all}
use Rattle.sr_capture_audit.proofs.gathering.figures_of.Goals as goal

pub returns-clause-audits : goal.returns-clause-audits
returns-clause-audits g c sa sb sc fa fb fc =
    let all = c.args.captures.now in
    report_of_all c.args.choice.now c.args.subject c.args.spans (feed_of all.a sa) (feed_of all.b sb) (feed_of all.c sc) c.in_ok-gathered.gathered
    (c.in_ok-gathered.ensures.gathers sa sb sc fa fb fc)
