use Rattle.std.proofs.lemmas.Result.{IfOk-weaker}
use Rattle.sr_capture_script.specs.Merging.{feed_of}
use Rattle.sr_capture_audit.proofs.GatheringLemmas.{gathered_begun, gathers_all}
use Rattle.sr_capture_audit.proofs.Learned.{boxes_none}
use Rattle.sr_capture_audit.proofs.gathering.gathered_of.Goals as goal

pub returns-clause-gathers : goal.returns-clause-gathers
returns-clause-gathers g c = IfOk-weaker c.pass_after.result _ _ (λ own took sa sb sc fa fb fc.
    let all = c.args.captures.now in
    let after = took sa sb sc fa fb fc in
    gathers_all c.args.by_flow c.args.by_counter c.args.choice.now c.args.subject c.args.spans (feed_of all.a sa) (feed_of all.b sb)
    (feed_of all.c sc) _ own after.merged after.came
    (gathered_begun c.args.by_flow c.args.by_counter c.args.subject c.args.spans c.new.result c.new-2.result c.begin_part.result
    c.begin_part-2.result c.new.ensures (boxes_none c.args.subject c.new-2.result c.new-2.ensures) c.begin_part.ensures c.begin_part-2.ensures)
    after.taken) c.pass_after.ensures.takes
