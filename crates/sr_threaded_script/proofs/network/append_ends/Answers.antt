use Rattle.std.proofs.Common.{rules}
use Rattle.sr_threaded_script.specs.Reports.{report_of}
use Rattle.sr_threaded_script.proofs.Reported.{one_more, one_whole}
use Rattle.sr_threaded_script.proofs.network.append_ends.Goals as goal

pub loop-node-preserved : goal.loop-node-preserved
loop-node-preserved c =
    let was = c.loop-node.invariant in
    let e = c.index-ends-node.result in
    record {
      told = one_more c.args.ends.now c.loop-node.node e c.loop-node.text c.append_report.new.text (report_of c.args.ends.now)
          c.given_to.result.now (search rules) c.index-ends-node.is was.told c.given_to.ensures (search rules);
      whole = one_whole c.args.ends.now c.loop-node.node e (search rules) c.index-ends-node.is was.whole (search rules);
    }
