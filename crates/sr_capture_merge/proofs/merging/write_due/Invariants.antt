use Rattle.std.proofs.Common.{◌≡◌, length}
use Rattle.sr_capture_merge.specs.Files.{sink, WritesOn}
use Rattle.sr_capture_merge.proofs.merging.write_due.Given as goal

abbrev pub invariant-waiting : goal.invariant-waiting
invariant-waiting g l = record {
  on : WritesOn l.fn.output.plan l.fn.output.start l.now l.fn.merge l.merge
      (sink (g.W.Write.contents l.fn.writer) l.fn.output.counts) (sink (g.W.Write.contents l.writer) l.output.counts);
  plan : l.output.plan ≡ l.fn.output.plan;
  start : l.output.start ≡ l.fn.output.start;
}

abbrev pub decreases-waiting : goal.decreases-waiting
decreases-waiting g l = length l.merge.waiting
