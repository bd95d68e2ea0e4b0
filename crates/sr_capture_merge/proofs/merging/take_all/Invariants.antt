use Rattle.std.proofs.Common.{◌≡◌, ◌+◌, length}
use Rattle.sr_capture_script.specs.Merging.{Feed}
use Rattle.sr_capture_merge.specs.Files.{Sink, sink}
use Rattle.sr_capture_merge.specs.Merged.{IsMerging}
use Rattle.sr_capture_merge.proofs.merging.take_all.Given as goal

abbrev pub invariant-packets : goal.invariant-packets
invariant-packets g l = record {
  on : (x y z : Feed) (held : Sink) →
      (was : IsMerging g.R.Read.remaining l.choice l.fn.output.plan l.fn.output.start x y z l.fn.captures l.fn.first l.fn.now l.fn.merge held
      (sink (g.W.Write.contents l.fn.writer) l.fn.output.counts)) →
      (is : IsMerging g.R.Read.remaining l.choice l.fn.output.plan l.fn.output.start x y z l.captures l.next l.now l.merge held
      (sink (g.W.Write.contents l.writer) l.output.counts)) × (length is.out ≡ length was.out + l.counter);
  plan : l.output.plan ≡ l.fn.output.plan;
  start : l.output.start ≡ l.fn.output.start;
}
