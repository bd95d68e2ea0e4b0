use Rattle.std.proofs.Common.{[]}
use Rattle.sr_capture_script.specs.Coming.{HaveCome}
use Rattle.sr_capture_script.specs.Merging.{Feed}
use Rattle.sr_capture_script.proofs.Passes.{IsPassing}
use Rattle.sr_capture_script.proofs.passing.pass_over.Given as goal

abbrev pub invariant-packets : goal.invariant-packets
invariant-packets g l = (x y z : Feed) → HaveCome g.R.Read.remaining x y z l.fn.captures [] →
    IsPassing g.R.Read.remaining g.P.Pass.takes l.choice l.start x y z l.counter l.captures l.next l.fn.pass l.pass
