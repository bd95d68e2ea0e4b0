use Rattle.std.proofs.Common.{length}
use Rattle.std.specs.Prelude.{◌↔◌}
use Rattle.sr_ports.specs.declared.worker.Worker.{Worker}
use Rattle.sr_ports.specs.Parts.{part, entries_in, Agrees}
use Rattle.sr_ports.specs.Rests.{rest_of, IsRest}
use Rattle.sr_ports.proofs.segments.settle_all.Given as goal

-- a worker agrees exactly where its part of the segments left is left
abbrev pub invariant-loop-segment : goal.invariant-loop-segment
invariant-loop-segment l =
    (w : Worker)
    → (Agrees w (entries_in l.fn.segments) l.fn.logs) ↔ (IsRest (part w (entries_in l.segments_left)) (rest_of w l.rests))

abbrev pub decreases-loop-segment : goal.decreases-loop-segment
decreases-loop-segment l = length l.segments_left
