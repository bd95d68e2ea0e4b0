use Rattle.std.proofs.Common.{◌++◌, List, length}
use Rattle.std.specs.Prelude.{◌↔◌}
use Rattle.sr_ports.specs.declared.entry.Entry.{Entry}
use Rattle.sr_ports.specs.declared.worker.Worker.{Worker}
use Rattle.sr_ports.specs.Parts.{part}
use Rattle.sr_ports.specs.Rests.{rest_of, IsRest}
use Rattle.sr_ports.proofs.rests.Rests.walk.Given as goal

-- whatever comes behind them, the part of all entries was left exactly where that of the entries left is
abbrev pub invariant-loop-entry : goal.invariant-loop-entry
invariant-loop-entry l =
    (w : Worker) (others : List Entry)
    → (IsRest (part w (l.fn.entries ++ others)) (rest_of w l.initial.self)) ↔ (IsRest (part w (l.entries_left ++ others)) (rest_of w l.self))

abbrev pub decreases-loop-entry : goal.decreases-loop-entry
decreases-loop-entry l = length l.entries_left
