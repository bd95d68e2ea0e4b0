use Rattle.std.proofs.Common.{◌≡◌, ◌++◌, length}
use Rattle.sr_threaded_script.specs.Reports.{given_lines}
use Rattle.sr_threaded_script.proofs.printing.append_ups.Given as goal

-- what was told and what is left to tell is all
abbrev pub invariant-loop-frame : goal.invariant-loop-frame
invariant-loop-frame l = l.text ++ given_lines l.fn.node l.rest ≡ l.fn.text ++ given_lines l.fn.node l.fn.given

abbrev pub decreases-loop-frame : goal.decreases-loop-frame
decreases-loop-frame l = length l.rest
