use Rattle.std.proofs.Common.{◌≡◌, drop}
use Rattle.sr_session.specs.Turns.{line_of}
use Rattle.sr_session.proofs.waiting.line_of.Given as goal

abbrev pub invariant-loop-mark : goal.invariant-loop-mark
invariant-loop-mark l = line_of l.marks l.place ≡ line_of (drop l.mark-index l.marks) l.place
