use Rattle.std.specs.Io.KnownBytes.{Appends}
use Rattle.sr_capture_script.proofs.Writing.{first_ticks}
use Rattle.sr_capture_script.proofs.ticks.write_between.Given as goal

abbrev pub invariant-loop-before : goal.invariant-loop-before
invariant-loop-before g l = Appends (g.W.Write.contents l.fn.writer) (g.W.Write.contents l.writer) (first_ticks l.from l.step l.gone l.before)
