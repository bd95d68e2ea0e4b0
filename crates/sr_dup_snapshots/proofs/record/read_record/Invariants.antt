use Rattle.std.proofs.Common.{◌≡◌, ◌*◌}
use Rattle.sr_dup_window.specs.Windows.{window_of}
use Rattle.sr_dup_table.specs.Widths.{numbers_in}
use Rattle.sr_dup_snapshots.proofs.MarkLemmas.{marks_to}
use Rattle.sr_dup_snapshots.proofs.record.read_record.Given as goal

-- the numbers so far are noted
abbrev pub invariant-loop-back : goal.invariant-loop-back
invariant-loop-back g l = window_of l.seen ≡ record { reference = l.fn.reference.0; marks = marks_to (64 * g.row.N) (numbers_in l.width) l.lanes l.back }
