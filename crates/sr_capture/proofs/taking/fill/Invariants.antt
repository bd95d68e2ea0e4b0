use Rattle.std.proofs.Common.{◌≤◌, ◌-◌, length, vec_len, vec_capacity}
use Rattle.sr_capture.specs.Taking.{Gathers}
use Rattle.sr_capture.proofs.taking.fill.Given as goal

abbrev pub invariant-loop-reader : goal.invariant-loop-reader
invariant-loop-reader g l = record {
  short : length l.kept.items ≤ l.count;
  room : vec_capacity l.fn.kept ≤ vec_capacity l.kept;
  lost : Gathers l.fn.kept.items l.kept.items (g.R.Read.remaining l.fn.reader) (g.R.Read.remaining l.reader);
}

abbrev pub decreases-loop-reader : goal.decreases-loop-reader
decreases-loop-reader g l = l.count - vec_len l.kept
