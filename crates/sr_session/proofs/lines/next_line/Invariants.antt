use Rattle.std.proofs.Common.{◌≤◌, ◌-◌, length, vec_len, vec_capacity}
use Rattle.sr_session.specs.Octets.{Lacks}
use Rattle.sr_session.proofs.Pieces.{Took}
use Rattle.sr_session.proofs.lines.next_line.Given as goal

abbrev pub invariant-loop-reader : goal.invariant-loop-reader
invariant-loop-reader g l = record {
  short : length l.line.items ≤ 8001;
  unbroken : Lacks 10 l.line.items;
  room : 8001 ≤ vec_capacity l.line;
  no_less : vec_capacity l.fn.line ≤ vec_capacity l.line;
  took : Took l.line.items (g.R.Read.remaining l.fn.reader) (g.R.Read.remaining l.reader);
}

abbrev pub decreases-loop-reader : goal.decreases-loop-reader
decreases-loop-reader g l = 8001 - vec_len l.line
