use Rattle.std.proofs.Common.{◌≡◌, ◌-◌, ◌≤◌, [], vec_capacity}
use Rattle.sr_session.proofs.Going.{Going}
use Rattle.sr_session.proofs.running.obey_lines.Given as goal

abbrev pub invariant-loop-number : goal.invariant-loop-number
invariant-loop-number g l = record {
  count : l.number ≤ 1000001;
  room : 8001 ≤ vec_capacity l.line;
  text : l.waiting.text ≡ [];
  marks : l.waiting.marks.items ≡ [];
  going : Going g.S.Session.dialogue (g.S.Session.state l.fn.session) (g.R.Read.remaining l.fn.reader) (g.R.Read.remaining l.reader)
      (g.W.Write.contents l.fn.writer) (g.W.Write.contents l.writer) (g.S.Session.state l.session) l.number;
}

abbrev pub decreases-loop-number : goal.decreases-loop-number
decreases-loop-number g l = 1000001 - l.number
