use Rattle.std.proofs.Common.{◌≡◌, ◌+◌, ◌-◌, ◌≤◌, ℕ, List, length, vec_capacity}
use Rattle.sr_session.specs.Turns.{Waits, BeginsWith}
use Rattle.sr_session.proofs.fronts.obey_front.Given as goal

abbrev pub invariant-loop-next : goal.invariant-loop-next
invariant-loop-next g l = record {
  count : l.next ≤ 1000001;
  within : l.used ≤ length l.octets;
  room : 8001 ≤ vec_capacity l.line;
  no_less : vec_capacity l.fn.line ≤ vec_capacity l.line;
  obeyed : (lines : List (List ℕ)) × BeginsWith l.octets l.used lines
      × Waits g.S.Session.dialogue (g.S.Session.state l.fn.session) l.first 0 lines l.waiting.text l.waiting.marks.items (g.S.Session.state l.session)
      × (l.next ≡ l.first + length lines);
}

abbrev pub decreases-loop-next : goal.decreases-loop-next
decreases-loop-next g l = 1000001 - l.next
