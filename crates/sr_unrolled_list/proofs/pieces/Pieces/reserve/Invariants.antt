use Rattle.std.proofs.Common.{◌≡◌, ◌+◌, ◌≤◌, length}
use Rattle.std.specs.VecDeque.{deque_capacity}
use Rattle.sr_unrolled_list.specs.Lists.{AreSound}
use Rattle.sr_unrolled_list.proofs.pieces.Pieces.reserve.Given as goal

-- so many pieces are spare by now, and there is room for the others
abbrev pub invariant-loop : goal.invariant-loop
invariant-loop g l = record {
  sound : AreSound l.self-inside.used l.self-inside.spare;
  used : l.self-inside.used ≡ l.initial.self-inside.used;
  spare : length l.self-inside.spare.items ≡ length l.initial.self-inside.spare.items + l.counter;
  used_fit : length l.self-inside.used.items + length l.initial.self-inside.spare.items + l.more ≤ deque_capacity l.self-inside.used;
  spare_fit : length l.self-inside.used.items + length l.initial.self-inside.spare.items + l.more ≤ deque_capacity l.self-inside.spare;
}
