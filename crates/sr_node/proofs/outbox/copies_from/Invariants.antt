use Rattle.std.proofs.Common.{◌≡◌, ◌+◌, ◌++◌, drop}
use Rattle.std.specs.Vec.{vec_len, vec_capacity}
use Rattle.std.specs.VecDeque.{deque_len}
use Rattle.sr_node.proofs.outbox.copies_from.Given as goal

-- the copies so far, and the rest; there is room for all
abbrev pub invariant-loop-place : goal.invariant-loop-place
invariant-loop-place l = record {
  so_far : l.parcels.items ++ drop l.place l.fn.queue.items ≡ drop l.fn.first l.fn.queue.items;
  count : vec_len l.parcels + l.fn.first ≡ l.place;
  room : vec_capacity l.parcels + l.fn.first ≡ deque_len l.fn.queue;
}
