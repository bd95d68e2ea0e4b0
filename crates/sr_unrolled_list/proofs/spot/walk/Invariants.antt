use Rattle.std.proofs.Common.{◌≡◌, length, take, ◌+◌, ◌≤◌}
use Rattle.sr_unrolled_list.specs.Lists.{items_of}
use Rattle.sr_unrolled_list.proofs.spot.walk.Given as goal

-- the items before this piece, and what is left of the place
abbrev pub invariant-loop-at : goal.invariant-loop-at
invariant-loop-at g l = record {
  within : l.at ≤ length l.pieces;
  sum : l.fn.place ≡ length (items_of (take l.at l.pieces)) + l.left;
}
