use Rattle.std.proofs.Common.{◌≡◌, ◌≤◌, ◌+◌, ◌++◌, vec_len, vec_capacity}
use Rattle.std.specs.Prelude.{map}
use Rattle.std.specs.List.{range_with_len}
use Rattle.sr_dup_window.specs.Windows.{window_of}
use Rattle.sr_dup_snapshots.specs.Snapshots.{lane_octet}
use Rattle.sr_dup_snapshots.proofs.record.put_lane.Given as goal

-- the octets of the lane so far
abbrev pub invariant-loop-place : goal.invariant-loop-place
invariant-loop-place g l = record {
  octets : l.out.items ≡ l.fn.out.items ++ map (lane_octet (window_of l.seen).marks l.lane) (range_with_len 0 l.place);
  len : vec_len l.out ≡ vec_len l.fn.out + l.place;
  capacity : vec_capacity l.fn.out ≤ vec_capacity l.out;
}
