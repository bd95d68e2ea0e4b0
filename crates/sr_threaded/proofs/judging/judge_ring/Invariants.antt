use Rattle.std.proofs.Common.{◌≡◌, ◌<◌, ◌≤◌, ℕ, length, vec_len, vec_capacity, vec_items, get_or}
use Rattle.sr_forwarding.specs.Limits.{longest_frame}
use Rattle.sr_threaded.specs.Judged.{IsJudged, before, behind}
use Rattle.sr_threaded.proofs.judging.judge_ring.Given as goal

abbrev pub invariant-loop-i : goal.invariant-loop-i
invariant-loop-i g l =
    (vec_len l.all ≡ l.i)
    × (longest_frame ≤ vec_capacity l.buffer)
    × ((k : ℕ) (e : _) (j : _) → k < l.i → IsJudged
    (get_or l.fn.ends (before k (length l.fn.ends)) e).logs.items
    (get_or l.fn.ends k e).logs.items
    (get_or l.fn.ends (behind k (length l.fn.ends)) e).logs.items
    (get_or (vec_items l.all) k j))
