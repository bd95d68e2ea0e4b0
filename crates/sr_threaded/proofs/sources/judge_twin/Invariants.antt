use Rattle.std.proofs.Common.{◌≡◌, ◌<◌, ◌≤◌, ℕ, vec_len, vec_capacity, vec_items, get_or}
use Rattle.sr_forwarding.specs.Limits.{longest_frame}
use Rattle.sr_threaded.specs.Sources.{IsJudgedInLans}
use Rattle.sr_threaded.proofs.sources.judge_twin.Given as goal

abbrev pub invariant-loop-i : goal.invariant-loop-i
invariant-loop-i g l =
    (vec_len l.all ≡ l.i)
    × (longest_frame ≤ vec_capacity l.buffer)
    × ((k : ℕ) (e : _) (j : _) → k < l.i → IsJudgedInLans l.fn.ends (get_or l.fn.ends k e) (get_or (vec_items l.all) k j))
