use Rattle.std.proofs.Common.{◌≡◌, ◌+◌, ◌<◌, ℕ, vec_len, vec_items, get_or}
use Rattle.std.specs.Vec.Iter.{into_iter_items, into_iter_len}
use Rattle.sr_workers.specs.Crews.{IsStartOf}
use Rattle.sr_workers.proofs.crew.start_all.Given as goal

abbrev pub invariant-loop-kit : goal.invariant-loop-kit
invariant-loop-kit g l =
    let rest = l.kit-iterator in
    (vec_len l.handles ≡ l.number)
    × (l.number + into_iter_len rest ≡ vec_len l.fn.kits)
    × ((k j : ℕ) (d : _) → k < into_iter_len rest → j ≡ l.number + k → get_or (into_iter_items rest) k d ≡ get_or (vec_items l.fn.kits) j d)
    × ((i : ℕ) (k : _) (h : _) → i < l.number → IsStartOf l.turns (get_or (vec_items l.fn.kits) i k) (get_or (vec_items l.handles) i h).promise)
