use Rattle.std.proofs.Common.{◌≡◌, ◌+◌, vec_len, vec_items}
use Rattle.std.specs.Vec.Iter.{into_iter_items, into_iter_len}
use Rattle.sr_threaded.proofs.Zipped.{Splitting}
use Rattle.sr_threaded.proofs.lists.split_all.Given as goal

abbrev pub invariant-loop-item : goal.invariant-loop-item
invariant-loop-item g l =
    goal.S-IsAlwaysCallable g l.split
    × (vec_len l.first + into_iter_len l.item-iterator ≡ vec_len l.fn.items)
    × (vec_len l.second + into_iter_len l.item-iterator ≡ vec_len l.fn.items)
    × Splitting (λ x a b. goal.S-post g l.split x (a, b)) (vec_items l.fn.items) (into_iter_items l.item-iterator) (vec_items l.first) (vec_items l.second)
