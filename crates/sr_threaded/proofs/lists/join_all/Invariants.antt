use Rattle.std.proofs.Common.{◌≡◌, ◌+◌, vec_len, vec_items}
use Rattle.std.specs.Vec.Iter.{into_iter_items, into_iter_len}
use Rattle.sr_threaded.proofs.Zipped.{Joining}
use Rattle.sr_threaded.proofs.lists.join_all.Given as goal

abbrev pub invariant-loop-a : goal.invariant-loop-a
invariant-loop-a g l =
    goal.J-IsAlwaysCallable g l.join
    × (vec_len l.all + into_iter_len l.a-iterator ≡ vec_len l.fn.first)
    × (vec_len l.all + into_iter_len l.others ≡ vec_len l.fn.second)
    × Joining (λ a b x. goal.J-post g l.join a b x) (vec_items l.fn.first) (vec_items l.fn.second) (into_iter_items l.a-iterator) (into_iter_items l.others) (vec_items l.all)
