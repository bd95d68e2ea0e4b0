use Rattle.std.proofs.Common.{◌≡◌, ◌+◌, ◌++◌, Ok, map, vec_len, vec_items}
use Rattle.std.specs.Vec.Iter.{into_iter_items, into_iter_len}
use Rattle.sr_threaded.proofs.lists.all_of.Given as goal

abbrev pub invariant-loop-outcome : goal.invariant-loop-outcome
invariant-loop-outcome g l =
    (vec_len l.all + into_iter_len l.outcome-iterator ≡ vec_len l.fn.outcomes)
    × (vec_items l.fn.outcomes ≡ map (λ x. Ok x) (vec_items l.all) ++ into_iter_items l.outcome-iterator)
