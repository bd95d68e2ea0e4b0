use Rattle.std.proofs.Common.{◌≡◌, ◌+◌, vec_len, vec_items}
use Rattle.std.specs.Prelude.{All}
use Rattle.std.specs.Vec.Iter.{into_iter_items, into_iter_len}
use Rattle.sr_lines.specs.Names.{all_wires}
use Rattle.sr_threaded.specs.Joined.{AreAllUnused, IsUnused, lan_wires}
use Rattle.sr_threaded.proofs.Joining.{Adding}
use Rattle.sr_threaded.proofs.wiring.with_node.Given as goal

abbrev pub invariant-loop-row : goal.invariant-loop-row
invariant-loop-row l =
    (vec_len l.all + into_iter_len l.row-iterator ≡ vec_len l.fn.rows)
    × Adding (lan_wires (vec_items l.fn.rows)) (lan_wires (into_iter_items l.row-iterator)) (lan_wires (vec_items l.all)) (all_wires (vec_items l.own))
    × AreAllUnused (into_iter_items l.row-iterator)
    × AreAllUnused (vec_items l.all)
    × All (λ e. IsUnused e) (vec_items l.own)
