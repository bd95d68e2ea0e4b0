use Rattle.std.proofs.Common.{◌≡◌, ◌+◌, vec_len, vec_items}
use Rattle.sr_lines.specs.Names.{end_wires}
use Rattle.sr_threaded.specs.Joined.{ring_wires, IsUnused, AllUnused}
use Rattle.sr_threaded.proofs.Joining.{Leads}
use Rattle.sr_threaded.proofs.wiring.ring_wires.Given as goal

abbrev pub invariant-loop-next : goal.invariant-loop-next
invariant-loop-next l =
    (vec_len l.all + 1 ≡ l._next)
    × Leads (end_wires l.last_b) (ring_wires (vec_items l.all)) (end_wires l.at_a)
    × AllUnused (vec_items l.all)
    × IsUnused l.at_a
    × IsUnused l.last_b
