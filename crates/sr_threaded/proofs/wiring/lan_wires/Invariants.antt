use Rattle.std.proofs.Common.{◌≡◌, vec_len, vec_items}
use Rattle.sr_threaded.specs.Joined.{AreAllUnused, IsLan, lan_wires}
use Rattle.sr_threaded.proofs.wiring.lan_wires.Given as goal

abbrev pub invariant-loop-node : goal.invariant-loop-node
invariant-loop-node l = (vec_len l.rows ≡ l._node) × IsLan (lan_wires (vec_items l.rows)) × AreAllUnused (vec_items l.rows)
