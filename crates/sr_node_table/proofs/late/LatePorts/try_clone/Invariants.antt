use Rattle.std.proofs.Common.{Some}
use Rattle.sr_node_table.proofs.WatchLemmas.{Finds}
use Rattle.sr_node_table.proofs.late.LatePorts.try_clone.Given as goal

-- the ports so far
abbrev pub invariant-loop-mac : goal.invariant-loop-mac
invariant-loop-mac l = Finds (λ e. Some e.1) l.self.ports l.own.ports l.own.room l.initial.own.room l.mac-iterator
