use Rattle.std.proofs.Common.{◌≡◌}
use Rattle.sr_node_table.specs.Equality.{same_entries}
use Rattle.sr_node_table.proofs.equality.same_entries.Given as goal

-- the entries that are left say whether all are the same
abbrev pub invariant-loop-mac : goal.invariant-loop-mac
invariant-loop-mac l = same_entries l.mac-iterator l.other ≡ same_entries l.fn.one l.fn.other
