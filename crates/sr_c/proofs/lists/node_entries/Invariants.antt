use Rattle.std.proofs.Common.{◌≡◌, take}
use Rattle.std.specs.Prelude.{map}
use Rattle.sr_c.specs.Entries.{node_entry}
use Rattle.sr_c.proofs.lists.node_entries.Given as goal

-- the entries so far
abbrev pub invariant-loop-status : goal.invariant-loop-status
invariant-loop-status l = l.entries.items ≡ map node_entry (take l.status-index l.told)
