use Rattle.std.proofs.Common.{◌≡◌, ◌++◌}
use Rattle.std.specs.Map.{keys_of}
use Rattle.sr_watch.proofs.table.Table.addresses.Given as goal

abbrev pub invariant-loop-src : goal.invariant-loop-src
invariant-loop-src l = l.addresses.items ++ keys_of l.src-iterator ≡ keys_of l.self.sources.entries
