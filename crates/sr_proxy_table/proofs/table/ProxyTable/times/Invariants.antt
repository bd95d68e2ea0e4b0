use Rattle.std.proofs.Common.{◌≡◌, ◌++◌}
use Rattle.sr_proxy_table.specs.Proxied.{times_of}
use Rattle.sr_proxy_table.proofs.table.ProxyTable.times.Given as goal

-- what was gathered, and what the rest gives
abbrev pub invariant-loop-mac : goal.invariant-loop-mac
invariant-loop-mac l = l.times.items ++ times_of l.mac-iterator ≡ times_of l.self
