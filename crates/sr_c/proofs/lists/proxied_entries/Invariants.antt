use Rattle.std.proofs.Common.{◌≡◌, take}
use Rattle.std.specs.Prelude.{map}
use Rattle.sr_c.specs.Entries.{proxied_entry}
use Rattle.sr_c.proofs.lists.proxied_entries.Given as goal

-- the entries so far
abbrev pub invariant-loop-proxied : goal.invariant-loop-proxied
invariant-loop-proxied l = l.entries.items ≡ map proxied_entry (take l.proxied-index l.told)
