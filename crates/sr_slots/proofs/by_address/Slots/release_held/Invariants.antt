use Rattle.std.proofs.Common.{◌≡◌, [], length}
use Rattle.sr_slots.specs.Places.{entries_of, entries_from, held_of}
use Rattle.sr_slots.proofs.by_address.Slots.release_held.Given as goal

-- what the places show of values stays, and both are counted
abbrev pub invariant-loop-self : goal.invariant-loop-self
invariant-loop-self g l = record {
  count : l.self-inside.count ≡ length (entries_of l.self-inside.map.entries);
  held : l.self-inside.held ≡ length (held_of l.self-inside.map.entries);
  ends : entries_from l.self-inside.end l.self-inside.map.entries ≡ [];
  entries : entries_of l.self-inside.map.entries ≡ l.fn.self.entries;
}

abbrev pub decreases-loop-self : goal.decreases-loop-self
decreases-loop-self g l = l.self-inside.held
