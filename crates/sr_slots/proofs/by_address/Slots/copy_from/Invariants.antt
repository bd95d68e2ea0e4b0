use Rattle.std.proofs.Common.{◌≡◌, ◌++◌}
use Rattle.std.specs.List.{IsDistinct}
use Rattle.std.specs.Map.{keys_of}
use Rattle.sr_frame.specs.Addresses.{mac_eq}
use Rattle.sr_slots.proofs.by_address.Slots.copy_from.Given as goal

-- what was added, and what is left, are the entries, in which no address stands twice
abbrev pub invariant-loop-key : goal.invariant-loop-key
invariant-loop-key g l = record {
  together : l.self.entries ++ l.key-iterator ≡ l.other.entries;
  unique : IsDistinct mac_eq (keys_of l.other.entries);
}
