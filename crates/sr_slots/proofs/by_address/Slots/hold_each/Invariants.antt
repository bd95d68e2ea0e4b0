use Rattle.std.proofs.Common.{◌≡◌, ◌||◌}
use Rattle.std.specs.List.{list_any}
use Rattle.sr_frame.specs.declared.fields.Mac.{Mac}
use Rattle.sr_frame.specs.Addresses.{mac_eq}
use Rattle.sr_slots.specs.Places.{held_of}
use Rattle.sr_slots.proofs.by_address.Slots.hold_each.Given as goal

-- what is held so far, and what is held of the rest, are together what is held of all
abbrev pub invariant-loop-key : goal.invariant-loop-key
invariant-loop-key g l = record {
  entries : l.self.entries ≡ l.fn.self.entries;
  together : (m : Mac) → (list_any (mac_eq m) l.self.held || list_any (mac_eq m) (held_of l.key-iterator)) ≡ list_any (mac_eq m) (held_of l.fn.places);
}
