use Rattle.std.proofs.Common.{◌≡◌, length}
use Rattle.sr_slots.specs.Places.{entries_of}
use Rattle.sr_slots.proofs.entries.IterIterator.next.Given as goal

-- only places without a value were passed over
abbrev pub invariant-loop-key : goal.invariant-loop-key
invariant-loop-key g l = entries_of l.self-inside.places ≡ l.fn.self

abbrev pub decreases-loop-key : goal.decreases-loop-key
decreases-loop-key g l = length l.self-inside.places
