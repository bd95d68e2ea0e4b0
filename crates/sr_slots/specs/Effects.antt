-- What a call leaves of the places of the map.
use Rattle.std.specs.Prelude.{◌≡◌, ℕ, ◌+◌, ◌≤◌, Bool, true, false, not, if◌then◌else◌, List, [], ◌∷◌, ◌++◌, length}
use Rattle.std.specs.List.{list_any}
use Rattle.std.specs.Borrow.{MutBor}
use Rattle.std.specs.Fn.{Once}
use Rattle.sr_frame.specs.declared.fields.Mac.{Mac}
use Rattle.sr_frame.specs.Addresses.{mac_eq}
use Rattle.sr_slots.specs.declared.places.Slot.{Slot}
use Rattle.sr_slots.specs.Places.{entries_of, held_of, held_but, entries_from, KeepsHeld}
use Rattle.sr_slots.specs.Calls.{ChangesAt}

-- a place is held for this address, and none was before or one was; the entries are the same, and so are the other held places
pub record HoldsPlace {V : Type 0} (key : Mac) (newly : Bool) (old new : List (Mac × Slot V)) : Type 0 where
  pub entries : entries_of new ≡ entries_of old
  pub held : list_any (mac_eq key) (held_of new) ≡ true
  pub len : length (held_of new) ≡ length (held_of old) + (if newly then 1 else 0)
  pub newly_is : newly ≡ not (list_any (mac_eq key) (held_of old))
  pub others : KeepsHeld (held_of old) (held_of new) key
  pub rest : held_but (held_of new) key ≡ held_but (held_of old) key
  pub again : newly ≡ false → held_of new ≡ held_of old

-- this address has this value, which goes last; a held place of the address is used up, and the other held places are the same
pub record PutsLast {V : Type 0} (key : Mac) (value : V) (was_held : Bool) (old new : List (Mac × Slot V)) : Type 0 where
  pub entries : entries_of new ≡ entries_of old ++ (key, value) ∷ []
  pub held : length (held_of new) + (if was_held then 1 else 0) ≡ length (held_of old)
  pub others : KeepsHeld (held_of old) (held_of new) key
  pub used : list_any (mac_eq key) (held_of new) ≡ false

-- the value at this address was changed; a held place of the address is used up, and the other held places are the same
pub record ChangesPlace {F V R : Type 0} (g : Once F (MutBor V × Unit {0}) (R × (MutBor V × Unit {0}))) (f : F) (key : Mac)
    (answer : R) (was_held : Bool) (old new : List (Mac × Slot V)) : Type 0 where
  pub changed : ChangesAt g f key (entries_of old) answer (entries_of new)
  pub len : length (entries_of new) ≡ length (entries_of old)
  pub held : length (held_of new) + (if was_held then 1 else 0) ≡ length (held_of old)
  pub others : KeepsHeld (held_of old) (held_of new) key
  pub used : list_any (mac_eq key) (held_of new) ≡ false

-- the place that stood between these stands behind all values and before the places without one, at this index
pub record Settles {V : Type 0} (front : List (Mac × Slot V)) (place : Mac × Slot V) (back new : List (Mac × Slot V)) (at : ℕ) :
    Type 0 where
  pub before : List (Mac × Slot V)
  pub behind : List (Mac × Slot V)
  pub is : new ≡ before ++ place ∷ behind
  pub at_is : length before ≡ at
  pub entries : entries_of before ≡ entries_of (front ++ back)
  pub empty : entries_of behind ≡ []
  pub len : length (held_of (before ++ behind)) ≡ length (held_of (front ++ back))
  pub held : (m : Mac) → list_any (mac_eq m) (held_of (before ++ behind)) ≡ list_any (mac_eq m) (held_of (front ++ back))

-- the address has a place, at this index; nothing that shows is another than before
pub record GetsPlace {V : Type 0} (key : Mac) (old new : List (Mac × Slot V)) (index : ℕ) : Type 0 where
  pub front : List (Mac × Slot V)
  pub slot : Slot V
  pub back : List (Mac × Slot V)
  pub is : new ≡ front ++ (key, slot) ∷ back
  pub at : length front ≡ index
  pub entries : entries_of new ≡ entries_of old
  pub held : held_of new ≡ held_of old
  pub from : (n : ℕ) → entries_from n new ≡ entries_from n old
  pub longer : length old ≤ length new

-- places that show nothing may have come behind all
pub record AddsGap {V : Type 0} (old new : List (Mac × Slot V)) : Type 0 where
  pub gap : List (Mac × Slot V)
  pub is : new ≡ old ++ gap
  pub entries : entries_of gap ≡ []
  pub held : held_of gap ≡ []
