-- What a table of addresses shows: its entries in order, and the addresses whose place is held.
use Rattle.std.specs.Prelude.{◌≡◌, ◌-◌, Bool, true, false, not, List, [], ◌∷◌, ◌++◌, length, filter, drop, slice_get}
use Rattle.std.specs.Prelude.{ℕ, is_some, Option, None, Some}
use Rattle.std.specs.List.{list_any}
use Rattle.std.specs.Map.{lookup, set_value, values_of}
use Rattle.indexmap.specs.IndexMap.{set_value_at}
use Rattle.sr_frame.specs.declared.fields.Mac.{Mac}
use Rattle.sr_frame.specs.Addresses.{mac_eq}
use Rattle.sr_slots.specs.declared.places.Slot.{Slot}

-- the addresses with their values, in the order in which they came, and the addresses whose place is held
pub record Places (V : Type 0) : Type 0 where
  pub entries : List (Mac × V)
  pub held : List Mac

-- whether a place is held for this address
abbrev pub is_held : {V : Type 0} → Places V → Mac → Bool
is_held places key = list_any (mac_eq key) places.held

-- the value at this address
abbrev pub value_at : {V : Type 0} → Places V → Mac → Option V
value_at places key = lookup (mac_eq key) places.entries

-- an address for which a hint was found has a value
abbrev pub IsFound : {S V : Type 0} → Option S → List (Mac × V) → Mac → Type 0
IsFound hint entries key = is_some hint ≡ true → is_some (lookup (mac_eq key) entries) ≡ true

-- each other address has a held place as before
abbrev pub KeepsHeld : List Mac → List Mac → Mac → Type 0
KeepsHeld old new key = (other : Mac) → mac_eq other key ≡ false → list_any (mac_eq other) new ≡ list_any (mac_eq other) old

-- each address but these two has a held place as before
abbrev pub KeepsHeldBut : List Mac → List Mac → Mac → Mac → Type 0
KeepsHeldBut old new key second = (other : Mac) → mac_eq other key ≡ false → mac_eq other second ≡ false →
    list_any (mac_eq other) new ≡ list_any (mac_eq other) old

-- each address has a held place as before
abbrev pub KeepsAllHeld : List Mac → List Mac → Type 0
KeepsAllHeld old new = (other : Mac) → list_any (mac_eq other) new ≡ list_any (mac_eq other) old

-- the addresses whose place is held, but this one
abbrev pub held_but : List Mac → Mac → List Mac
held_but held key = filter (λ other. not (mac_eq key other)) held

-- what one place of the map shows of values, and of holding
abbrev pub entry_at : {V : Type 0} → Mac → Option V → List (Mac × V)
entry_at key None = []
entry_at key (Some value) = (key, value) ∷ []

abbrev pub held_at : Mac → Bool → List Mac
held_at key true = key ∷ []
held_at key false = []

-- what all places of the map show
abbrev pub entries_of : {V : Type 0} → List (Mac × Slot V) → List (Mac × V)
entries_of [] = []
entries_of (e ∷ es) = entry_at e.0 e.1.value ++ entries_of es

abbrev pub held_of : {V : Type 0} → List (Mac × Slot V) → List Mac
held_of [] = []
held_of (e ∷ es) = held_at e.0 e.1.held ++ held_of es

-- the place of an address is at this index: a look and a write there are a look and a write at the address
pub record StandsAt {X : Type 0} (key : Mac) (es : List (Mac × X)) (index : ℕ) : Type 0 where
  pub there : is_some (lookup (mac_eq key) es) ≡ true
  pub look : slice_get (values_of es) index ≡ lookup (mac_eq key) es
  pub write : (w : X) → set_value_at es index w ≡ set_value (mac_eq key) es w

-- what the places from this one on show of values
abbrev pub entries_from : {V : Type 0} → ℕ → List (Mac × Slot V) → List (Mac × V)
entries_from index es = entries_of (drop index es)

abbrev pub slot_of : {V : Type 0} → Option V → Bool → Slot V
slot_of value held = record { value = value; held = held }

-- this is what the last entry has
abbrev pub IsLast : {X : Type 0} → X → List (Mac × X) → Type 0
IsLast x es = (key : Mac) × (slice_get es (length es - 1) ≡ Some (key, x))
