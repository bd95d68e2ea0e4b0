-- What a pass over captures is given.
use Rattle.std.specs.Prelude.{◌≡◌, ℕ, ◌-◌, ◌^◌, min, map, filter, Bool, true, false, ◌⊎◌, List}
use Rattle.std.specs.List.{FoldsTo}
use Rattle.sr_capture.specs.Records.{Captured, Shows}
use Rattle.sr_capture.specs.declared.packet.Packet.{Packet}
use Rattle.sr_capture_script.specs.declared.captures.Front.{Front}
use Rattle.sr_capture_script.specs.declared.choice.Choice.{Choice}
use Rattle.sr_capture_script.specs.declared.choice.Inlet.{Inlet}
use Rattle.sr_capture_script.specs.declared.fault.ScriptFault.{ScriptFault}
use Rattle.sr_capture_script.specs.declared.fault.ScriptFault.TheVariants.{File, Write, NoMemory, Endless}
use Rattle.sr_capture_script.specs.declared.passing.Place.{Place}
use Rattle.sr_capture_script.specs.Coming.{AllCame, CameUpTo}
use Rattle.sr_capture_script.specs.Items.{Item}
use Rattle.sr_capture_script.specs.Merging.{Feed}
use Rattle.sr_capture_script.specs.Texts.{is_wanted, time_since, base_of}

-- a packet as a pass is given it: where it came in, its number there, and its time from the first packet on, in nanoseconds
pub record Handed : Type 0 where
  pub inlet : Inlet
  pub number : ℕ
  pub time : ℕ
  pub packet : Captured

abbrev pub given_at : ℕ → Item → Handed
given_at start item =
    record { inlet = item.inlet; number = min item.number (2 ^ 64 - 1); time = item.moment - start; packet = item.packet }

-- whether a packet is wanted, where times are counted from a start
abbrev pub is_wanted_at : Choice → ℕ → Item → Bool
is_wanted_at choice start item = is_wanted choice (time_since start item.moment)

-- the packets of all files that are wanted, in order; times are counted from the first packet of all, whether it is wanted or not
abbrev pub wanted_from : Choice → ℕ → List Item → List Handed
wanted_from choice start items = map (given_at start) (filter (is_wanted_at choice start) items)

abbrev pub wanted : Choice → List Item → List Handed
wanted choice items = wanted_from choice (base_of items) items

-- this packet is the one that is shown, of this place
pub record IsHandedAs (place : Place) (shown : Packet) (x : Handed) : Type 0 where
  pub inlet : x.inlet ≡ place.inlet
  pub number : x.number ≡ place.number
  pub time : x.time ≡ place.time
  pub shows : Shows shown x.packet

-- this packet is the one that is due, and is shown
pub record IsItemAt (front : Front) (shown : Packet) (item : Item) : Type 0 where
  pub at : item.inlet ≡ front.inlet
  pub when : item.moment ≡ front.moment
  pub number : front.number ≡ min item.number (2 ^ 64 - 1)
  pub shows : Shows shown item.packet

-- a packet is taken if it is wanted; else nothing changes
abbrev pub TakesIf : {P : Type 0} → (P → Handed → P → Type 0) → Bool → Handed → P → P → Type 0
TakesIf takes true x old new = takes old x new
TakesIf takes false x old new = new ≡ old

-- a pass takes each packet of three files that is wanted, once, in order of time
pub record TakesWanted {P : Type 0} (takes : P → Handed → P → Type 0) (choice : Choice) (x y z : Feed) (old new : P) : Type 0 where
  pub merged : List Item
  pub came : AllCame x y z merged
  pub taken : FoldsTo takes old (wanted choice merged) new

-- a fault of going over captures: of a file, behind all of its packets that came, or behind more packets than are counted
abbrev pub IsOfCaptures : Feed → Feed → Feed → ScriptFault → Type 0
IsOfCaptures x y z (File inlet fault) = (out : List Item) × CameUpTo (File inlet fault) x y z out
IsOfCaptures x y z Endless = (out : List Item) × CameUpTo Endless x y z out
IsOfCaptures x y z Write = ⊥
IsOfCaptures x y z NoMemory = ⊥

-- why a pass ends early: for a fault of the captures, or of its own
abbrev pub EndsFor : (ScriptFault → Type 0) → Feed → Feed → Feed → ScriptFault → Type 0
EndsFor refuses x y z fault = IsOfCaptures x y z fault ⊎ refuses fault
