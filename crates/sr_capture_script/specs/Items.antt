-- The packets of files, merged by time.
use Rattle.std.specs.Prelude.{◌≡◌, ℕ, ◌+◌, ◌*◌, ◌≤◌, List, [], ◌∷◌, Bool, true, false, max, filter, Option, Some, None}
use Rattle.sr_capture.specs.Records.{Captured}
use Rattle.sr_capture_script.specs.declared.choice.Inlet.{Inlet}
use Rattle.sr_capture_script.specs.declared.choice.Inlet.TheVariants.{A, B, C}

-- a packet of a file: where it came in, its number in the file from 1 on, and its moment in nanoseconds
pub record Item : Type 0 where
  pub inlet : Inlet
  pub number : ℕ
  pub moment : ℕ
  pub packet : Captured

-- a packet's moment: its time put off, but not before the packet ahead of it
abbrev pub moment_of : ℕ → ℕ → Captured → ℕ
moment_of delay last packet = max last (packet.time + delay)

-- the packets of a file with their numbers and moments
abbrev pub items_from : Inlet → ℕ → ℕ → ℕ → List Captured → List Item
items_from inlet delay last number [] = []
items_from inlet delay last number (packet ∷ packets) =
    record { inlet = inlet; number = number; moment = moment_of delay last packet; packet = packet }
    ∷ items_from inlet delay (moment_of delay last packet) (number + 1) packets

-- all packets of a file
abbrev pub items_of : Inlet → ℕ → List Captured → List Item
items_of inlet delay packets = items_from inlet delay 0 1 packets

-- A goes before B, and B before C
abbrev pub rank : Inlet → ℕ
rank A = 0
rank B = 1
rank C = 2

-- the order of packets: by moment, and then by inlet
abbrev pub key_of : Inlet → ℕ → ℕ
key_of inlet moment = moment * 4 + rank inlet

abbrev pub is_same : Inlet → Inlet → Bool
is_same A A = true
is_same B B = true
is_same C C = true
is_same inlet other = false

-- those that came in at an inlet, in order
abbrev pub came_at : Inlet → List Item → List Item
came_at inlet items = filter (λ item. is_same inlet item.inlet) items

-- each of these comes at this place of the order or behind it
abbrev pub AllFrom : ℕ → List Item → Type 0
AllFrom key [] = Unit {0}
AllFrom key (x ∷ xs) = (key ≤ key_of x.inlet x.moment) × AllFrom key xs

-- no item is before one that stands ahead of it
abbrev pub IsInOrder : List Item → Type 0
IsInOrder [] = Unit {0}
IsInOrder (x ∷ xs) = AllFrom (key_of x.inlet x.moment) xs × IsInOrder xs

-- the items are those of three files, each once, in order of time, and each file's in its own order
pub record IsMerge (a b c merged : List Item) : Type 0 where
  pub at_a : came_at A merged ≡ a
  pub at_b : came_at B merged ≡ b
  pub at_c : came_at C merged ≡ c
  pub order : IsInOrder merged

-- each comes at this place of the order or ahead of it
abbrev pub AllTo : ℕ → List Item → Type 0
AllTo key [] = Unit {0}
AllTo key (x ∷ xs) = (key_of x.inlet x.moment ≤ key) × AllTo key xs

-- nothing comes behind what is due
abbrev pub AllToDue : Inlet → Option ℕ → List Item → Type 0
AllToDue inlet None items = Unit {0}
AllToDue inlet (Some m) items = AllTo (key_of inlet m) items
