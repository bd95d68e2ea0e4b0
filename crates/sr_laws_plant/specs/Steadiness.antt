-- What comes in at a member of a plant, and that it is steady.
use Rattle.std.specs.Prelude.{ℕ, ◌-◌, Bool, false, ◌==◌, List, [], ◌∷◌, ℤ, pos, ◌+ℤ◌, ◌≤ℤ◌, if◌then◌else◌}
use Rattle.sr_frame.specs.declared.fields.Mac.{Mac}
use Rattle.sr_laws_dup.specs.TableRuns.{Arrival, epoch, greatest_of, AreSteady}
use Rattle.sr_laws_plant.specs.Handlings.{Handling, is_sending, AreConsistent}
use Rattle.sr_laws_plant.specs.Widths.{Widths, AreWidths}
use Rattle.sr_laws_plant.specs.Premises.{AreAddressed, AreOfMembers, AreWithinLimits}

-- a frame came in at this member
abbrev pub is_arrival_at : ℕ → Handling → Bool
is_arrival_at k d = if is_sending d then false else k == d.node

-- as the member's table is shown it: by its source's address
abbrev pub arrival_of : (ℕ → Mac) → Handling → Arrival
arrival_of mac d = record { src = mac d.frame.src; number = pos d.frame.number; time = d.time }

-- all that came in at a member
abbrev pub arrivals_at : (ℕ → Mac) → ℕ → List Handling → List Arrival
arrivals_at mac k [] = []
arrivals_at mac k (d ∷ ds) = if is_arrival_at k d then arrival_of mac d ∷ arrivals_at mac k ds else arrivals_at mac k ds

-- a number lies at most 65536 - w - 1 above the greatest of its epoch, where w numbers are remembered: one less than a steady run allows
abbrev pub IsClose : ℕ → List Arrival → ℤ → Type 0
IsClose w [] number = Unit {0}
IsClose w (x ∷ xs) number = number ≤ℤ (greatest_of (x ∷ xs) +ℤ pos (65536 - w - 1))

-- so does each of them
abbrev pub AreClose : ℕ → List Arrival → Type 0
AreClose w [] = Unit {0}
AreClose w (x ∷ before) = AreClose w before × IsClose w (epoch x.src x.time before) x.number

-- the run of each member is steady at its own width, with a number to spare
abbrev pub AllSteady : Widths → (ℕ → Mac) → List Handling → Type 0
AllSteady ws mac ds = (k : ℕ) → AreSteady (ws.at k) (arrivals_at mac k ds) × AreClose (ws.at k) (arrivals_at mac k ds)

-- Whatever the plant: members that are addressed, and traffic within the limits, make the run of each member steady.
abbrev pub MembersAreSteady : Type 0
MembersAreSteady =
    (n : ℕ) (mac : ℕ → Mac) (ws : Widths) (ds : List Handling) → AreWidths ws → AreAddressed mac n → AreOfMembers n ds →
    AreConsistent ds → AreWithinLimits ws ds → AllSteady ws mac ds
