-- The entries of a history as turns of a run.
use Rattle.std.specs.Prelude.{◌≡◌, ℕ, ℤ, List, [], ◌∷◌, ◌++◌, length}
use Rattle.sr_frame.specs.declared.ports.Port.{Port}
use Rattle.sr_forwarding.specs.Parcels.{ParcelImage}
use Rattle.sr_node.specs.Images.{State}
use Rattle.sr_node.specs.NodeImages.{image_state}
use Rattle.sr_laws_node.specs.NodeRuns.{Turn, happened, swapped}
use Rattle.sr_laws_node.specs.Brought.{event_takes}
use Rattle.sr_ports.specs.declared.entry.Entry.{Entry}
use Rattle.sr_ports.specs.declared.segment.Segment.{Segment}
use Rattle.sr_ports.specs.Histories.{EnteredAs}

-- Entries, the oldest first, lead from one state to another, and all turns, the newest first, are those before and one for each entry: it
-- has the state before the entry, its event and its answer, and the whole number that the numbering gives its place.
abbrev pub AreTurns : (ℕ → ℤ) → List Turn → State → List Entry → State → List Turn → Type 0
AreTurns number before s [] t turns = (t ≡ s) × (turns ≡ before)
AreTurns number before s (e ∷ es) t turns =
    (m : State) × EnteredAs s e.event e.answer m
    × AreTurns number (happened s e.event e.answer (number (length before)) ∷ before) m es t turns

-- the same of segments that go on from a state: before the entries of each the role is exchanged for that of its opening
abbrev pub AreTurnsBehind : (ℕ → ℤ) → List Turn → State → List Segment → List Turn → Type 0
AreTurnsBehind number before s [] turns = turns ≡ before
AreTurnsBehind number before s (g ∷ gs) turns =
    (middle : List Turn)
    × AreTurns number (swapped s g.opening.role ∷ before) (image_state g.opening) g.entries.items (image_state g.closing) middle
    × AreTurnsBehind number middle (image_state g.closing) gs turns

-- the same of a segment and those behind it
abbrev pub AreTurnsOfAll : (ℕ → ℤ) → Segment → List Segment → List Turn → Type 0
AreTurnsOfAll number g gs turns =
    (middle : List Turn)
    × AreTurns number [] (image_state g.opening) g.entries.items (image_state g.closing) middle
    × AreTurnsBehind number middle (image_state g.closing) gs turns

-- the node at the end of segments that go on from a state
abbrev pub state_behind : State → List Segment → State
state_behind s [] = s
state_behind s (g ∷ gs) = state_behind (image_state g.closing) gs

-- what entries took out at an outlet, in order
abbrev pub handed_out : Port → List Entry → List ParcelImage
handed_out o [] = []
handed_out o (e ∷ es) = event_takes o e.event e.answer ++ handed_out o es
