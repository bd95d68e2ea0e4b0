-- Ways through a ring and two LANs, part by part.
use Rattle.std.specs.Prelude.{◌≡◌, ℕ, ◌⊎◌, Bool, true, false, List, [], ◌∷◌}
use Rattle.sr_frame.specs.declared.fields.Mac.{Mac}
use Rattle.sr_dup_window.specs.declared.lane_sets.Lanes.{Lanes}
use Rattle.sr_laws_plant.specs.Frames.{Frame}
use Rattle.sr_laws_plant.specs.Handlings.{Handling}
use Rattle.sr_laws_plant.specs.Ideal.{IsIdeal, IsHanded}
use Rattle.sr_laws_plant.specs.PlantEvents.{Plant, IsQuiet, History, turns, done_in}
use Rattle.sr_laws_plant.specs.RingLans.{Shape, is_in_ring, ring_lan, ring_of, IsBrought, RingLanPremises}
use Rattle.sr_laws_plant.specs.RingParts.{Way, IsWhole}
use Rattle.sr_laws_plant.specs.TwinLans.{IsWholeInLans}
use Rattle.sr_laws_plant.specs.Widths.{Widths}

-- one part of a way: an arc of so many links and one more to a member of the ring, or the LANs to a doubly attached node or to a box
pub data LanPart : Type 0 where
  round : (way : Way) (links to : ℕ) → LanPart
  across : (to : ℕ) → LanPart

-- The LANs are whole for a member: not all copies made for it were lost, of a doubly attached node in both LANs together, of a box at its
-- interlink. With no copy made they are not.
abbrev pub IsWholeAcross : Shape → History → Frame → ℕ → Type 0
IsWholeAcross s es f k = ((is_in_ring s k ≡ false) × IsWholeInLans (ring_lan s) f (turns es) k) ⊎ IsBrought s es f k

-- A chain of such parts from i to j, each of which is whole: arcs begin in the ring.
abbrev pub IsWholeChain : Shape → History → Frame → ℕ → List LanPart → ℕ → Type 0
IsWholeChain s es f i [] j = i ≡ j
IsWholeChain s es f i (round w m k ∷ parts) j =
    (is_in_ring s i ≡ true) × IsWhole (ring_lan s) (ring_of s) f (turns es) w i m k × IsWholeChain s es f k parts j
IsWholeChain s es f i (across k ∷ parts) j = IsWholeAcross s es f k × IsWholeChain s es f k parts j

-- What is ideal for a member, and has a whole chain to it from its source, is handed up: under all premises, with nothing in flight, and in
-- whichever modes. So no other way is meant than `HasWholeWay` tells, however often a way changes between ring and LANs.
abbrev pub WholeChainsBring : Type 0
WholeChainsBring =
    (s : Shape) (mac : ℕ → Mac) (x : ℕ → Bool) (ws : Widths) (lanes : Handling → Lanes) (es : History) (p : Plant) →
    RingLanPremises s mac x ws lanes es p → IsQuiet p → (f : Frame) (j : ℕ) → IsIdeal j f (done_in es) → (parts : List LanPart) →
    IsWholeChain s es f f.src parts j → IsHanded j f (done_in es)
