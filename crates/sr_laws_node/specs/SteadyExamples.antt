-- Steady runs: frames whose copies come in late, and over the end of the numbers, at a node of a PRP network or of a ring.
use Rattle.std.specs.Prelude.{◌≡◌, ℕ, ℤ, false, List, [], ◌∷◌, None, Some}
use Rattle.std.specs.Map.{lookup}
use Rattle.sr_frame.specs.declared.fields.Mac.{Mac}
use Rattle.sr_frame.specs.declared.ports.Port.{Port}
use Rattle.sr_frame.specs.declared.ports.Port.TheVariants.{C}
use Rattle.sr_frame.specs.Addresses.{mac_eq}
use Rattle.sr_sequence.specs.Numbers.{wire}
use Rattle.sr_laws_dup.specs.TableRuns.{NumbersAreSteady}
use Rattle.sr_forwarding.specs.Parcels.{ParcelImage}
use Rattle.sr_forwarding.specs.Headers.{header_of}
use Rattle.sr_node.specs.declared.event.Event.TheVariants as event
use Rattle.sr_node.specs.Images.{State, time_at}
use Rattle.sr_laws_node.specs.Origins.{Origin, first_state, BeginsAs, HasTops}
use Rattle.sr_laws_node.specs.NodeRuns.{Turn, happened, swapped}
use Rattle.sr_laws_node.specs.Brought.{is_at}
use Rattle.sr_laws_node.specs.SteadyNodes.{IsSteadyFrom}

-- a frame of another source with the 16 bits of this number comes in at A or B at this moment
pub record IsFrameOf (src : Mac) (now : ℕ) (n : ℤ) (s : State) (port : Port) (p : ParcelImage) (at : ℕ) : Type 0 where
  pub source : (header_of p).src ≡ src
  pub other : mac_eq src s.role.mac ≡ false
  pub ring : is_at C port ≡ false
  pub moment : time_at s at ≡ now
  pub seq : p.seq ≡ Some (record { 0 = wire n })

abbrev pub ComesIn : Mac → ℕ → ℤ → Turn → Type 0
ComesIn src now number (happened s (event.Arrive port p at) a n) = (n ≡ number) × IsFrameOf src now number s port p at
ComesIn src now number (happened s (event.Send octets at) a n) = ⊥
ComesIn src now number (happened s (event.Tick at) a n) = ⊥
ComesIn src now number (happened s (event.Take port) a n) = ⊥
ComesIn src now number (swapped s r) = ⊥

-- the turns are such frames with these numbers, the newest first
abbrev pub ComeIn : Mac → ℕ → List ℤ → List Turn → Type 0
ComeIn src now [] [] = Unit {0}
ComeIn src now [] (turn ∷ before) = ⊥
ComeIn src now (n ∷ ns) [] = ⊥
ComeIn src now (n ∷ ns) (turn ∷ before) = ComesIn src now n turn × ComeIn src now ns before

-- what stands before a run is steady by itself, whatever the whole numbers of its greatest ones
abbrev pub OriginsAreSteady : Type 0
OriginsAreSteady = (origin : Origin) (s : State) → BeginsAs origin s → HasTops origin → IsSteadyFrom origin []

-- numbers that are steady at a table are steady at every node that begins with nothing of their source, by whatever ports, whatever its
-- role, mode and width
abbrev pub AreSteadyAtNodes : Type 0
AreSteadyAtNodes =
    (numbers : List ℤ) → NumbersAreSteady numbers
    → (origin : Origin) (src : Mac) (now : ℕ) (turns : List Turn)
    → IsSteadyFrom origin [] → lookup (mac_eq src) (first_state origin).core.sources ≡ None
    → ComeIn src now numbers turns → IsSteadyFrom origin turns
