-- Steady runs of a node: what is asked of the sources, numbers and times of the frames that come in.
use Rattle.std.specs.Prelude.{◌≡◌, ℕ, ℤ, Bool, true, false, List, [], ◌∷◌, ◌++◌, Option, None, Some, if◌then◌else◌}
use Rattle.sr_frame.specs.declared.fields.Mac.{Mac}
use Rattle.sr_sequence.specs.declared.Seq.{Seq}
use Rattle.sr_sequence.specs.Numbers.{wire}
use Rattle.sr_dup_table.specs.Widths.{numbers_in}
use Rattle.sr_laws_dup.specs.TableRuns.{Arrival, AreSteady, arrivals_of}
use Rattle.sr_forwarding.specs.Headers.{header_of}
use Rattle.sr_node.specs.declared.event.Event.{Event}
use Rattle.sr_node.specs.declared.event.Event.TheVariants as event
use Rattle.sr_node.specs.Images.{State, time_at}
use Rattle.sr_node.specs.Starts.{Start, width_of}
use Rattle.sr_node.specs.Arriving.{is_own, is_plain_at_interlink, going_on}
use Rattle.sr_laws_node.specs.Origins.{Origin, new, resumed, HasTops, stands_before}
use Rattle.sr_laws_node.specs.NodeRuns.{Turn, happened, swapped}
use Rattle.sr_laws_node.specs.Brought.{whole_number, number_if}

-- a number of the wire stands for this whole one
abbrev pub IsCarried : ℤ → Option Seq → Type 0
IsCarried n None = Unit {0}
IsCarried n (Some seq) = seq.0 ≡ wire n

-- unless the node gives it one
abbrev pub IsCarriedUnless : Bool → ℤ → Option Seq → Type 0
IsCarriedUnless true n seq = Unit {0}
IsCarriedUnless false n seq = IsCarried n seq

-- a frame that comes in with a number of its own is that of the turn's whole number
abbrev pub IsNumbered : ℤ → Event → Type 0
IsNumbered n (event.Arrive port p now) = IsCarriedUnless (is_plain_at_interlink port p.form) n p.seq
IsNumbered n (event.Send octets now) = Unit {0}
IsNumbered n (event.Tick now) = Unit {0}
IsNumbered n (event.Take port) = Unit {0}

abbrev pub AreNumbered : List Turn → Type 0
AreNumbered [] = Unit {0}
AreNumbered (happened s e a n ∷ before) = AreNumbered before × IsNumbered n e
AreNumbered (swapped s r ∷ before) = AreNumbered before

-- an arrival with a number
abbrev pub arrival_if : Mac → Option ℤ → ℕ → List Arrival
arrival_if src None now = []
arrival_if src (Some n) now = record { src = src; number = n; time = now } ∷ []

-- the arrivals with numbers, each with its source, number and moment, the newest first; the node's own frames are not among them
abbrev pub event_arrives : List Turn → State → Event → ℤ → List Arrival
event_arrives before s (event.Arrive port p now) n =
    if is_own s p then []
    else arrival_if (header_of p).src (number_if (going_on s port p).seq (whole_number before port p n)) (time_at s now)
event_arrives before s (event.Send octets now) n = []
event_arrives before s (event.Tick now) n = []
event_arrives before s (event.Take port) n = []

abbrev pub arrivals : List Turn → List Arrival
arrivals [] = []
arrivals (happened s e a n ∷ before) = event_arrives before s e n ++ arrivals before
arrivals (swapped s r ∷ before) = arrivals before

-- The run of a node that began so is steady under its numbers: each stands for the 16 bits of its frame, is one of the 65536 that may
-- follow those of its source's epoch at the node's width, and all copies of a frame lie in one epoch. What stood before the run counts as
-- arrivals at the time of its source.
abbrev pub IsSteadyFrom : Origin → List Turn → Type 0
IsSteadyFrom (new start) turns = AreNumbered turns × AreSteady (width_of start) (arrivals turns)
IsSteadyFrom (resumed role mode width sources top) turns =
    HasTops (resumed role mode width sources top)
    × AreNumbered turns
    × AreSteady (numbers_in width) (arrivals turns ++ arrivals_of (stands_before (resumed role mode width sources top)))

-- the run of a new node is
abbrev pub IsSteady : Start → List Turn → Type 0
IsSteady start turns = IsSteadyFrom (new start) turns
