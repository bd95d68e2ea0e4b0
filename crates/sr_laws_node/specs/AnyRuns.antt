-- What holds of every run of a node, steady or not.
use Rattle.std.specs.Prelude.{◌≡◌, ◌⊎◌, ℕ, ℤ, Bool, false, not, ◌&&◌, List, [], ◌∷◌, ◌++◌, filter, Option, None, Some, IsSome, All}
use Rattle.std.specs.List.{list_any}
use Rattle.std.specs.Map.{lookup}
use Rattle.sr_frame.specs.declared.fields.Mac.{Mac}
use Rattle.sr_frame.specs.declared.ports.Port.{Port}
use Rattle.sr_frame.specs.declared.ports.Port.TheVariants.{H}
use Rattle.sr_frame.specs.Addresses.{mac_eq}
use Rattle.sr_sequence.specs.declared.Seq.{Seq}
use Rattle.sr_sequence.specs.Numbers.{wire}
use Rattle.sr_dup_window.specs.declared.lane_sets.Lane.TheVariants as lane
use Rattle.sr_dup_table.specs.Sources.{Remembered, Sources}
use Rattle.sr_laws_dup.specs.TableRuns.{Noting, was_noted, IsBeyond}
use Rattle.sr_forwarding.specs.Outlets.{has, all_ports}
use Rattle.sr_forwarding.specs.Parcels.{ParcelImage, IsParcel}
use Rattle.sr_forwarding.specs.Headers.{header_of}
use Rattle.sr_node.specs.declared.event.Event.{Event}
use Rattle.sr_node.specs.declared.event.Event.TheVariants as event
use Rattle.sr_node.specs.declared.event.Answer.{Answer}
use Rattle.sr_node.specs.Images.{State, time_at}
use Rattle.sr_node.specs.Outboxes.{box_at}
use Rattle.sr_node.specs.Arriving.{going_on}
use Rattle.sr_laws_node.specs.Origins.{Origin}
use Rattle.sr_laws_node.specs.NodeRuns.{Turn, happened, swapped, RunFrom}
use Rattle.sr_laws_node.specs.Brought.{Brought, brings, brought, is_at, is_copy, next_number, parcels_of, takes, taken, went_after}
use Rattle.sr_laws_node.specs.NodeLaws.{before_of}

-- what a turn brings that is wanted at an outlet
abbrev pub wanted_in : Port → List Turn → Turn → List Brought
wanted_in o before turn = filter (λ b. has b.wanted o) (brings before turn)

-- nothing went out at an outlet in a turn that led to this state
abbrev pub IsQuietAt : Port → Turn → State → Type 0
IsQuietAt o turn t = takes o turn ++ box_at t.core.out o ≡ box_at (before_of turn).core.out o

-- all that the turn brings went out there that is wanted there
abbrev pub IsSentTo : Port → List Turn → Turn → State → Type 0
IsSentTo o before turn t = takes o turn ++ box_at t.core.out o ≡ box_at (before_of turn).core.out o ++ parcels_of (wanted_in o before turn)

-- in every run, what goes out at an outlet is what the turn brings, and is wanted there
abbrev pub GoesWhereWanted : Type 0
GoesWhereWanted =
    (origin : Origin) (turn : Turn) (before : List Turn) (t : State) (o : Port)
    → RunFrom origin (turn ∷ before) t → IsQuietAt o turn t ⊎ IsSentTo o before turn t

-- of a number a node can tell nothing: it has nothing of its source, or has forgotten it, or the number lies a width or more behind
abbrev pub IsUnknown : ℕ → Option Remembered → ℕ → ℕ → Type 0
IsUnknown w None seq now = Unit {0}
IsUnknown w (Some h) seq now = IsBeyond w h seq now

-- nor of a frame without number
abbrev pub CannotTell : ℕ → Sources → Mac → Option Seq → ℕ → Type 0
CannotTell w s src None now = Unit {0}
CannotTell w s src (Some seq) now = IsUnknown w (lookup (mac_eq src) s) seq.0 now

-- in every run, an arrival of which the node can tell nothing goes to all outlets that want it
abbrev pub UnknownGoesEverywhere : Type 0
UnknownGoesEverywhere =
    (origin : Origin) (before : List Turn) (s t : State) (port : Port) (p : ParcelImage) (now : ℕ) (a : Answer) (n : ℤ) (o : Port)
    → RunFrom origin (happened s (event.Arrive port p now) a n ∷ before) t
    → CannotTell s.core.width s.core.sources (header_of p).src (going_on s port p).seq (time_at s now)
    → IsSentTo o before (happened s (event.Arrive port p now) a n) t

-- the host sends, or time passes
abbrev pub IsOfHost : Event → Type 0
IsOfHost (event.Arrive port p now) = ⊥
IsOfHost (event.Send octets now) = Unit {0}
IsOfHost (event.Tick now) = Unit {0}
IsOfHost (event.Take port) = ⊥

-- in every run, a frame of the host and a life check go to all outlets that want them, under the node's next number
abbrev pub HostGoesEverywhere : Type 0
HostGoesEverywhere =
    (origin : Origin) (before : List Turn) (s t : State) (e : Event) (a : Answer) (n : ℤ) (o : Port)
    → RunFrom origin (happened s e a n ∷ before) t → IsOfHost e
    → IsSentTo o before (happened s e a n) t × All (λ b. b.parcel.seq ≡ Some s.core.next) (brings before (happened s e a n))

-- in every run, the numbers that a node gives are 64511, 64512, and so on: the next one is the first and as many as it gave
abbrev pub NumbersCount : Type 0
NumbersCount = (origin : Origin) (turns : List Turn) (t : State) → RunFrom origin turns t → t.core.next.0 ≡ wire (next_number turns)

-- copies of a frame that came in at this port and were wanted at the host
abbrev pub came_up : Mac → ℤ → Port → List Turn → Bool
came_up src n inlet turns = list_any (λ b. is_copy src n b && (has b.wanted H && is_at inlet b.inlet)) (brought turns)

-- the frames that went up to the host are those that came in for it, whatever the port, without those that stood before as wanted there
abbrev pub PairsOfAll : Type 0
PairsOfAll =
    (stood : List Noting) (turns : List Turn) (src : Mac) (n : ℤ)
    → list_any (is_copy src n) (went_after stood H turns)
    ≡ (not (was_noted src n lane.H stood) && list_any (λ inlet. came_up src n inlet turns) all_ports)

-- what comes in is what a framing can read: a tag or a trailer where the form says so, which has the number
abbrev pub AreParcels : List Turn → Type 0
AreParcels [] = Unit {0}
AreParcels (happened s (event.Arrive port p now) a n ∷ before) = AreParcels before × IsParcel p
AreParcels (happened s (event.Send octets now) a n ∷ before) = AreParcels before
AreParcels (happened s (event.Tick now) a n ∷ before) = AreParcels before
AreParcels (happened s (event.Take port) a n ∷ before) = AreParcels before
AreParcels (swapped s r ∷ before) = AreParcels before

-- in every run, each parcel that was taken at A, B or C, or waits there, has a number, so that each framing can write it
abbrev pub NetworksGetNumbers : Type 0
NetworksGetNumbers =
    (origin : Origin) (turns : List Turn) (t : State) (o : Port) → RunFrom origin turns t → AreParcels turns → is_at H o ≡ false
    → All (λ p. IsSome p.seq) (taken o turns ++ box_at t.core.out o)
