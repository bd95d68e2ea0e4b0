-- What the turns of a run bring to a node, where it is wanted, and where it goes.
use Rattle.std.specs.Prelude.{
  ℕ,
  ℤ,
  pos,
  ◌+◌,
  Bool,
  true,
  false,
  not,
  ◌&&◌,
  ◌||◌,
  List,
  [],
  ◌∷◌,
  ◌++◌,
  map,
  filter,
  option_to_list,
  Option,
  None,
  Some,
  if◌then◌else◌,
}
use Rattle.std.specs.List.{list_any}
use Rattle.std.specs.Ordering.{int_eq}
use Rattle.sr_frame.specs.declared.fields.Mac.{Mac}
use Rattle.sr_frame.specs.declared.ports.Port.{Port}
use Rattle.sr_frame.specs.declared.ports.Port.TheVariants.{H, A, B, C}
use Rattle.sr_frame.specs.Addresses.{mac_eq}
use Rattle.sr_sequence.specs.declared.Seq.{Seq}
use Rattle.sr_dup_window.specs.declared.lane_sets.Lane.{Lane}
use Rattle.sr_dup_window.specs.declared.lane_sets.Lane.TheVariants as lane
use Rattle.sr_laws_dup.specs.TableRuns.{Noting, was_noted}
use Rattle.sr_forwarding.specs.declared.outlets.Outlets.{Outlets}
use Rattle.sr_forwarding.specs.Outlets.{has}
use Rattle.sr_forwarding.specs.Parcels.{ParcelImage}
use Rattle.sr_forwarding.specs.Headers.{header_of}
use Rattle.sr_node.specs.declared.event.Event.{Event}
use Rattle.sr_node.specs.declared.event.Event.TheVariants as event
use Rattle.sr_node.specs.declared.event.Answer.{Answer}
use Rattle.sr_node.specs.declared.event.Answer.TheVariants as answer
use Rattle.sr_node.specs.declared.mode.Mode.{Mode}
use Rattle.sr_node.specs.Limits.{first_number}
use Rattle.sr_node.specs.Images.{State, time_at}
use Rattle.sr_node.specs.Starts.{is_x}
use Rattle.sr_node.specs.Lanes.{lane_at}
use Rattle.sr_node.specs.Arriving.{is_own, is_plain_at_interlink, going_on, wanted_at}
use Rattle.sr_node.specs.Sending.{sent_parcel, send_outlets}
use Rattle.sr_node.specs.Ticking.{next_life_check, life_outlets}
use Rattle.sr_node.specs.LifeChecks.{is_due}
use Rattle.sr_laws_node.specs.NodeRuns.{Turn, happened, swapped}

-- A frame that a turn brought: its source, the whole number that this gave it, if any, the mode of the node, where it came in, where it is
-- wanted, and what goes out of it. What the host sends comes in at H, and so do life checks.
pub record Brought : Type 0 where
  pub src : Mac
  pub number : Option ℤ
  pub mode : Mode
  pub inlet : Port
  pub wanted : Outlets
  pub parcel : ParcelImage

-- a turn at which the node gave a number of its own: to a frame of its host, a life check, or a plain frame at its interlink
abbrev pub gives_number : State → Event → Bool
gives_number s (event.Arrive port p now) = not (is_own s p) && is_plain_at_interlink port p.form
gives_number s (event.Send octets now) = true
gives_number s (event.Tick now) = is_due s.core.life_at (time_at s now)
gives_number s (event.Take port) = false

abbrev pub one_if : Bool → ℕ
one_if b = if b then 1 else 0

-- how many numbers the node gave in these turns
abbrev pub given : List Turn → ℕ
given [] = 0
given (happened s e a n ∷ before) = given before + one_if (gives_number s e)
given (swapped s r ∷ before) = given before

-- the number that it gives next: 64511, 64512, ..
abbrev pub next_number : List Turn → ℤ
next_number before = pos (first_number + given before)

-- the whole number of an arrival, where it has one: a plain frame at the interlink gets the node's next
abbrev pub whole_number : List Turn → Port → ParcelImage → ℤ → ℤ
whole_number before port p n = if is_plain_at_interlink port p.form then next_number before else n

abbrev pub number_if : Option Seq → ℤ → Option ℤ
number_if None n = None
number_if (Some seq) n = Some n

-- what an arrival brings
abbrev pub arrival_brings : List Turn → State → Port → ParcelImage → ℕ → ℤ → Brought
arrival_brings before s port p now n = record {
  src = (header_of p).src;
  number = number_if (going_on s port p).seq (whole_number before port p n);
  mode = s.core.mode;
  inlet = port;
  wanted = wanted_at s port (going_on s port p) now;
  parcel = going_on s port p;
}

-- what the node itself brings: a frame of its host, or a life check
abbrev pub host_brings : List Turn → State → ParcelImage → Outlets → Brought
host_brings before s p wanted = record {
  src = s.role.mac;
  number = Some (next_number before);
  mode = s.core.mode;
  inlet = H;
  wanted = wanted;
  parcel = p;
}

abbrev pub send_brings : List Turn → State → List ℕ → ℕ → Brought
send_brings before s octets now = host_brings before s (sent_parcel s octets) (send_outlets s octets now)

abbrev pub life_brings : List Turn → State → ℕ → Brought
life_brings before s now = host_brings before s (next_life_check s) (life_outlets s now)

-- what an event brings: nothing where the source of an arrival is the node
abbrev pub event_brings : List Turn → State → Event → ℤ → List Brought
event_brings before s (event.Arrive port p now) n =
    if is_own s p then [] else arrival_brings before s port p (time_at s now) n ∷ []
event_brings before s (event.Send octets now) n = send_brings before s octets (time_at s now) ∷ []
event_brings before s (event.Tick now) n =
    if is_due s.core.life_at (time_at s now) then life_brings before s (time_at s now) ∷ [] else []
event_brings before s (event.Take port) n = []

abbrev pub brings : List Turn → Turn → List Brought
brings before (happened s e a n) = event_brings before s e n
brings before (swapped s r) = []

-- all that some turns brought, the newest first
abbrev pub brought : List Turn → List Brought
brought [] = []
brought (turn ∷ before) = brings before turn ++ brought before

-- a copy of the frame of this source and number
abbrev pub is_copy : Mac → ℤ → Brought → Bool
is_copy src n b = mac_eq src b.src && list_any (int_eq n) (option_to_list b.number)

abbrev pub is_at : Port → Port → Bool
is_at H H = true
is_at A A = true
is_at B B = true
is_at C C = true
is_at p q = false

-- no frame goes out at the interlink where a copy came in, nor, in mode X, at a ring port
abbrev pub keeps : Port → Mode → Bool
keeps H m = false
keeps A m = is_x m
keeps B m = is_x m
keeps C m = true

-- it bars later copies from an outlet: where it was wanted itself, and where it came in, if that outlet keeps it
abbrev pub bars : Port → Mac → ℤ → Brought → Bool
bars o src n b = is_copy src n b && (has b.wanted o || (keeps o b.mode && is_at o b.inlet))

-- the lane on which it is noted that a frame came in there; that of the interlink is the one on which it is noted as wanted there
abbrev pub inlet_lane : Port → Lane
inlet_lane H = lane.H
inlet_lane A = lane.GotA
inlet_lane B = lane.GotB
inlet_lane C = lane.C

-- what stood before the run bars a frame from an outlet as an earlier copy does, lane by lane: one that is noted as wanted there, and one
-- that is noted as come in there, if that outlet keeps it
abbrev pub stood_bars : Port → Mode → Mac → ℤ → List Noting → Bool
stood_bars o m src n stood = was_noted src n (lane_at o) stood || (keeps o m && was_noted src n (inlet_lane o) stood)

-- what stood before the run bars it, or some earlier one does; a frame without number is never barred
abbrev pub is_barred : Port → List Noting → List Brought → Brought → Bool
is_barred o stood earlier b =
    list_any (λ n. stood_bars o b.mode b.src n stood || list_any (bars o b.src n) earlier) (option_to_list b.number)

-- it goes out at an outlet where it is wanted and nothing bars it
abbrev pub goes_at : Port → List Noting → List Brought → Brought → Bool
goes_at o stood earlier b = has b.wanted o && not (is_barred o stood earlier b)

-- what goes out at an outlet of what a turn brings
abbrev pub goes_in : Port → List Noting → List Turn → Turn → List Brought
goes_in o stood before turn = filter (goes_at o stood (brought before)) (brings before turn)

-- what went out there in all these turns, in order, where this stood before them; what stood did not go out in them
abbrev pub went_after : List Noting → Port → List Turn → List Brought
went_after stood o [] = []
went_after stood o (turn ∷ before) = went_after stood o before ++ goes_in o stood before turn

-- what went out there in the turns of a new node
abbrev pub went : Port → List Turn → List Brought
went o turns = went_after [] o turns

abbrev pub parcels_of : List Brought → List ParcelImage
parcels_of bs = map (λ b. b.parcel) bs

-- what an answer hands out
abbrev pub handed_by : Answer → List ParcelImage
handed_by (answer.Taken parcel) = option_to_list parcel
handed_by answer.Own = []
handed_by (answer.Passed outlets) = []
handed_by (answer.Sent number) = []
handed_by (answer.Ticked sources nodes proxies life) = []

-- what was taken out at an outlet in a turn
abbrev pub event_takes : Port → Event → Answer → List ParcelImage
event_takes o (event.Arrive port p now) a = []
event_takes o (event.Send octets now) a = []
event_takes o (event.Tick now) a = []
event_takes o (event.Take port) a = if is_at o port then handed_by a else []

abbrev pub takes : Port → Turn → List ParcelImage
takes o (happened s e a n) = event_takes o e a
takes o (swapped s r) = []

-- what was taken out there in all these turns, in order
abbrev pub taken : Port → List Turn → List ParcelImage
taken o [] = []
taken o (turn ∷ before) = taken o before ++ takes o turn
