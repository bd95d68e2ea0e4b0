-- Where frames go at a node that took over what others had noted.
use Rattle.std.specs.Prelude.{◌≡◌, ◌≢◌, ℕ, ℤ, ◌⊎◌, Bool, true, false, not, ◌&&◌, is_some, [], Some}
use Rattle.std.specs.List.{list_any}
use Rattle.std.specs.Map.{lookup}
use Rattle.sr_frame.specs.declared.fields.Mac.{Mac}
use Rattle.sr_frame.specs.declared.ports.Port.{Port}
use Rattle.sr_frame.specs.declared.ports.Port.TheVariants.{A, B}
use Rattle.sr_frame.specs.Addresses.{mac_eq}
use Rattle.sr_sequence.specs.declared.Seq.{Seq}
use Rattle.sr_dup_window.specs.declared.lane_sets.Lane.{Lane}
use Rattle.sr_dup_window.specs.declared.lane_sets.Lane.TheVariants as lane
use Rattle.sr_dup_table.specs.Sources.{live_at}
use Rattle.sr_laws_dup_joins.specs.Growths.{Growth, empty, started, arrived, aged, merged, epoch, numbers, AreSteady}
use Rattle.sr_forwarding.specs.Outlets.{has, port_eq}
use Rattle.sr_forwarding.specs.Parcels.{ParcelImage}
use Rattle.sr_forwarding.specs.Headers.{header_of}
use Rattle.sr_node.specs.declared.event.Event.TheVariants as event
use Rattle.sr_node.specs.declared.event.Answer.{Answer}
use Rattle.sr_node.specs.declared.event.Answer.TheVariants as answer
use Rattle.sr_node.specs.declared.mode.Mode.{Mode}
use Rattle.sr_node.specs.declared.mode.Mode.TheVariants as mode
use Rattle.sr_node.specs.Images.{State, time_at}
use Rattle.sr_node.specs.Lanes.{lane_at}
use Rattle.sr_node.specs.Arriving.{is_own, going_on, wanted_at}
use Rattle.sr_node.specs.Absorbing.{later_time}
use Rattle.sr_laws_node.specs.NodeRuns.{happened}
use Rattle.sr_laws_node.specs.Histories.{History, turned, absorbed, Reaches, table_of, AreNumbered}

-- whether an answer says that a frame went to an outlet
abbrev pub names : Answer → Port → Bool
names (answer.Passed ports) o = list_any (port_eq o) ports
names answer.Own o = false
names (answer.Sent number) o = false
names (answer.Ticked sources nodes proxies life) o = false
names (answer.Taken given) o = false

-- whether a copy of a source's number was noted on an outlet's lane, in the source's epoch at a time, by any node of the tree
abbrev pub is_noted : Growth → Mac → ℕ → Lane → ℤ → Bool
is_noted t src now lane n = numbers src (epoch src now t) lane n

-- whether a copy was noted that came in at this ring port, by any node of the tree, and the mode sends none back there
abbrev pub is_turned_back : Mode → Growth → Mac → ℕ → Port → ℤ → Bool
is_turned_back mode.X t src now A n = is_noted t src now lane.GotA n
is_turned_back mode.X t src now B n = is_noted t src now lane.GotB n
is_turned_back m t src now o n = false

-- along a history whose numbers are steady, an arrival with a number goes to exactly the outlets that want it on whose lane no copy of it
-- was noted in its source's epoch, neither by this node nor by one whose notes it took over; in mode X not to a ring port where a copy came
-- in
abbrev pub GoesWhereNew : Type 0
GoesWhereNew =
    (h : History) (s t : State) (port : Port) (p : ParcelImage) (now : ℕ) (a : Answer) (n : ℤ) (seq : Seq) (o : Port)
    → Reaches (turned h (happened s (event.Arrive port p now) a n)) t
    → AreNumbered (turned h (happened s (event.Arrive port p now) a n))
    → AreSteady s.core.width (table_of (turned h (happened s (event.Arrive port p now) a n)))
    → is_own s p ≡ false → (going_on s port p).seq ≡ Some seq
    → names a o
    ≡ (has (wanted_at s port (going_on s port p) (time_at s now)) o
    && (not (is_noted (table_of h) (header_of p).src (time_at s now) (lane_at o) n)
    && not (is_turned_back s.core.mode (table_of h) (header_of p).src (time_at s now) o n)))

-- a source is remembered at a time: some arrival is in its epoch
abbrev pub IsRemembered : Growth → Mac → ℕ → Type 0
IsRemembered t src now = epoch src now t ≢ []

-- a table goes on from an earlier one by arrivals, ageings and merges, and at each arrival of the source on the way, and at each merge, the
-- source was still remembered
abbrev pub GoesOnKnowing : Mac → Growth → Growth → Type 0
GoesOnKnowing src t empty = t ≡ empty
GoesOnKnowing src t (started from top start) = t ≡ started from top start
GoesOnKnowing src t (arrived u x) =
    (t ≡ arrived u x) ⊎ (GoesOnKnowing src t u × (mac_eq src x.arrival.src ≡ true → IsRemembered u src x.arrival.time))
GoesOnKnowing src t (aged u now) = (t ≡ aged u now) ⊎ GoesOnKnowing src t u
GoesOnKnowing src t (merged u v now) = (t ≡ merged u v now) ⊎ (GoesOnKnowing src t u × IsRemembered u src now)

-- what either of two nodes had noted when one took over from the other is held back at each later arrival, until the source is forgotten
abbrev pub HoldsBackBoth : Type 0
HoldsBackBoth =
    (h g k : History) (one other s t : State) (port : Port) (p : ParcelImage) (now : ℕ) (a : Answer) (n : ℤ) (seq : Seq) (o : Port)
    → GoesOnKnowing (header_of p).src (table_of (absorbed h one g other)) (table_of k)
    → Reaches (turned k (happened s (event.Arrive port p now) a n)) t
    → AreNumbered (turned k (happened s (event.Arrive port p now) a n))
    → AreSteady s.core.width (table_of (turned k (happened s (event.Arrive port p now) a n)))
    → (going_on s port p).seq ≡ Some seq
    → is_some (lookup (mac_eq (header_of p).src) (live_at (time_at s now) s.core.sources)) ≡ true
    → (is_noted (table_of h) (header_of p).src (later_time one.core other.core) (lane_at o) n ≡ true)
    ⊎ (is_noted (table_of g) (header_of p).src (later_time one.core other.core) (lane_at o) n ≡ true)
    → names a o ≡ false
