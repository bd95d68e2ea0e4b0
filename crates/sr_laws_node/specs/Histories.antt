-- Nodes that took over what others had noted: trees of turns and takings-over.
use Rattle.std.specs.Prelude.{◌≡◌, ℕ, ℤ, Option, None, Some, if◌then◌else◌}
use Rattle.sr_frame.specs.declared.ports.Port.{Port}
use Rattle.sr_sequence.specs.declared.Seq.{Seq}
use Rattle.sr_laws_dup.specs.TableRuns.{Noting}
use Rattle.sr_laws_dup_joins.specs.Growths.{Growth, empty, started, arrived, aged, merged}
use Rattle.sr_forwarding.specs.Parcels.{ParcelImage}
use Rattle.sr_forwarding.specs.Headers.{header_of}
use Rattle.sr_node.specs.declared.event.Event.{Event}
use Rattle.sr_node.specs.declared.event.Event.TheVariants as event
use Rattle.sr_node.specs.Images.{State, time_at}
use Rattle.sr_node.specs.Resuming.{last_heard}
use Rattle.sr_node.specs.Lanes.{lanes_noted}
use Rattle.sr_node.specs.Arriving.{is_own, going_on, wanted_at}
use Rattle.sr_node.specs.Absorbing.{Absorbed, later_time}
use Rattle.sr_node.specs.Steps.{Step, refusal_of}
use Rattle.sr_laws_node.specs.Origins.{Origin, new, resumed, BeginsAs, HasTops}
use Rattle.sr_laws_node.specs.NodeRuns.{Turn, happened, swapped}
use Rattle.sr_laws_node.specs.SteadyNodes.{IsCarried}

-- How a node came to its state: as it began, new or resumed with a table, by one more turn, or by taking over in one state what another
-- node had noted in its own. The number of a turn is the whole number of the frame as it goes on, also where the node gave it.
pub data History : Type 0 where
  began : Origin → History
  turned : History → Turn → History
  absorbed : History → State → History → State → History

-- the history leads to this state, by calls that were not refused
abbrev pub Reaches : History → State → Type 0
Reaches (began origin) t = BeginsAs origin t
Reaches (turned h (happened s e a n)) t = Reaches h s × (refusal_of s e ≡ None) × Step s e a t
Reaches (turned h (swapped s r)) t = Reaches h s × (r.mac ≡ s.role.mac) × (t ≡ record s { role = r })
Reaches (absorbed h s g o) t = Reaches h s × Reaches g o × Absorbed s.core o.core t.core × (t.role ≡ s.role)

-- what the table notes of a parcel as it goes on, under a whole number
abbrev pub noting_at : State → Port → ParcelImage → ℕ → ℤ → Noting
noting_at s port p now n = record {
  arrival = record { src = (header_of p).src; number = n; time = now };
  lanes = lanes_noted port (wanted_at s port p now);
}

abbrev pub with_noting : Growth → Option Seq → Noting → Growth
with_noting t None x = t
with_noting t (Some seq) x = arrived t x

-- how an event changes the table: an arrival with a number is noted, unless it is the node's own, and a tick lets what is forgotten go
abbrev pub after_event : Growth → State → Event → ℤ → Growth
after_event t s (event.Arrive port p now) n =
    if is_own s p then t else with_noting t (going_on s port p).seq (noting_at s port (going_on s port p) (time_at s now) n)
after_event t s (event.Send octets now) n = t
after_event t s (event.Tick now) n = aged t (time_at s now)
after_event t s (event.Take port) n = t

-- the table with which a node begins
abbrev pub table_begun : Origin → Growth
table_begun (new start) = empty
table_begun (resumed role mode width sources top) = started (last_heard sources) top sources

-- how the node's table came about
abbrev pub table_of : History → Growth
table_of (began origin) = table_begun origin
table_of (turned h (happened s e a n)) = after_event (table_of h) s e n
table_of (turned h (swapped s r)) = table_of h
table_of (absorbed h s g o) = merged (table_of h) (table_of g) (later_time s.core o.core)

-- the number that the wire carries stands for this whole one
abbrev pub IsNumbered : State → Event → ℤ → Type 0
IsNumbered s (event.Arrive port p now) n = IsCarried n (going_on s port p).seq
IsNumbered s (event.Send octets now) n = Unit {0}
IsNumbered s (event.Tick now) n = Unit {0}
IsNumbered s (event.Take port) n = Unit {0}

abbrev pub AreNumbered : History → Type 0
AreNumbered (began origin) = HasTops origin
AreNumbered (turned h (happened s e a n)) = AreNumbered h × IsNumbered s e n
AreNumbered (turned h (swapped s r)) = AreNumbered h
AreNumbered (absorbed h s g o) = AreNumbered h × AreNumbered g
