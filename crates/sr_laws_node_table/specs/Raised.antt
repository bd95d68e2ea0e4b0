-- Which alarms are raised, by what was heard and when.
use Rattle.std.specs.Prelude.{ℕ, Bool, not, List, [], ◌∷◌, ◌++◌, if◌then◌else◌}
use Rattle.std.specs.List.{flat_map}
use Rattle.sr_frame.specs.declared.fields.Mac.{Mac}
use Rattle.sr_frame.specs.declared.ports.Port.{Port}
use Rattle.sr_frame.specs.declared.ports.Port.TheVariants.{A, B}
use Rattle.sr_node_table.specs.declared.alarm.Alarm.{Alarm}
use Rattle.sr_node_table.specs.declared.alarm.Alarm.TheVariants.{RingError, NodeDown}
use Rattle.sr_node_table.specs.Hearings.{Event, Hears, Prunes}
use Rattle.sr_laws_node_table.specs.Kept.{is_live_by, kept_in}
use Rattle.sr_laws_node_table.specs.Entered.{removes, removal_in, entered}
use Rattle.sr_laws_node_table.specs.Lateness.{is_newly_late}

-- one alarm or none
abbrev pub alarm_if : Bool → Alarm → List Alarm
alarm_if raised alarm = if raised then alarm ∷ [] else []

-- an address is down where it is no longer live
abbrev pub down_alarm : ℕ → List Event → Mac → List Alarm
down_alarm now events mac = alarm_if (not (is_live_by (kept_in events) now mac)) (NodeDown mac now)

-- a port is told of where it is newly late
abbrev pub ring_alarm : Port → ℕ → List Event → Mac → List Alarm
ring_alarm port now events mac = alarm_if (is_newly_late port mac now events) (RingError mac port now)

-- what a prune raises of one address
abbrev pub prune_alarms : ℕ → List Event → Mac → List Alarm
prune_alarms now events mac = ring_alarm A now events mac ++ (ring_alarm B now events mac ++ down_alarm now events mac)

-- what an event raises after these, address by address in the order of the entries: a prune, of late ports and of addresses that are
-- down; a hearing where it removes addresses that are down
abbrev pub raised_by : Event → List Event → List Alarm
raised_by (Prunes now) events = flat_map (prune_alarms now events) (entered events)
raised_by (Hears h) events =
    if removes (Hears h) (kept_in events) (removal_in events) then flat_map (down_alarm h.time events) (entered events) else []

-- all alarms that were ever raised, the oldest first
abbrev pub raised_in : List Event → List Alarm
raised_in [] = []
raised_in (e ∷ events) = raised_in events ++ raised_by e events
