-- Which refusals belong to which events, and what an event does at a seat.
use Rattle.std.specs.Prelude.{◌≢◌, None}
use Rattle.std.specs.declared.result.Result.{Result}
use Rattle.sr_node.specs.declared.event.Answer.{Answer}
use Rattle.sr_node.specs.declared.event.Event.{Event}
use Rattle.sr_node.specs.declared.event.Event.TheVariants.{Arrive, Send, Tick, Take}
use Rattle.sr_ports.specs.Entering.{Locked, EntersUnder}
use Rattle.sr_ports.specs.Refusals.{Refused, CountsOnce}
use Rattle.sr_ports.specs.Stamps.{Stamp}
use Rattle.sr_ports.specs.declared.fault.EnterFault.{EnterFault}
use Rattle.sr_workers.specs.Ends.{stop_of}

-- a Take is not refused by the node itself: whatever refuses it ends the worker
abbrev pub IsRefusalOf : Event → EnterFault → Type 0
IsRefusalOf (Arrive port p now) f = Unit {0}
IsRefusalOf (Send frame now) f = Unit {0}
IsRefusalOf (Tick now) f = Unit {0}
IsRefusalOf (Take port) f = stop_of f ≢ None

-- With this pass a node was asked once: one event was entered, or one more was refused for this reason. What lay under the lock then,
-- nobody can tell once it is free; but a node could answer this event so.
pub record EntersWith (pass : Stamp) (r : Refused) (e : Event) (result : Result Answer EnterFault) (pass' : Stamp) (r' : Refused)
    : Type 0 where
  pub counts : CountsOnce pass r result pass' r'
  pub before : Locked
  pub after : Locked
  pub enters : EntersUnder before pass.worker e result after
