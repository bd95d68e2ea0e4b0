-- What a node gives out after one event, where nothing waited before it.
use Rattle.std.specs.Prelude.{◌≡◌, ◌≤◌, List, ◌++◌, length, None}
use Rattle.std.specs.Option.{option_to_list}
use Rattle.sr_forwarding.specs.Parcels.{ParcelImage}
use Rattle.sr_node.specs.declared.event.Answer.{Answer}
use Rattle.sr_node.specs.declared.event.Event.{Event}
use Rattle.sr_node.specs.Images.{State}
use Rattle.sr_node.specs.Outboxes.{Outboxes}
use Rattle.sr_node.specs.Steps.{Step, refusal_of}
use Rattle.sr_plant.specs.declared.node_step.Given.{Given}
use Rattle.sr_plant.specs.Steps.{emptied}

-- At most one parcel waits at each outlet.
pub record IsAtMostOneEach (o : Outboxes) : Type 0 where
  pub h : length o.h ≤ 1
  pub a : length o.a ≤ 1
  pub b : length o.b ≤ 1
  pub c : length o.c ≤ 1

-- A node in state u was emptied: what it has for its host went up, and `given` came out at A, B and C.
pub record GivesOut (u : State) (given : Given) (before up_after : List ParcelImage) (t : State) : Type 0 where
  pub a : option_to_list given.a ≡ u.core.out.a
  pub b : option_to_list given.b ≡ u.core.out.b
  pub c : option_to_list given.c ≡ u.core.out.c
  pub up : up_after ≡ before ++ u.core.out.h
  pub rest : t ≡ emptied u

-- A node takes an event and is emptied.
pub record StepsOut (s : State) (event : Event) (given : Given) (before up_after : List ParcelImage) (t : State) : Type 0 where
  pub answer : Answer
  pub after : State
  pub fits : refusal_of s event ≡ None
  pub step : Step s event answer after
  pub gives : GivesOut after given before up_after t
