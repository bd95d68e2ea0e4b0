-- Two runs of a table of nodes, worked out. Lists of events have the latest first, lists of addresses and alarms the oldest.
use Rattle.std.specs.Prelude.{ℕ, ◌≡◌, ◌+◌, ◌-◌, List, [], ◌∷◌}
use Rattle.sr_frame.specs.declared.fields.Mac.{Mac}
use Rattle.sr_frame.specs.declared.ports.Port.{Port}
use Rattle.sr_frame.specs.declared.ports.Port.TheVariants.{A, B}
use Rattle.sr_node_table.specs.declared.alarm.Alarm.{Alarm}
use Rattle.sr_node_table.specs.declared.alarm.Alarm.TheVariants.{RingError, NodeDown}
use Rattle.sr_node_table.specs.declared.node.Told.TheVariants.{Numbered}
use Rattle.sr_node_table.specs.Limits.{forget_time, most_behind}
use Rattle.sr_node_table.specs.Nodes.{hearing_of}
use Rattle.sr_node_table.specs.Stating.{listed_at}
use Rattle.sr_node_table.specs.Hearings.{Event, Hears, Prunes, table_after, AreUpTo}
use Rattle.sr_laws_node_table.specs.Entered.{live_in}
use Rattle.sr_laws_node_table.specs.Raised.{raised_in}

abbrev pub first_node : Mac
first_node = record { 0 = 2 ∷ 0 ∷ 0 ∷ 0 ∷ 0 ∷ 1 ∷ [] }

abbrev pub second_node : Mac
second_node = record { 0 = 2 ∷ 0 ∷ 0 ∷ 0 ∷ 0 ∷ 2 ∷ [] }

-- a frame of a node comes in
abbrev pub comes : Mac → Port → ℕ → Event
comes mac port now = Hears (hearing_of mac port (Numbered (record { 0 = 0 })) now)

-- when the port is late, when frames come in there again, and when the node has been silent for 60000 ms from then on
abbrev pub late_from : ℕ
late_from = most_behind + 1

abbrev pub mended_at : ℕ
mended_at = most_behind + 3

abbrev pub down_at : ℕ
down_at = mended_at + forget_time

-- A ring breaks on the way to B: the last frame there comes in at time 0, and the next one as it is mended. Then the node is silent.
abbrev pub broken_ring : List Event
broken_ring =
    Prunes down_at
    ∷ Prunes (down_at - 1)
    ∷ Prunes mended_at
    ∷ comes first_node B mended_at
    ∷ comes first_node A mended_at
    ∷ Prunes (late_from + 1)
    ∷ Prunes late_from
    ∷ comes first_node A late_from
    ∷ Prunes most_behind
    ∷ comes first_node A most_behind
    ∷ comes first_node B 0
    ∷ comes first_node A 0
    ∷ []

-- the port is told of once, when it is more than 3000 ms behind the other, and the node after 60000 ms
abbrev pub alarms_of_broken_ring : List Alarm
alarms_of_broken_ring = RingError first_node B late_from ∷ NodeDown first_node down_at ∷ []

-- A node is heard again after a silence of 60000 ms, in which nothing was pruned. Another one was heard meanwhile, and is live still.
abbrev pub renewed_node : List Event
renewed_node = comes first_node A forget_time ∷ comes second_node A 1 ∷ comes first_node A 0 ∷ []

-- what the definitions say of these runs, of which no time goes back
pub record AreWorkedOut : Type 0 where
  pub ring_order : AreUpTo down_at broken_ring
  pub ring_table : (table_after broken_ring).alarms ≡ alarms_of_broken_ring
  pub ring_raised : raised_in broken_ring ≡ alarms_of_broken_ring
  pub renewed_order : AreUpTo forget_time renewed_node
  pub renewed_list : listed_at (table_after renewed_node) forget_time ≡ first_node ∷ second_node ∷ []
  pub renewed_live : live_in renewed_node forget_time ≡ first_node ∷ second_node ∷ []
  pub renewed_raised : raised_in renewed_node ≡ []
