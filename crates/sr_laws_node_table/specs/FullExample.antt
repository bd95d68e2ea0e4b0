-- A table with as many nodes as it takes, worked out. Lists of events have the latest first, lists of addresses and alarms the oldest.
use Rattle.std.specs.Prelude.{ℕ, zero, suc, ◌≡◌, ◌-◌, ◌/◌, ◌%◌, List, [], ◌∷◌, ◌++◌, map}
use Rattle.circular_buffer.specs.Buffer.{keep_last}
use Rattle.sr_frame.specs.declared.fields.Mac.{Mac}
use Rattle.sr_frame.specs.declared.ports.Port.TheVariants.{A}
use Rattle.sr_frame.specs.declared.learn_outcome.LearnOutcome.TheVariants.{New, Full}
use Rattle.sr_node_table.specs.declared.alarm.Alarm.TheVariants.{NodeDown}
use Rattle.sr_node_table.specs.declared.node.Told.TheVariants.{Numbered}
use Rattle.sr_node_table.specs.Limits.{forget_time, most_nodes, most_alarms}
use Rattle.sr_node_table.specs.Nodes.{Hearing, hearing_of, answer_to}
use Rattle.sr_node_table.specs.Stating.{listed_at}
use Rattle.sr_node_table.specs.Hearings.{Event, Hears, table_after}

-- an address for each number below 65536
abbrev pub numbered_node : ℕ → Mac
numbered_node n = record { 0 = 2 ∷ 0 ∷ 0 ∷ 0 ∷ n / 256 ∷ n % 256 ∷ [] }

-- the addresses of the numbers below this one
unfoldable pub first_ones : ℕ → List Mac
first_ones zero = []
first_ones (suc n) = first_ones n ++ numbered_node n ∷ []

-- a hearing of a node with such an address
abbrev pub heard_at : ℕ → ℕ → Hearing
heard_at n now = hearing_of (numbered_node n) A (Numbered (record { 0 = 0 })) now

-- so many nodes are heard at time 0
unfoldable pub crowd : ℕ → List Event
crowd zero = []
crowd (suc n) = Hears (heard_at n 0) ∷ crowd n

-- 1024 nodes are heard at time 0, and one more as they are still live, or as they are forgotten
abbrev pub too_early : Hearing
too_early = heard_at most_nodes (forget_time - 1)

abbrev pub in_time : Hearing
in_time = heard_at most_nodes forget_time

-- The one that comes early is refused. For the other one all of them go, of whose alarms the latest 64 stand.
pub record FullIsWorkedOut : Type 0 where
  pub refused : answer_to (table_after (crowd most_nodes)) too_early ≡ Full
  pub taken : answer_to (table_after (crowd most_nodes)) in_time ≡ New
  pub alarms :
      (table_after (Hears in_time ∷ crowd most_nodes)).alarms
      ≡ keep_last most_alarms (map (λ mac. NodeDown mac forget_time) (first_ones most_nodes))
  pub listed : listed_at (table_after (Hears in_time ∷ crowd most_nodes)) forget_time ≡ numbered_node most_nodes ∷ []
