-- Which alarms a node has after a run, and what it tells of which addresses, by what came in.
use Rattle.std.specs.Prelude.{◌≡◌, List}
use Rattle.circular_buffer.specs.Buffer.{keep_last}
use Rattle.sr_frame.specs.declared.fields.Mac.{Mac}
use Rattle.sr_node_table.specs.Limits.{most_alarms}
use Rattle.sr_node_table.specs.Stating.{has_at, status_at, listed_at}
use Rattle.sr_node_table.specs.Hearings as nodes
use Rattle.sr_laws_node_table.specs.Kept.{is_live_by, kept_in, kept_of}
use Rattle.sr_laws_node_table.specs.Entered.{live_in}
use Rattle.sr_laws_node_table.specs.Raised.{raised_in}
use Rattle.sr_node.specs.Images.{State}
use Rattle.sr_laws_node.specs.Origins.{Origin}
use Rattle.sr_laws_node.specs.NodeRuns.{Turn, RunFrom}
use Rattle.sr_laws_node.specs.Heard.{HappenIn}

-- What happened to the table of nodes came in the order of its times, up to the node's own. The node has the latest 64 of the alarms that
-- it raised, the oldest first. It lists the addresses that are live, and tells of exactly these what their kept hearings say.
pub record TellsOfKept (all : List nodes.Event) (t : State) : Type 0 where
  pub order : nodes.AreUpTo t.core.time all
  pub alarms : t.core.nodes.alarms ≡ keep_last most_alarms (raised_in all)
  pub listed : listed_at t.core.nodes t.core.time ≡ live_in all t.core.time
  pub live : (mac : Mac) → has_at t.core.nodes mac t.core.time ≡ is_live_by (kept_in all) t.core.time mac
  pub status : (mac : Mac) → status_at t.core.nodes mac t.core.time ≡ nodes.status_by (kept_of mac all) mac t.core.time

-- in every run, of what happened to the table in its turns
abbrev pub AlarmsAreOfWhatCameIn : Type 0
AlarmsAreOfWhatCameIn =
    (origin : Origin) (turns : List Turn) (t : State) → RunFrom origin turns t
    → (all : List nodes.Event) × HappenIn turns all × TellsOfKept all t
