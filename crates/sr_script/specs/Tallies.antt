-- A script of events at a node of which the end is told, with what was counted of the lines.
use Rattle.std.specs.Prelude.{◌≡◌, ℕ, List, ◌++◌}
use Rattle.sr_node.specs.Images.{State}
use Rattle.sr_script.specs.declared.counts.Counts.{Counts}
use Rattle.sr_script.specs.declared.reading.Command.{Command}
use Rattle.sr_forwarding.specs.declared.kind.RoleKind.{RoleKind}
use Rattle.sr_script.specs.declared.setups.Setup.{Setup}
use Rattle.sr_script.specs.Commands.{Says, IsEventLine}
use Rattle.sr_script.specs.Counts.{IsCounted, no_counts}
use Rattle.sr_script.specs.CountTexts.{counts_text}
use Rattle.sr_script.specs.Replies.{Obeys}
use Rattle.sr_session.specs.Runs.{Dialogue}
use Rattle.sr_script.specs.Stations.{Station, start_of}
use Rattle.sr_script.specs.Statuses.{all_taken}
use Rattle.sr_script.specs.StatusTexts.{status_text}

-- a node at its networks, and what was counted of its script
pub record Tally : Type 0 where
  pub station : Station
  pub counts : Counts

abbrev pub with_counts : Station → Counts → Tally
with_counts station counts = record { station = station; counts = counts }

-- a new node of this role and address, of whose script nothing is counted yet
abbrev pub tally_start : Setup → Tally
tally_start setup = with_counts (start_of setup) no_counts

-- The line with this number is one of a script; the node obeys it, and then all that waits is taken: what is printed is a
-- refusal alone. It is counted.
abbrev pub Tallied : RoleKind → State → Counts → ℕ → List ℕ → List ℕ → State → Counts → Type 0
Tallied role s c number line text t d = (command : Command) × (octets : List ℕ) × Says role line command octets
    × (u : State) × Obeys role s number command octets text u × IsCounted number command text c d × (t ≡ all_taken u)

-- a script of events at a node; at the end it is told what the node knows of others, and what was counted
abbrev pub tally_dialogue : Dialogue Tally
tally_dialogue = record {
  Knows = λ s line. IsEventLine s.station.role line;
  Replied = λ s number line text t. (t.station.role ≡ s.station.role)
      × Tallied s.station.role s.station.node s.counts number line text t.station.node t.counts;
  Ends = λ s text. text ≡ status_text s.station.node.core ++ counts_text s.station.role s.station.node.core s.counts;
}
