-- What is printed of a node that a script is run on.
use Rattle.std.specs.Prelude.{ℕ, List, Option, Result}
use Rattle.sr_node.specs.Images.{State}
use Rattle.sr_script.specs.declared.answering.Parcels.{Parcels}
use Rattle.sr_script.specs.declared.answering.Parcels.TheVariants.{Printed, Dropped}
use Rattle.sr_script.specs.declared.setups.Report.{Report}
use Rattle.sr_script.specs.declared.setups.Report.TheVariants.{Frames, Status, Tally}
use Rattle.sr_script.specs.declared.setups.Setup.{Setup}
use Rattle.sr_forwarding.specs.declared.kind.RoleKind.{RoleKind}
use Rattle.sr_script.specs.Replies.{Replied, replay_dialogue}
use Rattle.sr_session.specs.declared.fault.Fault.{Fault}
use Rattle.sr_session.specs.Runs.{Runs}
use Rattle.sr_script.specs.Stations.{start_of}
use Rattle.sr_script.specs.Statuses.{Noted, status_dialogue}
use Rattle.sr_script.specs.Tallies.{tally_dialogue, tally_start}

-- what is answered to the line with this number, where this becomes of the parcels that wait behind it
abbrev pub RepliedAs : Parcels → RoleKind → State → ℕ → List ℕ → List ℕ → State → Type 0
RepliedAs Printed role s number line text t = Replied role s number line text t
RepliedAs Dropped role s number line text t = Noted role s number line text t

-- what comes of a script on a new node of which this is printed
abbrev pub RunsAs : Report → Setup → Option (List ℕ) → Option (List ℕ) → Option (List ℕ) → Option (List ℕ) → Result (Unit {0}) Fault
    → Type 0
RunsAs Frames setup left rest held now r = Runs replay_dialogue (start_of setup) left rest held now r
RunsAs Status setup left rest held now r = Runs status_dialogue (start_of setup) left rest held now r
RunsAs Tally setup left rest held now r = Runs tally_dialogue (tally_start setup) left rest held now r
