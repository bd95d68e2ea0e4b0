-- Laws over what is printed of networks whose nodes run on threads.
use Rattle.std.specs.Prelude.{◌≡◌, ℕ, ◌+◌, ℤ, List, [], ◌++◌, take, drop, Some, slice_get}
use Rattle.sr_frame.specs.declared.ports.Port.TheVariants.{H}
use Rattle.sr_forwarding.specs.Framings.{FramingImage}
use Rattle.sr_forwarding.specs.Kinds.{carriage}
use Rattle.sr_forwarding.specs.RoleImages.{role_of}
use Rattle.sr_lines.specs.declared.line.Line.TheVariants as line
use Rattle.sr_node.specs.NodeImages.{image_state}
use Rattle.sr_node.specs.Outboxes.{box_at}
use Rattle.sr_node.specs.Starts.{Start}
use Rattle.sr_laws_node.specs.Brought.{went, parcels_of}
use Rattle.sr_laws_node.specs.NodeRuns.{Turn}
use Rattle.sr_laws_node.specs.SteadyNodes.{IsSteady}
use Rattle.sr_plant_script.specs.Members.{mac_of}
use Rattle.sr_ports.specs.declared.settling.Settlement.TheVariants.{Settled}
use Rattle.sr_ports.specs.declared.worker.Worker.TheVariants as who
use Rattle.sr_laws_ports.specs.Turns.{AreTurns}
use Rattle.sr_threaded.specs.declared.kit.LineEnd.{LineEnd}
use Rattle.sr_threaded.specs.declared.kit.NodeEnd.{NodeEnd}
use Rattle.sr_threaded_script.specs.declared.host.Host.{Host}
use Rattle.sr_threaded_script.specs.declared.setup.ThreadedSetup.{ThreadedSetup}
use Rattle.sr_threaded_script.specs.Hosts.{host_given}
use Rattle.sr_threaded_script.specs.Members.{member_kind}
use Rattle.sr_threaded_script.specs.Networks.{IsReport}
use Rattle.sr_threaded_script.specs.Reports.{given_lines, settled_line, lost_line, report_from}
use Rattle.sr_workers.specs.declared.feed.Feed.{Ghosts}
use Rattle.sr_workers.specs.declared.feed.Given.{Given}
use Rattle.sr_workers.specs.Work.{GivesEach, puts, losses_after, parcels_in}
use Rattle.sr_laws_ports.specs.LogLaws.{written_by}

-- how the node of this number begins
abbrev pub start_in : ThreadedSetup → ℕ → Start
start_in setup node = record { role = role_of (member_kind setup.net) (mac_of node); settings = setup.settings }

-- Of the node of this number, which ended so: its lines are an `up` line for each frame that its host was given, that it is settled, and
-- what it lost. Of the frames that the host's worker took out, those that the port can write were given to the host, in order, each once,
-- as the port writes it; the host has all but those that it counts as lost. What was taken out, and then what waits there, is what went
-- there in these turns, in order, each pair of source and number once.
pub record PrintsWhatWent (feed : Ghosts Host) (f : FramingImage) (node : ℕ) (e : NodeEnd Host feed) (turns : List Turn)
    (text : List ℕ) : Type 0 where
  pub host : Host
  pub end : LineEnd Host
  pub at : slice_get e.ends.items 2 ≡ Some end
  pub at_host : end.line ≡ line.Host host
  pub lines : text ≡ given_lines node (host_given host) ++ (settled_line node Settled ++ lost_line node e.lost)
  pub gave : List (Given × List ℕ)
  pub sends : GivesEach f (parcels_in (written_by who.Host e.logs.items)) gave
  pub given : host_given host ≡ puts gave
  pub short : host.lost ≡ losses_after 0 gave
  pub once : parcels_in (written_by who.Host e.logs.items) ++ box_at (image_state e.segment.closing).core.out H ≡ parcels_of (went H turns)

-- In each report of a network, behind the lines of the nodes before it and before those of the nodes behind it, a node that is settled has
-- lines that print what went to its host, where its history is steady from its new node on.
abbrev pub UpLinesWentOnce : Ghosts Host → Type 0
UpLinesWentOnce feed =
    (setup : ThreadedSetup) (sent : List (ℕ × List ℕ)) (rounds : ℕ) (text : List ℕ) (report : IsReport feed setup sent rounds text)
    (node : ℕ) (e : NodeEnd Host feed) (number : ℕ → ℤ) (turns : List Turn)
    → slice_get report.ends node ≡ Some e → e.settlement ≡ Settled
    → AreTurns number [] (image_state e.segment.opening) e.segment.entries.items (image_state e.segment.closing) turns
    → IsSteady (start_in setup node) turns
    → (own : List ℕ)
    × (text ≡ report_from 0 (take node report.ends) ++ (own ++ report_from (node + 1) (drop (node + 1) report.ends)))
    × PrintsWhatWent feed (carriage (member_kind setup.net) H) node e turns own
