-- How the network of a script ran.
use Rattle.std.specs.Prelude.{◌≡◌, ℕ, List, length, map}
use Rattle.sr_forwarding.specs.declared.own_role.OwnRole.{OwnRole}
use Rattle.sr_forwarding.specs.declared.port_framing.PortFraming.{PortFraming}
use Rattle.sr_forwarding.specs.PortFramings.{carried_as}
use Rattle.sr_node.specs.States.{state_of}
use Rattle.sr_plant_script.specs.declared.members.MemberRouting.{MemberRouting}
use Rattle.sr_workers.specs.declared.feed.Feed.{Ghosts}
use Rattle.sr_threaded.specs.declared.kit.NodeEnd.{NodeEnd}
use Rattle.sr_threaded.specs.declared.kit.NodeKit.{NodeKit}
use Rattle.sr_threaded.specs.Ran.{RanInRing, RanInLans, ring_starts, lan_starts}
use Rattle.sr_threaded_script.specs.declared.host.Host.{Host}
use Rattle.sr_threaded_script.specs.declared.setup.ThreadedNet.{ThreadedNet}
use Rattle.sr_threaded_script.specs.declared.setup.ThreadedNet.TheVariants as net
use Rattle.sr_threaded_script.specs.declared.setup.ThreadedSetup.{ThreadedSetup}
use Rattle.sr_threaded_script.specs.Beginnings.{beginning_of, role_image, starting_nodes}
use Rattle.sr_threaded_script.specs.Reports.{AllWhole, report_of}

-- a node and its host
abbrev pub Kit : Type 0
Kit = NodeKit (OwnRole MemberRouting) PortFraming Host

-- these nodes ran in the network, each worker for so many turns, and settle by their histories, logs and wires
abbrev pub RanIn : (feed : Ghosts Host) → ThreadedNet → ℕ → List Kit → List (NodeEnd Host feed) → Type 0
RanIn feed net.Ring turns kits ends =
    RanInRing feed (map (λ (k : Kit). ring_starts feed (state_of role_image k.node) (carried_as k.a) (carried_as k.b)
    (carried_as k.host) turns k.feed) kits) ends
RanIn feed net.TwinLan turns kits ends =
    RanInLans feed (map (λ (k : Kit). lan_starts feed (state_of role_image k.node) (carried_as k.a) (carried_as k.b)
    (carried_as k.host) turns k.feed) kits) ends

-- The text is what is printed of the network of a setup whose hosts are to send this: its nodes, which are new, have the settings of
-- the setup and ran for so many turns, no worker ended early, and of each in order its own lines are printed.
pub record IsReport (feed : Ghosts Host) (setup : ThreadedSetup) (sent : List (ℕ × List ℕ)) (turns : ℕ) (text : List ℕ) : Type 0 where
  pub kits : List Kit
  pub ends : List (NodeEnd Host feed)
  pub new : map beginning_of kits ≡ starting_nodes setup sent setup.nodes
  pub ran : RanIn feed setup.net turns kits ends
  pub count : length ends ≡ setup.nodes
  pub whole : AllWhole ends
  pub printed : text ≡ report_of ends
