-- What is printed of the nodes that a node has heard.
use Rattle.std.specs.Prelude.{ℕ, List, [], ◌∷◌, ◌++◌, codes, Option, None, Some}
use Rattle.std.specs.Fmt.{decimal}
use Rattle.std.specs.List.{flat_map}
use Rattle.sr_frame.specs.declared.fields.Mac.{Mac}
use Rattle.sr_frame.specs.Addresses.{pairs_of}
use Rattle.sr_node.specs.Images.{Image}
use Rattle.sr_node_table.specs.declared.alarm.Alarm.{Alarm}
use Rattle.sr_node_table.specs.declared.alarm.Alarm.TheVariants.{RingError, NodeDown}
use Rattle.sr_node_table.specs.declared.status.Status.{Status}
use Rattle.sr_node_table.specs.Stating.{listed_at, status_at}
use Rattle.sr_session.specs.Octets.{spaced}
use Rattle.sr_script.specs.Commands.{letter_of}
use Rattle.sr_script.specs.Texts.{printed}

-- what follows where a node stands behind a RedBox
abbrev pub redbox_part : Option Mac → List ℕ
redbox_part None = []
redbox_part (Some mac) = codes " redbox " ++ pairs_of mac.0

-- a node, and how long ago it was heard at each port
abbrev pub age_words : Status → List (List ℕ)
age_words s = codes "node" ∷ pairs_of s.addr.0 ∷ codes "if1_age" ∷ decimal s.if1_age ∷ codes "if2_age" ∷ decimal s.if2_age ∷ []

-- its last number at each port, and the indices of the ports
abbrev pub number_words : Status → List (List ℕ)
number_words s = codes "if1_seq" ∷ decimal s.if1_seq ∷ codes "if2_seq" ∷ decimal s.if2_seq
    ∷ codes "if1_ifindex" ∷ decimal s.if1_ifindex ∷ codes "if2_ifindex" ∷ decimal s.if2_ifindex ∷ []

-- the line of a node
abbrev pub node_line : Status → List ℕ
node_line s = spaced (age_words s ++ number_words s) ++ redbox_part s.redbox ++ 10 ∷ []

-- the line of an alarm
abbrev pub alarm_line : Alarm → List ℕ
alarm_line (RingError mac port at) = printed (
    codes "alarm" ∷ codes "RingError" ∷ pairs_of mac.0 ∷ codes "port" ∷ letter_of port ∷ codes "at" ∷ decimal at ∷ [])
alarm_line (NodeDown mac at) = printed (codes "alarm" ∷ codes "NodeDown" ∷ pairs_of mac.0 ∷ codes "at" ∷ decimal at ∷ [])

-- the line of an address, if anything is told of it
abbrev pub status_line : Option Status → List ℕ
status_line None = []
status_line (Some status) = node_line status

-- a line for each node that is not forgotten at the node's own time, in the order of first hearing
abbrev pub nodes_text : Image → List ℕ
nodes_text i = flat_map (λ mac. status_line (status_at i.nodes mac i.time)) (listed_at i.nodes i.time)

-- a line for each alarm that is kept, the oldest first
abbrev pub alarms_text : Image → List ℕ
alarms_text i = flat_map alarm_line i.nodes.alarms

-- the nodes, and then the alarms
abbrev pub status_text : Image → List ℕ
status_text i = nodes_text i ++ alarms_text i
