-- What the nodes of a network did, by what they began with.
use Rattle.std.specs.Prelude.{◌≡◌, ◌≢◌, ◌⊎◌, ◌<◌, ℕ, true, false, List, [], ◌∷◌, length, vec_len, slice_index_or}
use Rattle.sr_forwarding.specs.Framings.{FramingImage}
use Rattle.sr_lines.specs.declared.line.Line.{Line}
use Rattle.sr_lines.specs.Handed.{tells_of, handed_of, asked_of, given_of, losses_of, ended_of, failed_of}
use Rattle.sr_lines.specs.Names.{LineName, OfHost, OfRing, OfLan, line_name}
use Rattle.sr_lines.specs.Pairs.{WirePair}
use Rattle.sr_node.specs.Images.{State}
use Rattle.sr_node.specs.NodeImages.{image_state}
use Rattle.sr_ports.specs.declared.log.Log.{Log}
use Rattle.sr_ports.specs.declared.segment.Segment.{Segment}
use Rattle.sr_ports.specs.declared.settling.Settlement.{Settlement}
use Rattle.sr_ports.specs.declared.settling.Settlement.TheVariants.{Torn}
use Rattle.sr_ports.specs.Settling.{IsSettlement}
use Rattle.sr_ports.specs.declared.worker.Worker.{Worker}
use Rattle.sr_ports.specs.declared.worker.Worker.TheVariants as who
use Rattle.sr_workers.specs.declared.feed.Feed.{Ghosts}
use Rattle.sr_workers.specs.declared.kit.WorkerEnd.{WorkerEnd}
use Rattle.sr_workers.specs.Worked.{Begun, worker_begun, Ended, Worked}
use Rattle.sr_threaded.specs.declared.kit.LineEnd.{LineEnd}
use Rattle.sr_threaded.specs.declared.kit.NodeEnd.{NodeEnd}
use Rattle.sr_threaded.specs.declared.judging.Judgement.{Judgement}
use Rattle.sr_threaded.specs.Joined.{RingWires, IsRing, IsLan}
use Rattle.sr_threaded.specs.Judged.{IsJudged, settlement_of, before, behind}
use Rattle.sr_threaded.specs.Sources.{IsJudgedInLans}

-- what a worker begins with, and the name of its line
pub record LineStart (N : Type 0) : Type 0 where
  pub line : LineName N
  pub begun : Begun

-- what a worker at a line begins with, when so many events were entered with its pass
abbrev pub line_start : {F : Type 0} (feed : Ghosts F) → Worker → FramingImage → ℕ → ℕ → Line F → LineStart feed.Name
line_start feed w f turns count l =
    record {
      line = line_name feed.name l;
      begun = worker_begun w f turns count (tells_of feed.tells l) (handed_of feed.handed l) (asked_of feed.asked l)
          (given_of feed.given l) (losses_of feed.losses l) (failed_of feed.failed l);
    }

-- at wires that nothing was sent on and nothing was taken from: those to and from a neighbour, which tell what they hand out and what
-- is put on them, or those to and from each other node of a LAN, which do not
abbrev pub ring_start : {F : Type 0} (feed : Ghosts F) → Worker → FramingImage → ℕ → WirePair → LineStart feed.Name
ring_start feed w f turns wires = record { line = OfRing wires; begun = worker_begun w f turns 0 true [] 0 [] 0 0 }

abbrev pub lan_start : {F : Type 0} (feed : Ghosts F) → Worker → FramingImage → ℕ → List WirePair → LineStart feed.Name
lan_start feed w f turns wires = record { line = OfLan wires; begun = worker_begun w f turns 0 false [] 0 [] 0 0 }

-- at the host's feed
abbrev pub host_start : {F : Type 0} (feed : Ghosts F) → FramingImage → ℕ → F → LineStart feed.Name
host_start feed f turns host =
    record {
      line = OfHost (feed.name host);
      begun = worker_begun who.Host f turns 0 (feed.tells host) (feed.handed host) (feed.asked host) (feed.given host)
          (feed.losses host) (feed.failed host);
    }

-- what shows of a worker as it ends, by its log and by what it ends with beside
abbrev pub line_ended : {F : Type 0} (feed : Ghosts F) → ℕ → Log → LineEnd F → Ended
line_ended feed count log e =
    record {
      count = count;
      pairs = log.pairs.items;
      handed = handed_of feed.handed e.line;
      asked = asked_of feed.asked e.line;
      given = given_of feed.given e.line;
      losses = losses_of feed.losses e.line;
      failed = failed_of feed.failed e.line;
      ended = ended_of feed.ended e.line;
      unread = e.unread;
      fault = e.fault;
      held = e.held;
    }

-- a worker that began so did what `Worked` says: the log is its own, and the line is the one that it began with
pub record LineRan {F : Type 0} (feed : Ghosts F) (s : LineStart feed.Name) (log : Log) (e : LineEnd F) : Type 0 where
  pub own : log.worker ≡ s.begun.worker
  pub line : line_name feed.name e.line ≡ s.line
  pub count : ℕ
  pub worked : Worked s.begun (line_ended feed count log e)

-- what a node begins with: its state, and what its workers begin with, in this order
pub record NodeStart (N : Type 0) : Type 0 where
  pub node : State
  pub lines : List (LineStart N)

abbrev pub start_with : {N : Type 0} → State → List (LineStart N) → NodeStart N
start_with node lines = record { node = node; lines = lines }

-- how the history of a node that began so settles: as its logs do, where it opens with that node, and else it is torn at once
abbrev pub IsSettlementFrom : State → Segment → List Log → Settlement → Type 0
IsSettlementFrom node history logs settlement =
    ((image_state history.opening ≡ node) × IsSettlement history.entries.items logs settlement)
    ⊎ ((image_state history.opening ≢ node) × (settlement ≡ Torn 0))

-- each worker of a node did, in this order, and so the history that the node had from its start on settles by their logs
pub record NodeRan {F : Type 0} (feed : Ghosts F) (start : NodeStart feed.Name) (own : Settlement) (e : NodeEnd F feed) : Type 0 where
  pub logs : vec_len e.logs ≡ length start.lines
  pub ends : vec_len e.ends ≡ length start.lines
  pub each : (i : ℕ) (s : LineStart feed.Name) (l : Log) (x : LineEnd F) → i < length start.lines
      → LineRan feed (slice_index_or start.lines i s) (slice_index_or e.logs.items i l) (slice_index_or e.ends.items i x)
  pub settles : IsSettlementFrom start.node e.segment e.logs.items own

-- each of these nodes ran, and nothing was judged of its wires
pub record AllRan {F : Type 0} (feed : Ghosts F) (starts : List (NodeStart feed.Name)) (ends : List (NodeEnd F feed)) : Type 0 where
  pub count : length ends ≡ length starts
  pub each : (i : ℕ) (s : NodeStart feed.Name) (e : NodeEnd F feed) → i < length starts
      → NodeRan feed (slice_index_or starts i s) (slice_index_or ends i e).settlement (slice_index_or ends i e)

-- what a node in this state begins with, and its workers at A, at B and of the host: in a ring with these wires, and in two LANs
abbrev pub ring_starts : {F : Type 0} (feed : Ghosts F) → State → FramingImage → FramingImage → FramingImage → ℕ → F → RingWires
    → NodeStart feed.Name
ring_starts feed node a b host turns f wires =
    start_with node (ring_start feed who.A a turns wires.a ∷ ring_start feed who.B b turns wires.b ∷ host_start feed host turns f ∷ [])

abbrev pub lan_starts : {F : Type 0} (feed : Ghosts F) → State → FramingImage → FramingImage → FramingImage → ℕ → F
    → List WirePair → List WirePair
    → NodeStart feed.Name
lan_starts feed node a b host turns f at_a at_b =
    start_with node (lan_start feed who.A a turns at_a ∷ lan_start feed who.B b turns at_b ∷ host_start feed host turns f ∷ [])

-- what it begins with at these lines
abbrev pub starts_at : {F : Type 0} (feed : Ghosts F) → State → FramingImage → FramingImage → FramingImage → ℕ
    → Line F → Line F → Line F
    → NodeStart feed.Name
starts_at feed node a b host turns at_a at_b at_host =
    start_with node (line_start feed who.A a turns 0 at_a ∷ line_start feed who.B b turns 0 at_b
    ∷ line_start feed who.Host host turns 0 at_host ∷ [])

-- nodes begin so at the wires of a ring
pub record WiredInRing {S : Type 0} (begins : List (RingWires → S)) (starts : List S) : Type 0 where
  pub wires : List RingWires
  pub count : length wires ≡ length starts
  pub ring : IsRing wires
  pub each : (i : ℕ) (b : RingWires → S) (w : RingWires) (s : S) → i < length starts
      → slice_index_or starts i s ≡ slice_index_or begins i b (slice_index_or wires i w)

-- or at those of two LANs
pub record WiredInLans {S : Type 0} (begins : List (List WirePair → List WirePair → S)) (starts : List S) : Type 0 where
  pub a : List (List WirePair)
  pub b : List (List WirePair)
  pub count_a : length a ≡ length starts
  pub count_b : length b ≡ length starts
  pub lan_a : IsLan a
  pub lan_b : IsLan b
  pub each : (i : ℕ) (f : List WirePair → List WirePair → S) (w : List WirePair) (s : S) → i < length starts
      → slice_index_or starts i s ≡ slice_index_or begins i f (slice_index_or a i w) (slice_index_or b i w)

-- a log, and what a worker ends with beside, are all that it ends with
pub record ArePartsOf {F : Type 0} (whole : WorkerEnd (Line F)) (log : Log) (e : LineEnd F) : Type 0 where
  pub log_is : log ≡ whole.log
  pub line_is : e.line ≡ whole.feed
  pub unread_is : e.unread ≡ whole.unread
  pub fault_is : e.fault ≡ whole.fault
  pub held_is : e.held ≡ whole.held

-- a node's end behind that whose wires were judged: all of it stays but its settlement, which tells of the wires too
pub record EndsJudged {F : Type 0} {feed : Ghosts F} (was : NodeEnd F feed) (j : Judgement) (e : NodeEnd F feed) : Type 0 where
  pub segment : e.segment ≡ was.segment
  pub logs : e.logs ≡ was.logs
  pub ends : e.ends ≡ was.ends
  pub lost : e.lost ≡ was.lost
  pub settlement : e.settlement ≡ settlement_of was.settlement j

-- each end of the nodes of a ring, and of two LANs, was judged so
pub record AreJudgedInRing {F : Type 0} {feed : Ghosts F} (were ends : List (NodeEnd F feed)) : Type 0 where
  pub count : length ends ≡ length were
  pub each : (i : ℕ) (e : NodeEnd F feed) → i < length were → (j : Judgement)
      × IsJudged (slice_index_or were (before i (length were)) e).logs.items (slice_index_or were i e).logs.items
      (slice_index_or were (behind i (length were)) e).logs.items j
      × EndsJudged (slice_index_or were i e) j (slice_index_or ends i e)

pub record AreJudgedInLans {F : Type 0} {feed : Ghosts F} (were ends : List (NodeEnd F feed)) : Type 0 where
  pub count : length ends ≡ length were
  pub each : (i : ℕ) (e : NodeEnd F feed) → i < length were → (j : Judgement)
      × IsJudgedInLans were (slice_index_or were i e) j × EndsJudged (slice_index_or were i e) j (slice_index_or ends i e)

-- A node of a ring that began so ended so, between the nodes before and behind it: its settlement is that of its history by its logs
-- and of its wires, as they are judged.
pub record EndedInRing {F : Type 0} (feed : Ghosts F) (start : NodeStart feed.Name) (first e last : NodeEnd F feed) : Type 0 where
  pub own : Settlement
  pub judgement : Judgement
  pub ran : NodeRan feed start own e
  pub judged : IsJudged first.logs.items e.logs.items last.logs.items judgement
  pub settlement : e.settlement ≡ settlement_of own judgement

-- So did one of the nodes of two LANs.
pub record EndedInLans {F : Type 0} (feed : Ghosts F) (start : NodeStart feed.Name) (all : List (NodeEnd F feed)) (e : NodeEnd F feed)
    : Type 0 where
  pub own : Settlement
  pub judgement : Judgement
  pub ran : NodeRan feed start own e
  pub judged : IsJudgedInLans all e judgement
  pub settlement : e.settlement ≡ settlement_of own judgement

-- Nodes of a ring ran, of which each begins so by its wires: B of each is joined to A of the next, each worker did what `Worked`
-- says, at its wires or at its host's feed, and each node settles by its history, its logs and its wires.
pub record RanInRing {F : Type 0} (feed : Ghosts F) (begins : List (RingWires → NodeStart feed.Name)) (ends : List (NodeEnd F feed))
    : Type 0 where
  pub wires : List RingWires
  pub count : length wires ≡ length ends
  pub ring : IsRing wires
  pub each : (i : ℕ) (b : RingWires → NodeStart feed.Name) (w : RingWires) (e : NodeEnd F feed) → i < length ends
      → EndedInRing feed (slice_index_or begins i b (slice_index_or wires i w)) (slice_index_or ends (before i (length ends)) e)
      (slice_index_or ends i e) (slice_index_or ends (behind i (length ends)) e)

-- Nodes of two LANs ran, of which each begins so by its wires in A and in B: in each LAN every two nodes are joined, each worker did
-- what `Worked` says, at its wires or at its host's feed, and each node settles by its history, its logs and its wires.
pub record RanInLans {F : Type 0} (feed : Ghosts F) (begins : List (List WirePair → List WirePair → NodeStart feed.Name))
    (ends : List (NodeEnd F feed)) : Type 0 where
  pub a : List (List WirePair)
  pub b : List (List WirePair)
  pub count_a : length a ≡ length ends
  pub count_b : length b ≡ length ends
  pub lan_a : IsLan a
  pub lan_b : IsLan b
  pub each : (i : ℕ) (s : List WirePair → List WirePair → NodeStart feed.Name) (w : List WirePair) (e : NodeEnd F feed)
      → i < length ends
      → EndedInLans feed (slice_index_or begins i s (slice_index_or a i w) (slice_index_or b i w)) ends (slice_index_or ends i e)
