-- Journals of a real node, worked out: two workers at a doubly attached node enter what comes in, what is sent, and what they take out.
use Rattle.std.specs.Prelude.{◌≡◌, ℕ, ℤ, pos, false, List, [], ◌∷◌, ◌++◌, Some}
use Rattle.sr_frame.specs.declared.fields.Mac.{Mac}
use Rattle.sr_frame.specs.declared.ports.Port.TheVariants.{H, A}
use Rattle.sr_frame.specs.Frame.{padded}
use Rattle.sr_prp_trailer.specs.Trailed.{trailer_octets}
use Rattle.sr_prp_trailer.specs.declared.trailer.Lan.TheVariants as lan
use Rattle.sr_forwarding.specs.declared.form.Form.TheVariants as form
use Rattle.sr_forwarding.specs.declared.kind.RoleKind.TheVariants.{Danp, Danh}
use Rattle.sr_forwarding.specs.declared.role_image.RoleImage.{RoleImage}
use Rattle.sr_forwarding.specs.Framings.{path_of}
use Rattle.sr_forwarding.specs.Parcels.{ParcelImage, plain_parcel}
use Rattle.sr_forwarding.specs.RoleImages.{role_of}
use Rattle.sr_node.specs.declared.event.Event.{Event}
use Rattle.sr_node.specs.declared.event.Event.TheVariants.{Arrive, Send, Take}
use Rattle.sr_node.specs.declared.event.Answer.{Answer}
use Rattle.sr_node.specs.declared.event.Answer.TheVariants.{Passed, Sent, Taken}
use Rattle.sr_node.specs.declared.mode.Settings.{Settings}
use Rattle.sr_node.specs.Images.{State}
use Rattle.sr_node.specs.Limits.{first_number}
use Rattle.sr_node.specs.NodeImages.{image_state}
use Rattle.sr_node.specs.Starts.{Start, begun_as}
use Rattle.sr_laws_node.specs.Brought.{went, parcels_of}
use Rattle.sr_laws_node.specs.NodeRuns.{Turn}
use Rattle.sr_laws_node.specs.Origins.{new, BeginsAs}
use Rattle.sr_laws_node.specs.SteadyNodes.{IsSteady}
use Rattle.sr_ports.specs.declared.entry.Entry.{Entry}
use Rattle.sr_ports.specs.declared.log.Log.{Log}
use Rattle.sr_ports.specs.declared.segment.Segment.{Segment}
use Rattle.sr_ports.specs.declared.settling.Settlement.TheVariants.{Settled}
use Rattle.sr_ports.specs.declared.worker.Worker.{Worker}
use Rattle.sr_ports.specs.declared.worker.Worker.TheVariants as who
use Rattle.sr_ports.specs.Histories.{entry, Steps}
use Rattle.sr_ports.specs.Settling.{IsSettlement, IsSettlementOfAll, AreWhole}
use Rattle.sr_laws_ports.specs.Turns.{AreTurns, AreTurnsOfAll}
use Rattle.sr_workers.specs.Work.{AreOwn, parcels_in}
use Rattle.sr_laws_ports.specs.LogLaws.{written_by}

-- the address 02:00:00:00:00:0n
abbrev pub station : ℕ → Mac
station n = record { 0 = 2 ∷ 0 ∷ 0 ∷ 0 ∷ 0 ∷ n ∷ [] }

-- a frame from one to the other: both addresses, the type of IPv4, and no payload
abbrev pub frame_from : ℕ → ℕ → List ℕ
frame_from n m = (station m).0 ++ (station n).0 ++ 0x08 ∷ 0x00 ∷ []

-- the node: station 2
abbrev pub station_role : RoleImage
station_role = role_of Danp (station 2)

abbrev pub station_start : Settings → Start
station_start settings = record { role = station_role; settings = settings }

-- what comes in at A: a frame of station 1, as LAN A carries it under number 7
abbrev pub frame_at_a : ParcelImage
frame_at_a = record {
  form = form.Prp;
  octets = padded (frame_from 1 2) ++ trailer_octets (record { seq = record { 0 = 7 }; lan = lan.A; size = 52 });
  seq = Some (record { 0 = 7 });
  path = path_of lan.A 0;
  wrong_lan = false;
}

-- what goes out for a frame of the host: it has the first number of a node
abbrev pub gone : ParcelImage
gone = plain_parcel (frame_from 2 1) (Some (record { 0 = first_number }))

-- what was entered: by the worker of A, and by the host's, before and after the journal may be closed
abbrev pub coming : Event × Answer
coming = (Arrive A frame_at_a 0, Passed (H ∷ []))

abbrev pub sending : Event × Answer
sending = (Send (frame_from 2 1) 0, Sent (record { 0 = first_number }))

abbrev pub taking_up : Event × Answer
taking_up = (Take H, Taken (Some frame_at_a))

abbrev pub taking_out : Event × Answer
taking_out = (Take A, Taken (Some gone))

abbrev pub entered_by : Worker → Event × Answer → Entry
entered_by w x = entry w x.0 x.1

abbrev pub brought_entries : List Entry
brought_entries = entered_by who.A coming ∷ entered_by who.Host sending ∷ []

abbrev pub taken_entries : List Entry
taken_entries = entered_by who.Host taking_up ∷ entered_by who.A taking_out ∷ []

-- the one frame that comes in stands for the whole number 7
abbrev pub sevens : ℕ → ℤ
sevens n = pos 7

-- a log of this worker that has these pairs
pub record IsLogOf (w : Worker) (pairs : List (Event × Answer)) (l : Log) : Type 0 where
  pub worker : l.worker ≡ w
  pub pairs_are : l.pairs.items ≡ pairs

-- the logs of the two workers
pub record AreLogsOfTwo (a host : Log) : Type 0 where
  pub at_a : IsLogOf who.A (coming ∷ taking_out ∷ []) a
  pub at_host : IsLogOf who.Host (sending ∷ taking_up ∷ []) host

-- Such logs meet with a journal all that is asked by the laws of logs: it is a steady history of a new node, they settle it, and each
-- worker has events of its own alone. What each took out went out at its port, once, and no more did.
pub record SettlesForTwo (start : Start) (logs : List Log) (turns : List Turn) (t : State) : Type 0 where
  pub begins : BeginsAs (new start) (begun_as start)
  pub history : AreTurns sevens [] (begun_as start) (brought_entries ++ taken_entries) t turns
  pub steady : IsSteady start turns
  pub settled : IsSettlement (brought_entries ++ taken_entries) logs Settled
  pub own : (v : Worker) → AreOwn v (written_by v logs)
  pub up : parcels_in (written_by who.Host logs) ≡ frame_at_a ∷ []
  pub out : parcels_in (written_by who.A logs) ≡ gone ∷ []
  pub went_up : parcels_of (went H turns) ≡ frame_at_a ∷ []
  pub went_out : parcels_of (went A turns) ≡ gone ∷ []

-- there is such a history, in every mode and at every width
abbrev pub JournalsMeetThePremises : Type 0
JournalsMeetThePremises =
    (settings : Settings) (a host : Log) → AreLogsOfTwo a host
    → (turns : List Turn) × (t : State) × SettlesForTwo (station_start settings) (a ∷ host ∷ []) turns t

-- a segment with these entries, that opens and closes with these nodes
pub record IsSegmentOf (s : State) (entries : List Entry) (t : State) (g : Segment) : Type 0 where
  pub opens : image_state g.opening ≡ s
  pub entries_are : g.entries.items ≡ entries
  pub closes : image_state g.closing ≡ t

-- the node with the role of a ring, and the same address
abbrev pub in_a_ring : State → State
in_a_ring s = record s { role = role_of Danh (station 2) }

-- Two segments meet all that is asked by the laws of segments: none is torn, the first opens with a new node, and they are steady. The
-- logs settle both, and what the entries took out went out, once.
pub record SettlesInTwo (start : Start) (logs : List Log) (g h : Segment) (turns : List Turn) : Type 0 where
  pub begins : BeginsAs (new start) (image_state g.opening)
  pub whole : AreWhole (g ∷ h ∷ [])
  pub history : AreTurnsOfAll sevens g (h ∷ []) turns
  pub steady : IsSteady start turns
  pub settled : IsSettlementOfAll (g ∷ h ∷ []) logs Settled
  pub went_up : parcels_of (went H turns) ≡ frame_at_a ∷ []
  pub went_out : parcels_of (went A turns) ≡ gone ∷ []

-- In every mode and at every width the node comes to a state by what comes in and is sent, and from there, with the role exchanged, to
-- another by what is taken out; all segments that open and close so meet the premises.
abbrev pub SegmentsMeetThePremises : Type 0
SegmentsMeetThePremises =
    (settings : Settings) → (middle last : State)
    × Steps (begun_as (station_start settings)) brought_entries middle × Steps (in_a_ring middle) taken_entries last
    × ((a host : Log) (g h : Segment) → AreLogsOfTwo a host
    → IsSegmentOf (begun_as (station_start settings)) brought_entries middle g → IsSegmentOf (in_a_ring middle) taken_entries last h
    → (turns : List Turn) × SettlesInTwo (station_start settings) (a ∷ host ∷ []) g h turns)
