-- What a merge keeps, and what becomes of a packet that it takes.
use Rattle.std.specs.Prelude.{
  ◌≡◌,
  ℕ,
  ◌+◌,
  ◌-◌,
  ◌/◌,
  ◌%◌,
  ◌^◌,
  Bool,
  true,
  false,
  ◌&&◌,
  ◌||◌,
  min,
  nat_eq,
  nat_lt,
  zero,
  suc,
  List,
  [],
  ◌∷◌,
  ◌++◌,
  Option,
  None,
  Some,
  if◌then◌else◌,
}
use Rattle.std.specs.HashMap.{HashMap, get}
use Rattle.sr_frame.specs.Addresses.{mac_eq}
use Rattle.sr_dup_window.specs.declared.lane_sets.Lane.TheVariants.{H}
use Rattle.sr_dup_window.specs.declared.lane_sets.Lanes.{Lanes}
use Rattle.sr_dup_window.specs.LaneSets.{has, only}
use Rattle.sr_dup_table.specs.Limits.{window}
use Rattle.sr_dup_table.specs.Sources.{Sources}
use Rattle.sr_dup_table.specs.Ageing.{TableArrival, answer_to, left_by}
use Rattle.sr_audit.specs.declared.side.Side.{Side}
use Rattle.sr_audit.specs.declared.side.Side.TheVariants.{A, B}
use Rattle.sr_audit.specs.Lanes.{other_side}
use Rattle.sr_merge.specs.declared.came.Came.{Came}
use Rattle.sr_merge.specs.declared.came.FrameAt.{FrameAt}
use Rattle.sr_merge.specs.declared.came.FrameId.{FrameId}
use Rattle.sr_merge.specs.declared.packet.Packet.{Packet}
use Rattle.sr_merge.specs.declared.waiting.Verdict.{Verdict}
use Rattle.sr_merge.specs.declared.waiting.Verdict.TheVariants as verdict
use Rattle.sr_merge.specs.declared.waiting.Waiting.{Waiting}
use Rattle.sr_merge.specs.Limits.{copy_time, record_step}

-- a packet: where and when it came in, of which frame it is a copy, its number in its capture, whether its trailer names the other LAN, and
-- the octets that are written of it
pub record Read : Type 0 where
  pub came : Came
  pub number : ℕ
  pub is_astray : Bool
  pub octets : List ℕ

-- what is written of a packet that is taken: its two pieces
abbrev pub read_of : Packet → Read
read_of p = record { came = p.came; number = p.number; is_astray = p.is_astray; octets = p.front.now ++ p.back.now }

-- a packet that waits, and whether a copy of it came by the other side
pub record Pending : Type 0 where
  pub packet : Read
  pub is_met : Bool

abbrev pub packet_of : Waiting → Read
packet_of w = record { came = w.came; number = w.number; is_astray = w.is_astray; octets = w.octets.items }

abbrev pub pending_of : Waiting → Pending
pending_of w = record { packet = packet_of w; is_met = w.is_met }

-- a packet of which no copy came yet
abbrev pub unmet : Read → Pending
unmet p = record { packet = p; is_met = false }

-- what a merge keeps: what the duplicate record knows, the packets that were not written yet, in the order in which they came, and how
-- many were taken as they came, since the record was full
pub record Merging : Type 0 where
  pub sources : Sources
  pub waiting : List Pending
  pub untold : ℕ

-- the first of the packets that wait
abbrev pub next_written : List Pending → Option Pending
next_written [] = None
next_written (w ∷ rest) = Some w

abbrev pub is_same_side : Side → Side → Bool
is_same_side A A = true
is_same_side A B = false
is_same_side B A = false
is_same_side B B = true

-- whether these are copies of one frame by one side
abbrev pub at_eq : FrameAt → FrameAt → Bool
at_eq x y = mac_eq x.frame.src y.frame.src && (nat_eq x.frame.seq.0 y.frame.seq.0 && is_same_side x.side y.side)

-- the frame of a packet and its side, where it has a number
abbrev pub frame_at : Side → Option FrameId → Option FrameAt
frame_at side None = None
frame_at side (Some f) = Some (record { frame = f; side = side })

-- whether a packet is a copy of this frame by this side
abbrev pub is_copy_at : Option FrameAt → FrameAt → Bool
is_copy_at None key = false
is_copy_at (Some own) key = at_eq own key

abbrev pub is_copy_of : FrameAt → Pending → Bool
is_copy_of key w = is_copy_at (frame_at w.packet.came.side w.packet.came.frame) key

-- one place farther, or here where none is farther
abbrev pub farther : Bool → Option ℕ → Option ℕ
farther here (Some at) = Some (at + 1)
farther true None = Some 0
farther false None = None

-- the place of the newest copy of a frame by a side
abbrev pub newest_copy : FrameAt → List Pending → Option ℕ
newest_copy key [] = None
newest_copy key (w ∷ ws) = farther (is_copy_of key w) (newest_copy key ws)

-- a packet, of which a copy comes at this time by the other side: it counts within 400 ms
abbrev pub met : ℕ → Pending → Pending
met time w = record w { is_met = w.is_met || nat_lt (time - w.packet.came.time) copy_time }

-- a copy comes of the packet at a place
abbrev pub meet : ℕ → ℕ → List Pending → List Pending
meet time at [] = []
meet time zero (w ∷ ws) = met time w ∷ ws
meet time (suc at) (w ∷ ws) = w ∷ meet time at ws

abbrev pub meet_at : ℕ → Option ℕ → List Pending → List Pending
meet_at time None ws = ws
meet_at time (Some at) ws = meet time at ws

-- a copy that is not written is noted at the newest copy of its frame by the other side that waits
abbrev pub copy_noted : Came → Option FrameId → List Pending → List Pending
copy_noted came None ws = ws
copy_noted came (Some f) ws = meet_at came.time (newest_copy (record { frame = f; side = other_side came.side }) ws) ws

-- by which sides a packet came, if that is known when one comes at this time
abbrev pub verdict_by : ℕ → Pending → Option FrameId → Option Verdict
verdict_by now w None = Some verdict.Unnumbered
verdict_by now w (Some f) = if w.is_met
    then Some verdict.Both
    else (if nat_lt (now - w.packet.came.time) copy_time then None else Some verdict.Alone)

abbrev pub verdict_of : ℕ → Pending → Option Verdict
verdict_of now w = verdict_by now w w.packet.came.frame

-- what the duplicate record is shown of a copy: whether its frame was handed up, in steps of the record's clock
abbrev pub shown_arrival : FrameId → ℕ → TableArrival
shown_arrival f time = record { src = f.src; seq = f.seq.0; lanes = only H; time = time / record_step }

-- what the record answers
abbrev pub answer_for : Sources → FrameId → ℕ → Option Lanes
answer_for s f time = answer_to window s (shown_arrival f time)

-- what it answers to a frame that is to be written: it is new, or the record is full and can't tell
abbrev pub is_new_by : Option Lanes → Bool
is_new_by None = true
is_new_by (Some fresh) = has fresh H

-- whether a packet is written: it has no number, or is new
abbrev pub is_new : Sources → ℕ → Option FrameId → Bool
is_new s time None = true
is_new s time (Some f) = is_new_by (answer_for s f time)

-- what the record knows after it
abbrev pub sources_told : Sources → ℕ → Option FrameId → Sources
sources_told s time None = s
sources_told s time (Some f) = left_by window (answer_for s f time) s (shown_arrival f time)

-- how many packets were taken as they came behind one that the record answers so; they are counted up to 2^64 - 1
abbrev pub untold_by : Option Lanes → ℕ → ℕ
untold_by None untold = min (untold + 1) (2 ^ 64 - 1)
untold_by (Some fresh) untold = untold

abbrev pub untold_after : Sources → ℕ → Option FrameId → ℕ → ℕ
untold_after s time None untold = untold
untold_after s time (Some f) untold = untold_by (answer_for s f time) untold

-- a packet that is written waits behind all others; any other is noted
abbrev pub waiting_behind : Bool → Read → List Pending → List Pending
waiting_behind true p ws = ws ++ unmet p ∷ []
waiting_behind false p ws = copy_noted p.came p.came.frame ws

-- a packet is taken
pub record TakesIn (old : Merging) (p : Read) (new : Merging) : Type 0 where
  pub sources : new.sources ≡ sources_told old.sources p.came.time p.came.frame
  pub waiting : new.waiting ≡ waiting_behind (is_new old.sources p.came.time p.came.frame) p old.waiting
  pub untold : new.untold ≡ untold_after old.sources p.came.time p.came.frame old.untold

-- where a packet is noted that waits at a place, when so many are gone: their sum in 64 bits
abbrev pub noted_place : ℕ → Option ℕ → Option ℕ
noted_place gone None = None
noted_place gone (Some at) = Some ((gone + at) % 2 ^ 64)

-- whether a copy by the other side is known of the packet at a place
abbrev pub is_met_at : List Pending → ℕ → Bool
is_met_at [] at = false
is_met_at (w ∷ ws) zero = w.is_met
is_met_at (w ∷ ws) (suc at) = is_met_at ws at

-- whether no more copies are waited for: there is no packet at a place, or a copy of it is known
abbrev pub is_settled : List Pending → Option ℕ → Bool
is_settled ws None = true
is_settled ws (Some at) = is_met_at ws at

-- what is noted of a frame and a side, whose newest copy waits at this place: the place, or nothing where it is settled
abbrev pub IsNoted : ℕ → List Pending → Option ℕ → Option ℕ → Type 0
IsNoted gone ws newest None = is_settled ws newest ≡ true
IsNoted gone ws newest (Some place) = (noted_place gone newest ≡ Some place) × (is_settled ws newest ≡ false)

abbrev pub HasPlaces : {S : Type 0} → ℕ → HashMap FrameAt ℕ S → List Pending → Type 0
HasPlaces gone map ws = (key : FrameAt) → IsNoted gone ws (newest_copy key ws) (get at_eq map key)

-- the frame and side of a packet, where no copy of it is known
abbrev pub unmet_at : Bool → Option FrameAt → Option FrameAt
unmet_at true at = None
unmet_at false at = at

-- a place is noted at a frame and a side
abbrev pub PutsPlace : {S : Type 0} → FrameAt → ℕ → HashMap FrameAt ℕ S → HashMap FrameAt ℕ S → Type 0
PutsPlace own place old new = (key : FrameAt) → get at_eq new key ≡ (if at_eq own key then Some place else get at_eq old key)

-- what is left of what is noted, where this place is forgotten
abbrev pub unless_place : ℕ → Option ℕ → Option ℕ
unless_place place None = None
unless_place place (Some at) = if nat_eq at place then None else Some at

-- a place is forgotten at a frame and a side
abbrev pub ForgetsPlace : {S : Type 0} → FrameAt → ℕ → HashMap FrameAt ℕ S → HashMap FrameAt ℕ S → Type 0
ForgetsPlace own place old new = (key : FrameAt) → get at_eq new key
    ≡ (if at_eq own key then unless_place place (get at_eq old key) else get at_eq old key)

-- what is noted at a frame and a side is forgotten
abbrev pub ForgetsFrame : {S : Type 0} → FrameAt → HashMap FrameAt ℕ S → HashMap FrameAt ℕ S → Type 0
ForgetsFrame own old new = (key : FrameAt) → get at_eq new key ≡ (if at_eq own key then None else get at_eq old key)
