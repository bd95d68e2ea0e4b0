-- What settling answers.
use Rattle.std.specs.Prelude.{◌≡◌, ℕ, ◌+◌, ◌<◌, List, length, Some, slice_get}
use Rattle.sr_node.specs.NodeImages.{image_state}
use Rattle.sr_ports.specs.declared.segment.Segment.{Segment}
use Rattle.sr_node.specs.Images.{State}
use Rattle.sr_ports.specs.declared.entry.Entry.{Entry}
use Rattle.sr_ports.specs.declared.log.Log.{Log}
use Rattle.sr_ports.specs.declared.settling.Settlement.{Settlement}
use Rattle.sr_ports.specs.declared.settling.Settlement.TheVariants.{Settled, Disagrees, Torn}
use Rattle.sr_ports.specs.declared.worker.Worker.{Worker}
use Rattle.sr_ports.specs.Parts.{Agrees, AgreeBefore, entries_in}

-- settled exactly where each worker agrees, and else the first that does not; entries that follow each other are not torn
abbrev pub IsSettlement : List Entry → List Log → Settlement → Type 0
IsSettlement es ls Settled = (w : Worker) → Agrees w es ls
IsSettlement es ls (Disagrees w) = ¬ Agrees w es ls × AgreeBefore w es ls
IsSettlement es ls (Torn i) = ⊥

-- a segment may open so after another closed so: all is the same but the role, which has the same address
pub record Follows (closing opening : State) : Type 0 where
  pub core : opening.core ≡ closing.core
  pub mac : opening.role.mac ≡ closing.role.mac

-- the segment behind the one at this place does not follow it
abbrev pub IsBroken : List Segment → ℕ → Type 0
IsBroken ss i =
    (s : Segment) × (t : Segment) × (slice_get ss i ≡ Some s) × (slice_get ss (i + 1) ≡ Some t)
    × ¬ Follows (image_state s.closing) (image_state t.opening)

-- of the first segments, so many, each follows the one before
abbrev pub FollowUpTo : List Segment → ℕ → Type 0
FollowUpTo ss n =
    (i : ℕ) → i + 1 < n → (s t : Segment) → slice_get ss i ≡ Some s → slice_get ss (i + 1) ≡ Some t
    → Follows (image_state s.closing) (image_state t.opening)

-- each segment follows the one before
abbrev pub AreWhole : List Segment → Type 0
AreWhole ss = FollowUpTo ss (length ss)

-- the segment at this place, counted from 0, is the first that does not follow the one before
abbrev pub IsTorn : List Segment → ℕ → Type 0
IsTorn ss n = (i : ℕ) × (n ≡ i + 1) × FollowUpTo ss n × IsBroken ss i

-- torn exactly where a segment does not follow, and else as of the entries of all segments
abbrev pub IsSettlementOfAll : List Segment → List Log → Settlement → Type 0
IsSettlementOfAll ss ls Settled = AreWhole ss × IsSettlement (entries_in ss) ls Settled
IsSettlementOfAll ss ls (Disagrees w) = AreWhole ss × IsSettlement (entries_in ss) ls (Disagrees w)
IsSettlementOfAll ss ls (Torn n) = IsTorn ss n
