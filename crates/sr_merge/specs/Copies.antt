-- By which sides packets came, in the words of the packets that were taken.
use Rattle.std.specs.Prelude.{◌≡◌, ℕ, ◌-◌, ◌<◌, ◌⊎◌, true, false, List, [], ◌∷◌, ◌++◌, Some, slice_get}
use Rattle.sr_audit.specs.Lanes.{other_side}
use Rattle.sr_merge.specs.declared.came.FrameId.{FrameId}
use Rattle.sr_merge.specs.Limits.{copy_time}
use Rattle.sr_merge.specs.Merging.{Read, Pending, is_new, newest_copy}
use Rattle.sr_merge.specs.Verdicts.{kept_of_all}

-- the second packet is a copy of the first one's frame by the other side, less than 400 ms behind it
abbrev pub IsCopyInTime : Read → Read → Type 0
IsCopyInTime p q = (q.came.frame ≡ p.came.frame) × (q.came.side ≡ other_side p.came.side) × (q.came.time - p.came.time < copy_time)

-- such a copy is among these
abbrev pub HasCopy : Read → List Read → Type 0
HasCopy p [] = ⊥
HasCopy p (q ∷ qs) = IsCopyInTime p q ⊎ HasCopy p qs

-- of each packet that counts as come by both sides there is one
abbrev pub AllMet : List Read → List Pending → Type 0
AllMet ps [] = Unit {0}
AllMet ps (w ∷ ws) = (w.is_met ≡ true → HasCopy w.packet ps) × AllMet ps ws

abbrev pub WhatIsMetHasACopy : Type 0
WhatIsMetHasACopy = (ps : List Read) → AllMet ps (kept_of_all ps).waiting

-- a packet at a place, of which it is known that it came by both sides
pub record IsMetAt (ws : List Pending) (at : ℕ) (p : Read) : Type 0 where
  pub now : Pending
  pub there : slice_get ws at ≡ Some now
  pub packet : now.packet ≡ p
  pub is_met : now.is_met ≡ true

-- a copy in time that is no new packet counts for the newest packet of its frame that came by the other side
abbrev pub CopiesInTimeCount : Type 0
CopiesInTimeCount = (before behind : List Read) (q : Read) (f : FrameId) (at : ℕ) (w : Pending) → q.came.frame ≡ Some f →
    is_new (kept_of_all before).sources q.came.time q.came.frame ≡ false →
    newest_copy (record { frame = f; side = other_side q.came.side }) (kept_of_all before).waiting ≡ Some at →
    slice_get (kept_of_all before).waiting at ≡ Some w → q.came.time - w.packet.came.time < copy_time →
    IsMetAt (kept_of_all (before ++ q ∷ behind)).waiting at w.packet
