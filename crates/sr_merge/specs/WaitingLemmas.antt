-- What waits behind a packet that is taken, as packets that are read.
use Rattle.std.proofs.Common.{◌≡◌, ℕ, Bool, true, false, zero, suc, List, [], ◌∷◌, ◌++◌, Option, None, Some, refl, sym, ap, ◌∙◌}
use Rattle.std.specs.Prelude.{cond}
use Rattle.std.proofs.lemmas.List.{append-nil, map_push}
use Rattle.sr_audit.specs.Lanes.{other_side}
use Rattle.sr_merge.specs.declared.came.Came.{Came}
use Rattle.sr_merge.specs.declared.came.FrameId.{FrameId}
use Rattle.sr_merge.specs.Merging.{Read, Pending, unmet, newest_copy, meet, meet_at, copy_noted, waiting_behind}
use Rattle.sr_merge.specs.MergeRuns.{packets_in}

-- a copy that is noted changes no packet
pub packets_meet : (time at : ℕ) (ws : List Pending) → packets_in (meet time at ws) ≡ packets_in ws
packets_meet time at [] = refl
packets_meet time zero (w ∷ ws) = refl
packets_meet time (suc at) (w ∷ ws) = ap (λ l. w.packet ∷ l) (packets_meet time at ws)

pub packets_noted : (came : Came) (frame : Option FrameId) (ws : List Pending) → packets_in (copy_noted came frame ws) ≡ packets_in ws
packets_noted came None ws = refl
packets_noted came (Some f) ws = by (newest_copy (record { frame = f; side = other_side came.side }) ws)
  where
    by : (at : Option ℕ) → packets_in (meet_at came.time at ws) ≡ packets_in ws
    by None = refl
    by (Some at) = packets_meet came.time at ws

-- a packet that is written is last
pub waits_list : (b : Bool) (p : Read) (ws : List Pending) →
    packets_in (waiting_behind b p ws) ≡ packets_in ws ++ cond b (p ∷ []) []
waits_list true p ws = map_push (λ w. w.packet) ws (unmet p)
waits_list false p ws = packets_noted p.came p.came.frame ws ∙ sym (append-nil (packets_in ws))
