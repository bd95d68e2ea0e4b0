-- A packet and its verdict, what is counted of it, and the verdicts of all packets.
use Rattle.std.specs.Prelude.{◌≡◌, ℕ, ◌⊎◌, List, [], ◌∷◌, ◌++◌, Option, None, Some}
use Rattle.sr_capture_merge.specs.declared.counts.Counts.{Counts}
use Rattle.sr_capture_merge.specs.declared.plan.Plan.{Plan}
use Rattle.sr_capture_merge.specs.Counting.{with_packet, counted_written}
use Rattle.sr_capture_merge.specs.Entries.{is_shown}
use Rattle.sr_capture_merge.specs.Remarks.{remark_of}
use Rattle.sr_merge.specs.declared.waiting.Verdict.{Verdict}
use Rattle.sr_merge.specs.Merging.{Read, Pending, verdict_of}
use Rattle.sr_merge.specs.MergeRuns.{packets_in}
use Rattle.sr_merge.specs.Verdicts.{verdict_until, IsCrowded}

-- a packet and its verdict: none where it is not known, nor will be
pub record Settled : Type 0 where
  pub packet : Read
  pub verdict : Option Verdict

-- a packet is counted, and again where it is written
abbrev pub counted_one : Plan → Settled → Counts → Counts
counted_one plan x c =
    counted_written (is_shown plan.scope (remark_of plan.network x.verdict x.packet)) (with_packet x.packet x.verdict c)

-- each packet has a verdict by a rule, which is given the packets that are to be written behind it
abbrev pub AreSettled : (Pending → List Read → Option Verdict → Type 0) → List Pending → List Read → List Settled → Type 0
AreSettled P [] behind [] = Unit {0}
AreSettled P [] behind (x ∷ xs) = ⊥
AreSettled P (w ∷ ws) behind [] = ⊥
AreSettled P (w ∷ ws) behind (x ∷ xs) =
    (x.packet ≡ w.packet) × P w (packets_in ws ++ behind) x.verdict × AreSettled P ws behind xs

-- the verdict of a packet, of captures that are at their ends or that can't be read on behind a time; or it is none, since so many packets
-- came soon behind it that it could not be waited for
abbrev pub IsVerdict : Option ℕ → Pending → List Read → Option Verdict → Type 0
IsVerdict until w behind v = (v ≡ verdict_until until w) ⊎ ((v ≡ None) × IsCrowded w.packet behind)

-- a verdict that stays, whatever comes behind this time
abbrev pub IsKnown : ℕ → Pending → List Read → Option Verdict → Type 0
IsKnown now w behind v = ((x : Verdict) × (verdict_of now w ≡ Some x) × (v ≡ Some x)) ⊎ ((v ≡ None) × IsCrowded w.packet behind)
