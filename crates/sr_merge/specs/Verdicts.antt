-- What becomes of all packets that are taken: which are written, and by which sides they came.
use Rattle.std.specs.Prelude.{◌≡◌, ℕ, ◌+◌, ◌-◌, ◌≤◌, nat_lt, List, [], ◌∷◌, ◌++◌, Option, None, Some, if◌then◌else◌}
use Rattle.sr_dup_table.specs.Limits.{window}
use Rattle.sr_laws_dup.specs.TableRuns.{AreSteady}
use Rattle.sr_merge.specs.declared.came.FrameId.{FrameId}
use Rattle.sr_merge.specs.declared.waiting.Verdict.{Verdict}
use Rattle.sr_merge.specs.declared.waiting.Verdict.TheVariants as verdict
use Rattle.sr_merge.specs.Limits.{copy_time, most_held}
use Rattle.sr_merge.specs.Merging.{Read, Pending, Merging, sources_told, is_new, untold_after, waiting_behind, verdict_of}
use Rattle.sr_merge.specs.MergeRuns.{Numbered, HasWhole, packets_in, arrivals_read, AreInTime, firsts}

-- what is kept behind a packet that is taken
abbrev pub with_taken : Merging → Read → Merging
with_taken m p = record {
  sources = sources_told m.sources p.came.time p.came.frame;
  waiting = waiting_behind (is_new m.sources p.came.time p.came.frame) p m.waiting;
  untold = untold_after m.sources p.came.time p.came.frame m.untold;
}

-- behind some packets, in their order, where none is written
abbrev pub with_all : Merging → List Read → Merging
with_all m [] = m
with_all m (p ∷ ps) = with_all (with_taken m p) ps

-- what is kept of some packets where none is written: those that are to be, in order, and whether a copy of each came by the other side
abbrev pub kept_of_all : List Read → Merging
kept_of_all ps = with_all (record { sources = []; waiting = []; untold = 0 }) ps

-- by which sides a packet came, of which no more copies will come
abbrev pub last_verdict_by : Pending → Option FrameId → Verdict
last_verdict_by w None = verdict.Unnumbered
last_verdict_by w (Some f) = if w.is_met then verdict.Both else verdict.Alone

abbrev pub last_verdict : Pending → Verdict
last_verdict w = last_verdict_by w w.packet.came.frame

-- by which sides a packet came, if that is known: of captures that are at their ends, or that can't be read on behind a packet of this time
abbrev pub verdict_until : Option ℕ → Pending → Option Verdict
verdict_until None w = Some (last_verdict w)
verdict_until (Some now) w = verdict_of now w

-- how many of the packets behind one came less than 400 ms later
abbrev pub near_behind : Read → List Read → ℕ
near_behind p [] = 0
near_behind p (q ∷ qs) = (if nat_lt (q.came.time - p.came.time) copy_time then 1 else 0) + near_behind p qs

-- so many packets came so soon behind one that it could not be waited for
abbrev pub IsCrowded : Read → List Read → Type 0
IsCrowded p behind = most_held ≤ near_behind p behind + 1

-- no packet came behind this time
abbrev pub AllBy : ℕ → List Read → Type 0
AllBy now [] = Unit {0}
AllBy now (p ∷ ps) = (p.came.time ≤ now) × AllBy now ps

-- the packets that were taken, in order; they are numbered newest first
abbrev pub in_order : List Numbered → List Read
in_order [] = []
in_order (x ∷ before) = in_order before ++ x.packet ∷ []

-- each has a whole number that the wire carries so, or none where the record can't tell
abbrev pub HaveWholes : List Numbered → Type 0
HaveWholes [] = Unit {0}
HaveWholes (x ∷ before) =
    HaveWholes before × HasWhole (kept_of_all (in_order before)).sources x.packet.came.time x.packet.came.frame x.whole

-- where numbers are steady and no time goes back, what is to be written of some packets is the first copy of each frame, and each packet
-- without number, in order
abbrev pub EachFrameIsKeptOnce : Type 0
EachFrameIsKeptOnce = (xs : List Numbered) → HaveWholes xs → AreInTime (arrivals_read xs) → AreSteady window (arrivals_read xs) →
    packets_in (kept_of_all (in_order xs)).waiting ≡ firsts xs
