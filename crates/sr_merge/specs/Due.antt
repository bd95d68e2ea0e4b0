-- When packets that wait are to be written, and runs in which they are.
use Rattle.std.specs.Prelude.{
  ◌≡◌,
  ℕ,
  ◌+◌,
  ◌-◌,
  ◌<◌,
  ◌≤◌,
  Bool,
  not,
  ◌||◌,
  nat_lt,
  is_some,
  List,
  [],
  ◌∷◌,
  ◌++◌,
  length,
  if◌then◌else◌,
}
use Rattle.sr_dup_table.specs.Limits.{window}
use Rattle.sr_laws_dup.specs.TableRuns.{AreSteady}
use Rattle.sr_merge.specs.Limits.{copy_time, most_held}
use Rattle.sr_merge.specs.Merging.{Read, Pending, Merging, verdict_of}
use Rattle.sr_merge.specs.MergeRuns.{Numbered, MergeTurn, took, wrote, Turns, reads, written_in, packets_in}
use Rattle.sr_merge.specs.MergeRuns.{arrivals_read, AreInTime, firsts, news}
use Rattle.sr_merge.specs.Verdicts.{kept_of_all, in_order}

-- whether the first of some packets is due when one comes at this time: by which sides it came is known, or as many wait as may, itself and
-- those behind it
abbrev pub is_first_due : ℕ → Pending → List Pending → Bool
is_first_due now w behind = is_some (verdict_of now w) || not (nat_lt (length behind + 1) most_held)

-- those that are due of the packets that wait: the first ones, up to one that is not
abbrev pub due : ℕ → List Pending → List Pending
due now [] = []
due now (w ∷ ws) = if is_first_due now w ws then w ∷ due now ws else []

-- those that are due of the packets that were taken
abbrev pub due_of : List Read → ℕ → List Read
due_of taken now = packets_in (due now (kept_of_all taken).waiting)

-- what is due is written before a packet is taken
abbrev pub IsOnTime : List Pending → MergeTurn → Type 0
IsOnTime waiting (took x) = due x.packet.came.time waiting ≡ []
IsOnTime waiting (wrote w) = Unit {0}

-- the turns lead a new merge to what it keeps, each of them on time
abbrev pub TimelyRun : List MergeTurn → Merging → Type 0
TimelyRun [] m = (m.sources ≡ []) × (m.waiting ≡ [])
TimelyRun (turn ∷ before) m = (old : Merging) × TimelyRun before old × Turns old turn m × IsOnTime old.waiting turn

-- no packet comes before an earlier one
abbrev pub last_came : List Numbered → ℕ
last_came [] = 0
last_came (x ∷ before) = x.packet.came.time

abbrev pub ComeInOrder : List Numbered → Type 0
ComeInOrder [] = Unit {0}
ComeInOrder (x ∷ before) = ComeInOrder before × (last_came before ≤ x.packet.came.time)

-- these came less than 400 ms before a time
abbrev pub AreYoung : ℕ → List Read → Type 0
AreYoung now [] = Unit {0}
AreYoung now (p ∷ ps) = (now - p.came.time < copy_time) × AreYoung now ps

-- what was due at a time was written; of what is to be written, those packets are left that came less than 400 ms before, and fewer than
-- 262144
pub record IsWrittenInTime (turns : List MergeTurn) (now : ℕ) : Type 0 where
  pub early : List Read
  pub due : written_in turns ≡ due_of (in_order (reads turns)) now ++ early
  pub left : List Read
  pub all : written_in turns ++ left ≡ news (reads turns)
  pub young : AreYoung now left
  pub few : length left < most_held

-- so it is in each run, whenever a packet is taken
abbrev pub WhatIsDueIsWritten : Type 0
WhatIsDueIsWritten = (turns : List MergeTurn) (x : Numbered) (m : Merging) → TimelyRun (took x ∷ turns) m →
    ComeInOrder (x ∷ reads turns) → IsWrittenInTime turns x.packet.came.time

-- where nothing waits any longer, the packets were written that the record answers as new; in a steady run these are the first copies of
-- all frames and the packets without number, in order
abbrev pub AllIsWrittenAtTheEnd : Type 0
AllIsWrittenAtTheEnd = (turns : List MergeTurn) (m : Merging) → TimelyRun turns m → m.waiting ≡ [] →
    (written_in turns ≡ news (reads turns))
    × (AreInTime (arrivals_read (reads turns)) → AreSteady window (arrivals_read (reads turns)) → written_in turns ≡ firsts (reads turns))
