-- Tables of either width that come about by any tree of arrivals, ageings and merges, and what is asked of the tree.
use Rattle.std.specs.Prelude.{◌≡◌, ℕ, ◌≤◌, max, ℤ, List, [], ◌∷◌, ◌++◌, if◌then◌else◌}
use Rattle.sr_frame.specs.declared.fields.Mac.{Mac}
use Rattle.sr_frame.specs.Addresses.{mac_eq}
use Rattle.sr_sequence.specs.Numbers.{IsNear}
use Rattle.sr_dup_window.specs.declared.lane_sets.Lanes.{Lanes}
use Rattle.sr_dup_window.specs.Families.{Family, IsGreatest, IsClose}
use Rattle.sr_dup_table.specs.Sources.{Sources, is_recent, live_at}
use Rattle.sr_dup_table.specs.JoinLaws.{MergesTo}
use Rattle.sr_laws_dup.specs.TableRuns.{Noting, was_noted, Takes}
use Rattle.sr_laws_dup.specs.TableRuns as run
use Rattle.sr_laws_dup.specs.Starts.{stood, IsStart}
use Rattle.sr_laws_dup.specs.EpochLemmas.{noted_epoch}

-- How a table came about: with nothing; with what stood in a table at a time, where `top` says for which whole number the 16 bits of each
-- greatest one stand; by one more arrival, by ageing at a time, or of two that were merged at a time.
pub data Growth : Type 0 where
  empty : Growth
  started : (from : ℕ) (top : Mac → ℤ) (start : Sources) → Growth
  arrived : Growth → Noting → Growth
  aged : Growth → ℕ → Growth
  merged : Growth → Growth → ℕ → Growth

-- the sources of a table that came about so, by calls that were not refused
abbrev pub Grew : ℕ → Growth → Sources → Type 0
Grew w empty s = s ≡ []
Grew w (started from top start) s = IsStart w from top start × (s ≡ start)
Grew w (arrived t x) s = (old : Sources) × (fresh : Lanes) × Grew w t old × Takes w old (run.arrived x fresh) s
Grew w (aged t now) s = (old : Sources) × Grew w t old × (s ≡ live_at now old)
Grew w (merged t u now) s = (one : Sources) × (other : Sources) × Grew w t one × Grew w u other × MergesTo w now one other s

-- all arrivals that its parts took, and those that stand for what stood in a table
abbrev pub arrivals_of : Growth → List Noting
arrivals_of empty = []
arrivals_of (started from top start) = stood top start
arrivals_of (arrived t x) = x ∷ arrivals_of t
arrivals_of (aged t now) = arrivals_of t
arrivals_of (merged t u now) = arrivals_of t ++ arrivals_of u

-- the latest time of some arrivals
abbrev pub newest : List Noting → ℕ
newest [] = 0
newest (x ∷ xs) = max x.arrival.time (newest xs)

-- some arrivals of a source, unless it was silent for 400 ms since
abbrev pub remembered : ℕ → List Noting → List Noting
remembered now xs = if is_recent now (newest xs) then xs else []

-- the arrivals of a source's epoch at a time, of both parts where two were merged
abbrev pub epoch : Mac → ℕ → Growth → List Noting
epoch src now empty = []
epoch src now (started from top start) = noted_epoch src now (stood top start)
epoch src now (arrived t x) = if mac_eq src x.arrival.src then remembered now (x ∷ epoch src x.arrival.time t) else epoch src now t
epoch src now (aged t at) = epoch src now t
epoch src now (merged t u at) = remembered now (epoch src at t ++ epoch src at u)

-- the numbers of a source among some arrivals, lane by lane, never cut
abbrev pub numbers : Mac → List Noting → Family
numbers src xs lane n = was_noted src n lane xs

-- the time of the last turn
abbrev pub latest : Growth → ℕ
latest empty = 0
latest (started from top start) = from
latest (arrived t x) = x.arrival.time
latest (aged t now) = now
latest (merged t u now) = now

-- a number is one of the 65536 that may follow those of a family; any may follow none
abbrev pub IsNearAll : ℕ → Family → ℤ → Type 0
IsNearAll w f n = (m : ℤ) → IsGreatest f m → IsNear w m n

-- the greatest numbers of two families, where both have one, are at most 32767 apart
abbrev pub AreClose : Family → Family → Type 0
AreClose f g = (m n : ℤ) → IsGreatest f m → IsGreatest g n → IsClose m n

-- along each branch no time goes back
abbrev pub AreInOrder : Growth → Type 0
AreInOrder empty = Unit {0}
AreInOrder (started from top start) = Unit {0}
AreInOrder (arrived t x) = AreInOrder t × (latest t ≤ x.arrival.time)
AreInOrder (aged t now) = AreInOrder t × (latest t ≤ now)
AreInOrder (merged t u now) = AreInOrder t × AreInOrder u × (latest t ≤ now) × (latest u ≤ now)

-- each number is near those of its source's epoch, and of each source that both parts of a merge tell of, the greatest numbers are close
abbrev pub AreSteady : ℕ → Growth → Type 0
AreSteady w empty = Unit {0}
AreSteady w (started from top start) = Unit {0}
AreSteady w (arrived t x) =
    AreSteady w t × IsNearAll w (numbers x.arrival.src (epoch x.arrival.src x.arrival.time t)) x.arrival.number
AreSteady w (aged t now) = AreSteady w t
AreSteady w (merged t u now) =
    AreSteady w t × AreSteady w u × ((src : Mac) → AreClose (numbers src (epoch src now t)) (numbers src (epoch src now u)))

-- a steady tree
abbrev pub IsSteady : ℕ → Growth → Type 0
IsSteady w t = AreInOrder t × AreSteady w t
