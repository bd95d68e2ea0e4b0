-- Windows that come about by any tree of begins, notes and merges.
use Rattle.std.specs.Prelude.{◌≡◌, ℕ, false, ◌*◌, ℤ}
use Rattle.sr_sequence.specs.Numbers.{wire, IsNear}
use Rattle.sr_dup_window.specs.declared.lane_sets.Lane.{Lane}
use Rattle.sr_dup_window.specs.declared.lane_sets.Lanes.{Lanes}
use Rattle.sr_dup_window.specs.declared.record.Record.{Record}
use Rattle.sr_dup_window.specs.LaneSets.{is_empty}
use Rattle.sr_dup_window.specs.Windows.{Window, window_of, window_begun, window_noted, window_merged, fresh_lanes}
use Rattle.sr_dup_window.specs.Families.{Family, lacking, singleton, join, greater, IsClose, StandsFor}

-- how a record came about: begun with a number on some lanes, with one more noted, or of two that were merged
pub data Tree : Type 0 where
  begin : Lanes → ℤ → Tree
  note : Tree → Lanes → ℤ → Tree
  merge : Tree → Tree → Tree

-- what a record shows that came about so
abbrev pub made : ℕ → Tree → Window
made w (begin lanes n) = window_begun w (wire n) lanes
made w (note t lanes n) = window_noted w (made w t) (wire n) lanes
made w (merge s t) = window_merged w (made w s) (made w t)

-- all numbers that its parts took, never cut
abbrev pub family_of : Tree → Family
family_of (begin lanes n) = singleton lanes n
family_of (note t lanes n) = join (family_of t) (singleton lanes n)
family_of (merge s t) = join (family_of s) (family_of t)

-- the greatest of them
abbrev pub greatest_of : Tree → ℤ
greatest_of (begin lanes n) = n
greatest_of (note t lanes n) = greater (greatest_of t) n
greatest_of (merge s t) = greater (greatest_of s) (greatest_of t)

-- some lane is asked each time, each note is near its record's greatest number, and merged parts are close
abbrev pub IsSteady : ℕ → Tree → Type 0
IsSteady w (begin lanes n) = is_empty lanes ≡ false
IsSteady w (note t lanes n) = IsSteady w t × (is_empty lanes ≡ false) × IsNear w (greatest_of t) n
IsSteady w (merge s t) = IsSteady w s × IsSteady w t × IsClose (greatest_of s) (greatest_of t)

-- the same numbers on the same lanes
abbrev pub SameNumbers : Tree → Tree → Type 0
SameNumbers s t = (lane : Lane) (n : ℤ) → family_of s lane n ≡ family_of t lane n

-- a record stands for the cut of the union of all that its parts took
abbrev pub TreesStand : ℕ → Type 0
TreesStand N = (t : Tree) (r : Record N) → IsSteady (64 * N) t → window_of r ≡ made (64 * N) t →
    StandsFor (64 * N) (window_of r) (family_of t) (greatest_of t)

-- a number is new on just the asked lanes on which the union of all that came before, never cut, lacks it
abbrev pub AnswersByTheUnion : ℕ → Type 0
AnswersByTheUnion N =
    (t : Tree) (r : Record N) (lanes : Lanes) (n : ℤ) → IsSteady (64 * N) (note t lanes n) → window_of r ≡ made (64 * N) t →
    fresh_lanes (64 * N) (window_of r) (wire n) lanes ≡ lacking lanes (family_of t) n

-- records that took the same numbers on the same lanes, in any orders and trees, are equal values
abbrev pub TreesAgree : ℕ → Type 0
TreesAgree N =
    (s t : Tree) (a b : Record N) → IsSteady (64 * N) s → IsSteady (64 * N) t → window_of a ≡ made (64 * N) s →
    window_of b ≡ made (64 * N) t → SameNumbers s t → a ≡ b
