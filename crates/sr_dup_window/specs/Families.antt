-- Sets of whole numbers without bound, one for each lane, and for which of them a window stands.
use Rattle.std.specs.Prelude.{
  ◌≡◌,
  ℕ,
  ◌<◌,
  Bool,
  true,
  ◌||◌,
  ◌&&◌,
  not,
  length,
  slice_index_or,
  ℤ,
  pos,
  ◌+ℤ◌,
  ◌-ℤ◌,
  ◌≤ℤ◌,
  int_lt,
  if◌then◌else◌,
}
use Rattle.std.specs.Ordering.{int_eq}
use Rattle.sr_sequence.specs.Numbers.{wire, IsNear}
use Rattle.sr_dup_window.specs.declared.lane_sets.Lane.{Lane}
use Rattle.sr_dup_window.specs.declared.lane_sets.Lanes.{Lanes}
use Rattle.sr_dup_window.specs.LaneSets.{has, lanes_where, none}
use Rattle.sr_dup_window.specs.Windows.{Window}

-- for each lane, which numbers are in its set
abbrev pub Family : Type 0
Family = Lane → ℤ → Bool

-- the greatest number of the six sets together
pub record IsGreatest (family : Family) (greatest : ℤ) : Type 0 where
  pub member : (lane : Lane) × (family lane greatest ≡ true)
  pub most : (lane : Lane) (n : ℤ) → family lane n ≡ true → n ≤ℤ greatest

-- the lanes on which a family has a number
abbrev pub lanes_with : Family → ℤ → Lanes
lanes_with family n = lanes_where (λ lane. family lane n)

-- the asked lanes on which a family lacks a number
abbrev pub lacking : Lanes → Family → ℤ → Lanes
lacking lanes family n = lanes_where (λ lane. has lanes lane && not (family lane n))

-- one number, on some lanes
abbrev pub singleton : Lanes → ℤ → Family
singleton lanes n lane x = int_eq x n && has lanes lane

-- lane by lane, the numbers of either
abbrev pub join : Family → Family → Family
join f g lane x = f lane x || g lane x

-- the same numbers above `greatest - window`
abbrev pub SameCut : ℕ → ℤ → Family → Family → Type 0
SameCut window greatest f g = (lane : Lane) (k : ℕ) → k < window → f lane (greatest -ℤ pos k) ≡ g lane (greatest -ℤ pos k)

-- the greater of two numbers
abbrev pub greater : ℤ → ℤ → ℤ
greater m n = if int_lt m n then n else m

-- less than half of the 65536 numbers apart
abbrev pub IsClose : ℤ → ℤ → Type 0
IsClose m n = (m ≤ℤ (n +ℤ pos 32767)) × (n ≤ℤ (m +ℤ pos 32767))

-- a window of w numbers stands for a family: it ends at the family's greatest number, and has what the family has there
pub record StandsFor (w : ℕ) (r : Window) (family : Family) (greatest : ℤ) : Type 0 where
  pub top : IsGreatest family greatest
  pub reference : r.reference ≡ wire greatest
  pub count : length r.marks ≡ w
  pub shows : (k : ℕ) → k < w → slice_index_or r.marks k none ≡ lanes_with family (greatest -ℤ pos k)

-- `begin`: the window stands for the one number on its lanes
abbrev pub Begins : ℕ → Window → ℕ → Lanes → Type 0
Begins w new seq lanes = (n : ℤ) → wire n ≡ seq → StandsFor w new (singleton lanes n) n

-- noting a number: the answer is where the family lacks it, and the window then stands for the family with it
pub record Notes (w : ℕ) (new : Window) (lanes answer : Lanes) (family : Family) (greatest n : ℤ) : Type 0 where
  pub fresh : answer ≡ lacking lanes family n
  pub stands : StandsFor w new (join family (singleton lanes n)) (greater greatest n)

-- `note`: so it is for every family that the old window stands for, and every near number
abbrev pub NotesAs : ℕ → Window → Window → ℕ → Lanes → Lanes → Type 0
NotesAs w old new seq lanes answer =
    (family : Family) (greatest n : ℤ) → StandsFor w old family greatest → IsNear w greatest n → wire n ≡ seq →
    Notes w new lanes answer family greatest n

-- `merge` of windows whose greatest numbers are close: the new one stands for the join
abbrev pub Merges : ℕ → Window → Window → Window → Type 0
Merges w old other new =
    (f g : Family) (m n : ℤ) → StandsFor w old f m → StandsFor w other g n → IsClose m n → StandsFor w new (join f g) (greater m n)
