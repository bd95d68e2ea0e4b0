-- Vectors of sixteen octets, lane by lane.
use Rattle.std.specs.Prelude.{◌≡◌, ◌==◌, ◌<◌, ◌≤◌, ℕ, List, length, slice_index, if◌then◌else◌}
use Rattle.std.specs.Int.{w64, trailing_zeros}

-- what each of the sixteen lanes holds
pub record HasLanes (v : List ℕ) (f : ℕ → ℕ) : Type 0 where
  pub long : length v ≡ 16
  pub each : (i : ℕ) → i < 16 → slice_index v i ≡ f i

-- the place of the lowest bit that is set, and 16 where none is
abbrev pub first_set : ℕ → ℕ
first_set mask = if mask == 0 then 16 else trailing_zeros w64 mask

-- so many lanes from the first on are less than 16, and the next one, if any, is not
pub record IsSmallFront (v : List ℕ) (count : ℕ) : Type 0 where
  pub within : count ≤ 16
  pub small : (i : ℕ) → i < count → slice_index v i < 16
  pub large : count < 16 → 16 ≤ slice_index v count
