-- Rows of six words of 64 bits, one for each lane, as a ring of bins: bin p is bit `p mod 64` of row `p / 64`.
use Rattle.std.specs.Prelude.{
  ◌≡◌,
  ◌⊎◌,
  ℕ,
  ◌+◌,
  ◌-◌,
  ◌/◌,
  ◌%◌,
  ◌==◌,
  ◌&&◌,
  nat_lt,
  nat_le,
  ◌<◌,
  ◌^◌,
  Bool,
  List,
  [],
  length,
  slice_index,
  slice_index_or,
}
use Rattle.std.specs.Int.{bit_at}
use Rattle.sr_dup_window.specs.declared.lane_sets.Lane.{Lane}
use Rattle.sr_dup_window.specs.declared.lane_sets.Lanes.{Lanes}
use Rattle.sr_dup_window.specs.LaneSets.{index_of, lanes_where}

-- whether a row has a bit on a lane
abbrev pub has_bit : List ℕ → ℕ → Lane → Bool
has_bit row bit lane = bit_at (slice_index row (index_of lane)) bit == 1

-- the lanes on which a row has a bit
abbrev pub lanes_in : List ℕ → ℕ → Lanes
lanes_in row bit = lanes_where (has_bit row bit)

-- the lanes on which the ring has a bin
abbrev pub lanes_at : List (List ℕ) → ℕ → Lanes
lanes_at rows bin = lanes_in (slice_index_or rows (bin / 64) []) (bin % 64)

-- six words of 64 bits
pub record IsRow (row : List ℕ) : Type 0 where
  pub six : length row ≡ 6
  pub small : (i : ℕ) → slice_index row i < 2 ^ 64

-- that many rows
pub record AreRows (count : ℕ) (rows : List (List ℕ)) : Type 0 where
  pub many : length rows ≡ count
  pub each : (i : ℕ) → i < count → IsRow (slice_index_or rows i [])

-- the two widths of a window, as bins
abbrev pub IsWidth : ℕ → Type 0
IsWidth bins = (bins ≡ 1024) ⊎ (bins ≡ 2048)

-- how far a bin lies after another, going round
abbrev pub way_round : ℕ → ℕ → ℕ → ℕ
way_round bins from bin = (bin + (bins - from)) % bins

-- whether a bin is one of the `count` bins after `from`
abbrev pub is_passed : ℕ → ℕ → ℕ → ℕ → Bool
is_passed bins from count bin = nat_lt 0 (way_round bins from bin) && nat_le (way_round bins from bin) count
