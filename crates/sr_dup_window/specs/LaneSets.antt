-- Sets of lanes.
use Rattle.std.specs.Prelude.{ℕ, ◌+◌, ◌*◌, ◌==◌, Bool, ◌||◌, ◌&&◌, not, if◌then◌else◌}
use Rattle.std.specs.Int.{bit_at}
use Rattle.sr_dup_window.specs.declared.lane_sets.Lane.{Lane}
use Rattle.sr_dup_window.specs.declared.lane_sets.Lane.TheVariants.{H, A, B, C, GotA, GotB}
use Rattle.sr_dup_window.specs.declared.lane_sets.Lanes.{Lanes}

-- the place of a lane in the order H, A, B, C, GotA, GotB
abbrev pub index_of : Lane → ℕ
index_of H = 0
index_of A = 1
index_of B = 2
index_of C = 3
index_of GotA = 4
index_of GotB = 5

-- whether a lane is in the set
abbrev pub has : Lanes → Lane → Bool
has lanes lane = bit_at lanes.0 (index_of lane) == 1

-- a test as a number
abbrev pub flag : Bool → ℕ
flag b = if b then 1 else 0

-- the set of the lanes for which a test holds
abbrev pub lanes_where : (Lane → Bool) → Lanes
lanes_where test = record {
  0 = flag (test H) + 2 * flag (test A) + 4 * flag (test B) + 8 * flag (test C) + 16 * flag (test GotA) + 32 *
      flag (test GotB);
}

-- no lane
abbrev pub none : Lanes
none = record { 0 = 0 }

-- the same lanes, without bits that stand for no lane
abbrev pub known : Lanes → Lanes
known lanes = lanes_where (has lanes)

-- one lane
abbrev pub only : Lane → Lanes
only lane = lanes_where (λ other. index_of other == index_of lane)

-- the lanes of either set
abbrev pub union : Lanes → Lanes → Lanes
union a b = lanes_where (λ lane. has a lane || has b lane)

-- the lanes of the first set that are not in the second
abbrev pub difference : Lanes → Lanes → Lanes
difference a b = lanes_where (λ lane. has a lane && not (has b lane))

-- whether no lane is in the set
abbrev pub is_empty : Lanes → Bool
is_empty lanes = not (has lanes H || has lanes A || has lanes B || has lanes C || has lanes GotA || has lanes GotB)
