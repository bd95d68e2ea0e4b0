-- The sums that are kept of a course.
use Rattle.std.specs.Prelude.{ℕ, zero, suc, ◌≡◌, ◌+◌, ◌-◌, ◌*◌, List, length, take, slice_get, Option, None}
use Rattle.sr_streams.specs.declared.numbers.Numbers.{Numbers}
use Rattle.sr_streams.specs.declared.spot.Spot.{Spot}
use Rattle.sr_streams.specs.declared.sums.Kind.{Kind}
use Rattle.sr_streams.specs.declared.sums.Kind.TheVariants.{Goose, Sampled}
use Rattle.sr_streams.specs.declared.sums.Sums.{Sums}
use Rattle.sr_streams.specs.Limits.{kept_spots}
use Rattle.sr_streams.specs.Courses.{Course, greatest_number, pair_sum, between, turned, turned_at, parted, pairs_made}

-- the spot before this place
abbrev pub spot_before : ℕ → List Spot → Option Spot
spot_before zero spots = None
spot_before (suc at) spots = slice_get spots at

-- the sums with a spot between two
pub record AreSumsWith (newer : Option Spot) (spot older : Spot) (old new : Sums) : Type 0 where
  pub came : new.came ≡ old.came + 1
  pub between : new.between ≡ old.between + pairs_made between newer spot older - parted between newer older
  pub turned : new.turned ≡ old.turned + pairs_made turned newer spot older - parted turned newer older
  pub turned_at : new.turned_at ≡ old.turned_at + pairs_made turned_at newer spot older - parted turned_at newer older

-- the sums are those of these spots
pub record AreSumsOf (spots : List Spot) (sums : Sums) : Type 0 where
  pub came : sums.came ≡ length spots
  pub between : sums.between ≡ pair_sum between spots
  pub turned : sums.turned ≡ pair_sum turned spots
  pub turned_at : sums.turned_at ≡ pair_sum turned_at spots

-- what is kept is of these spots
pub record KeepsSpots (spots : List Spot) (numbers : Numbers) : Type 0 where
  pub recent : numbers.recent.items ≡ take kept_spots spots
  pub top : numbers.top ≡ greatest_number spots
  pub sums : AreSumsOf spots numbers.sums

-- what is kept is of this course
pub record KeepsCourse (course : Course) (numbers : Numbers) : Type 0 where
  pub spots : KeepsSpots course.spots numbers
  pub time : numbers.time ≡ course.time

-- how many messages are missing, by the sums and the greatest number
abbrev pub missing_by : Kind → ℕ → Sums → ℕ
missing_by Goose top sums = sums.between
missing_by Sampled top sums = sums.between + (sums.turned * (top + 1) - sums.turned_at)
