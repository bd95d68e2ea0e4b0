-- The messages of a stream: which came, and which are missing between them (choice of this project).
use Rattle.std.specs.Prelude.{
  ℕ,
  ◌+◌,
  ◌-◌,
  max,
  nat_le,
  nat_lt,
  ◌==◌,
  ◌&&◌,
  Bool,
  false,
  List,
  [],
  ◌∷◌,
  take,
  insert,
  position,
  slice_get,
  Option,
  Some,
  None,
  if◌then◌else◌,
}
use Rattle.sr_streams.specs.declared.numbers.Arrival.{Arrival}
use Rattle.sr_streams.specs.declared.spot.Spot.{Spot}
use Rattle.sr_streams.specs.declared.sums.Kind.{Kind}
use Rattle.sr_streams.specs.declared.sums.Kind.TheVariants.{Goose, Sampled}
use Rattle.sr_streams.specs.Limits.{kept_spots}
use Rattle.sr_streams.specs.Spots.{spot_rank, run_begun, spot_of}

-- the spots of the messages of a stream, each once, the one furthest ahead first, and when that one came
pub record Course : Type 0 where
  pub spots : List Spot
  pub time : ℕ

-- the first of some spots that is not ahead of this rank
abbrev pub seat : ℕ → List Spot → Option ℕ
seat own spots = position (λ spot. nat_le (spot_rank spot) own) spots

-- whether the spot there has this rank
abbrev pub has_rank : ℕ → Option Spot → Bool
has_rank own None = false
has_rank own (Some spot) = spot_rank spot == own

-- the spot, put in where it stands, unless it is there already, or behind all that are looked at
abbrev pub seated : Spot → Option ℕ → List Spot → List Spot
seated spot None spots = spots
seated spot (Some at) spots = if has_rank (spot_rank spot) (slice_get spots at) then spots else insert spots at spot

abbrev pub spot_entered : Spot → List Spot → List Spot
spot_entered spot spots = seated spot (seat (spot_rank spot) (take kept_spots spots)) spots

-- the greatest number
abbrev pub greatest_number : List Spot → ℕ
greatest_number [] = 0
greatest_number (spot ∷ spots) = max spot.number (greatest_number spots)

-- the course with one message more: the first one begins it, and each other stands where those before it tell
abbrev pub taken_at_time : Arrival → ℕ → List Spot → Course
taken_at_time x time [] = record { spots = run_begun 0 x.counter ∷ []; time = x.time }
taken_at_time x time (latest ∷ spots) =
    let spot = spot_of (record { latest = latest; time = time; top = greatest_number (latest ∷ spots) }) x.time x.counter in
    record {
      spots = spot_entered spot (latest ∷ spots);
      time = if nat_lt (spot_rank latest) (spot_rank spot) then x.time else time;
    }

abbrev pub message_taken : Arrival → Course → Course
message_taken x course = taken_at_time x course.time course.spots

-- the course of the messages that came, the last one first
abbrev pub course_of : List Arrival → Course
course_of [] = record { spots = []; time = 0 }
course_of (x ∷ xs) = message_taken x (course_of xs)

-- the sum of what is told of each spot and the one behind it
abbrev pub pair_sum : (Spot → Spot → ℕ) → List Spot → ℕ
pair_sum f [] = 0
pair_sum f (spot ∷ []) = 0
pair_sum f (spot ∷ older ∷ spots) = f spot older + pair_sum f (older ∷ spots)

-- whether two spots are of one run, and of different states or seconds
abbrev pub is_turn : Spot → Spot → Bool
is_turn later older = (later.run == older.run) && nat_lt older.state later.state

-- How many messages are missing between two neighbours: within a state or second the numbers between them; of two states those before the
-- number of the later one, and one of each state between. Between two runs none is.
abbrev pub between : Spot → Spot → ℕ
between later older =
    if is_turn later older then (later.state - older.state - 1) + later.number
    else if later.run == older.run then later.number - older.number - 1
    else 0

-- how many are missing of the rest of the older one's second, of so many
abbrev pub rest_of_second : ℕ → Spot → Spot → ℕ
rest_of_second whole later older = if is_turn later older then whole - (older.number + 1) else 0

-- How many messages are missing. How many a state has is not known, but a second has as many in each: the greatest number, and one.
abbrev pub missing_of : Kind → List Spot → ℕ
missing_of Goose spots = pair_sum between spots
missing_of Sampled spots =
    pair_sum (λ later older. between later older + rest_of_second (greatest_number spots + 1) later older) spots

-- how often the sender began anew
abbrev pub run_restarts : List Spot → ℕ
run_restarts [] = 0
run_restarts (latest ∷ spots) = latest.run

-- one for each turn
abbrev pub turned : Spot → Spot → ℕ
turned later older = if is_turn later older then 1 else 0

-- how many of its second came up to the older one of a turn
abbrev pub turned_at : Spot → Spot → ℕ
turned_at later older = if is_turn later older then older.number + 1 else 0

-- what a pair tells that a spot parts, and what the two pairs tell that it makes
abbrev pub parted : (Spot → Spot → ℕ) → Option Spot → Spot → ℕ
parted f None older = 0
parted f (Some newer) older = f newer older

abbrev pub pairs_made : (Spot → Spot → ℕ) → Option Spot → Spot → Spot → ℕ
pairs_made f None spot older = f spot older
pairs_made f (Some newer) spot older = f newer spot + f spot older
