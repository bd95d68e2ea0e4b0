-- The line by which one clock is ahead of the other.
use Rattle.std.specs.Prelude.{
  ◌≡◌,
  ℕ,
  ◌+◌,
  ◌-◌,
  ◌*◌,
  ◌/◌,
  ◌^◌,
  nat_eq,
  nat_le,
  min,
  Bool,
  true,
  false,
  ◌&&◌,
  List,
  [],
  length,
  map,
  filter,
  ℤ,
  pos,
  negsuc,
  ◌-ℤ◌,
  ◌+ℤ◌,
  ◌*ℤ◌,
  int_lt,
  IsPermutation,
  IsSorted,
  slice_index_or,
  if◌then◌else◌,
}
use Rattle.std.specs.Ordering.{nat_cmp, int_cmp}
use Rattle.std.specs.Int.{int_div_euclid}
use Rattle.sr_clocks.specs.declared.pair.Pair.{Pair}
use Rattle.sr_clocks.specs.declared.line.Line.{Line}
use Rattle.sr_clocks.specs.declared.median.Middle.{Middle}
use Rattle.sr_clocks.specs.Limits.{least_span, least_of_a_third, most_drift, least_drift}
use Rattle.sr_clocks.specs.Windows.{initial_time, final_time}

-- a number stands in the middle of these, once they are sorted; of an even count it is the greater of both. 0 where there is none
pub record Halves {X : Type 0} (sorted : List X) (xs : List X) (none x : X) : Type 0 where
  pub same : IsPermutation xs sorted
  pub middle : x ≡ slice_index_or sorted (length sorted / 2) none

abbrev pub IsMiddleTime : List Pair → ℕ → Type 0
IsMiddleTime ps time = (sorted : List ℕ) × Halves sorted (map (λ p. p.time) ps) 0 time × IsSorted nat_cmp sorted

abbrev pub IsMiddleAhead : List Pair → ℤ → Type 0
IsMiddleAhead ps ahead = (sorted : List ℤ) × Halves sorted (map (λ p. p.ahead) ps) (pos 0) ahead × IsSorted int_cmp sorted

-- the middle of frames: the medians of their times and of their differences
pub record IsMiddle (ps : List Pair) (m : Middle) : Type 0 where
  pub time : IsMiddleTime ps m.time
  pub ahead : IsMiddleAhead ps m.ahead

-- the frames up to a time, and from one on
abbrev pub early : List Pair → ℕ → List Pair
early ps time = filter (λ p. nat_le p.time time) ps

abbrev pub late : List Pair → ℕ → List Pair
late ps time = filter (λ p. nat_le time p.time) ps

-- a drift in nanoseconds a second, not more than 1000 ppm
abbrev pub bounded : ℤ → ℤ
bounded drift =
    if int_lt most_drift drift then most_drift
    else if int_lt drift least_drift then least_drift else drift

-- how fast a clock drifts that gains so much in such a time; 0 in no time
abbrev pub drift_of : ℤ → ℕ → ℤ
drift_of rise run =
    if nat_eq run 0 then pos 0 else bounded (int_div_euclid (rise *ℤ pos 1000000000) (pos run))

-- a number as a time, of 64 bits
abbrev pub clamped_time : ℤ → ℕ
clamped_time (pos n) = min n (2 ^ 64 - 1)
clamped_time (negsuc n) = 0

-- how far the second clock is ahead at a time, in 10^-9 ns
abbrev pub ahead_scaled : Line → ℕ → ℤ
ahead_scaled l time = l.ahead *ℤ pos 1000000000 +ℤ l.drift *ℤ (pos time -ℤ pos l.at)

-- in ns, rounded down
abbrev pub ahead_at : Line → ℕ → ℤ
ahead_at l time = int_div_euclid (ahead_scaled l time) (pos 1000000000)

-- a time of the second clock less that, in 10^-9 ns
abbrev pub corrected_scaled : Line → ℕ → ℤ
corrected_scaled l time = (pos time -ℤ l.ahead) *ℤ pos 1000000000 -ℤ l.drift *ℤ (pos time -ℤ pos l.at)

-- a time of the second clock by the first one, in ns, rounded down
abbrev pub corrected : Line → ℕ → ℕ
corrected l time = clamped_time (int_div_euclid (corrected_scaled l time) (pos 1000000000))

-- the third of the time from the first frame to the last
abbrev pub third_of : List Pair → ℕ
third_of ps = (final_time ps - initial_time ps) / 3

abbrev pub first_third : List Pair → List Pair
first_third ps = early ps (initial_time ps + third_of ps)

abbrev pub last_third : List Pair → List Pair
last_third ps = late ps (final_time ps - third_of ps)

-- the line of a clock that does not drift
abbrev pub level : Middle → Line
level m = record { at = m.time; ahead = m.ahead; drift = pos 0 }

-- the line through two middles
abbrev pub slope : Middle → Middle → Line
slope from to = record {
  at = from.time;
  ahead = from.ahead;
  drift = drift_of (to.ahead -ℤ from.ahead) (to.time - from.time);
}

-- by the middle of frames, or through those of some and of others
abbrev pub IsLevel : List Pair → Line → Type 0
IsLevel ps l = (m : Middle) × IsMiddle ps m × (l ≡ level m)

abbrev pub IsSlope : List Pair → List Pair → Line → Type 0
IsSlope first last l = (from : Middle) × (to : Middle) × IsMiddle first from × IsMiddle last to × (l ≡ slope from to)

-- frames tell of a drift: they span 5 s, and three of them at least lie in the first third and three in the last one
abbrev pub tells_drift : List Pair → Bool
tells_drift ps =
    nat_le least_span (final_time ps - initial_time ps)
    && (nat_le least_of_a_third (length (first_third ps)) && nat_le least_of_a_third (length (last_third ps)))

abbrev pub IsClockLineIf : Bool → List Pair → Line → Type 0
IsClockLineIf true ps l = IsSlope (first_third ps) (last_third ps) l
IsClockLineIf false ps l = IsLevel ps l

-- through the middles of the first and of the last third, or level
abbrev pub IsClockLine : List Pair → Line → Type 0
IsClockLine ps l = IsClockLineIf (tells_drift ps) ps l
