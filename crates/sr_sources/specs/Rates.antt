-- How many frames of a source came in a second.
use Rattle.std.specs.Prelude.{ℕ, ◌/◌, ◌==◌, nat_lt, Bool, false, List, [], ◌∷◌, Option, Some, None, if◌then◌else◌}
use Rattle.sr_sources.specs.declared.glimpse.Glimpse.{Glimpse}
use Rattle.sr_sources.specs.declared.rates.Second.{Second}
use Rattle.sr_sources.specs.declared.rates.Rates.{Rates}
use Rattle.sr_sources.specs.Limits.{one_more, whole_second, loud_frames, busy_frames}

-- the whole second that a time is in
abbrev pub second_of : ℕ → ℕ
second_of time = time / whole_second

-- when the last frame came
abbrev pub last_came : List Glimpse → Option ℕ
last_came [] = None
last_came (x ∷ xs) = Some x.time

-- a frame is in the whole second of the one before it
abbrev pub is_in_second : ℕ → Option ℕ → Bool
is_in_second time None = false
is_in_second time (Some before) = second_of time == second_of before

-- how many frames the whole second of the last one has, and when the first of these came
abbrev pub no_second : Second
no_second = record { frames = 0; since = 0 }

abbrev pub second_with : ℕ → Bool → Second → Second
second_with time goes_on s = if goes_on then record { frames = one_more s.frames; since = s.since } else record { frames = 1; since = time }

abbrev pub last_second : List Glimpse → Second
last_second [] = no_second
last_second (x ∷ xs) = second_with x.time (is_in_second x.time (last_came xs)) (last_second xs)

-- the whole second that has most, the first of several
abbrev pub fuller_of : Second → Second → Second
fuller_of s t = if nat_lt s.frames t.frames then t else s

abbrev pub fullest_second : List Glimpse → Second
fullest_second [] = no_second
fullest_second (x ∷ xs) = fuller_of (fullest_second xs) (last_second (x ∷ xs))

-- how many whole seconds have 50 frames: one more with the 50th frame of each
abbrev pub busy_with : ℕ → ℕ → ℕ
busy_with frames busy = if frames == busy_frames then one_more busy else busy

abbrev pub busy_seconds : List Glimpse → ℕ
busy_seconds [] = 0
busy_seconds (x ∷ xs) = busy_with (last_second (x ∷ xs)).frames (busy_seconds xs)

-- when the first whole second began that has 500 frames, which is told by the 500th
abbrev pub loud_with : Second → Option ℕ → Option ℕ
loud_with s (Some since) = Some since
loud_with s None = if s.frames == loud_frames then Some s.since else None

abbrev pub loud_since : List Glimpse → Option ℕ
loud_since [] = None
loud_since (x ∷ xs) = loud_with (last_second (x ∷ xs)) (loud_since xs)

-- what is kept, and what it is with one frame more
abbrev pub no_rates : Rates
no_rates = record { last = None; second = no_second; fullest = no_second; busy = 0; loud = None }

abbrev pub rates_by : ℕ → Second → Rates → Rates
rates_by time s r = record {
  last = Some time;
  second = s;
  fullest = fuller_of r.fullest s;
  busy = busy_with s.frames r.busy;
  loud = loud_with s r.loud;
}

abbrev pub rates_with : ℕ → Rates → Rates
rates_with time r = rates_by time (second_with time (is_in_second time r.last) r.second) r

-- the rates of the frames that came, the last one first
abbrev pub rates_of : List Glimpse → Rates
rates_of xs = record {
  last = last_came xs;
  second = last_second xs;
  fullest = fullest_second xs;
  busy = busy_seconds xs;
  loud = loud_since xs;
}
