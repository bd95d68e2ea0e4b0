-- The frames of a source in one LAN.
use Rattle.std.specs.Prelude.{ℕ, ◌-◌, Bool, true, not, is_some, List, [], ◌∷◌, Option, Some, None, if◌then◌else◌}
use Rattle.sr_sources.specs.declared.glimpse.Glimpse.{Glimpse}
use Rattle.sr_sources.specs.declared.lane.Lane.{Lane}
use Rattle.sr_sources.specs.declared.lane.Tail.{Tail}
use Rattle.sr_sources.specs.Limits.{one_more}
use Rattle.sr_sources.specs.Rates.{no_rates, rates_with, rates_of}
use Rattle.sr_sources.specs.Senders.{more_where, no_turns, turns_with, turns_of}

-- how many frames pass a test
abbrev pub glimpsed : (Glimpse → Bool) → List Glimpse → ℕ
glimpsed test [] = 0
glimpsed test (x ∷ xs) = more_where (test x) (glimpsed test xs)

-- a frame without a number
abbrev pub is_bare : Glimpse → Bool
is_bare x = not (is_some x.number)

-- when the first frame came
abbrev pub first_or : Option ℕ → ℕ → ℕ
first_or None time = time
first_or (Some first) time = first

abbrev pub first_came : List Glimpse → Option ℕ
first_came [] = None
first_came (x ∷ xs) = Some (first_or (first_came xs) x.time)

-- the frames without a number behind the last one with one, and when the first of them came
abbrev pub no_tail : Tail
no_tail = record { frames = 0; since = None }

abbrev pub tail_with : Glimpse → Tail → Tail
tail_with x t = if is_bare x then record { frames = one_more t.frames; since = Some (first_or t.since x.time) } else no_tail

abbrev pub bare_tail : List Glimpse → Tail
bare_tail [] = no_tail
bare_tail (x ∷ xs) = tail_with x (bare_tail xs)

-- what is kept, and what it is with one frame more
abbrev pub no_lane : Lane
no_lane = record { frames = 0; bare = 0; astray = 0; first = None; tail = no_tail; rates = no_rates; turns = no_turns }

abbrev pub lane_with : Glimpse → Lane → Lane
lane_with x l = record {
  frames = one_more l.frames;
  bare = more_where (is_bare x) l.bare;
  astray = more_where x.is_astray l.astray;
  first = Some (first_or l.first x.time);
  tail = tail_with x l.tail;
  rates = rates_with x.time l.rates;
  turns = turns_with x l.turns;
}

-- the figures of the frames that came, the last one first
abbrev pub lane_of : List Glimpse → Lane
lane_of xs = record {
  frames = glimpsed (λ x. true) xs;
  bare = glimpsed is_bare xs;
  astray = glimpsed (λ x. x.is_astray) xs;
  first = first_came xs;
  tail = bare_tail xs;
  rates = rates_of xs;
  turns = turns_of xs;
}
