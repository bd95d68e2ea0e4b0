-- Whether the numbers of a source are those of two senders: they go to and fro between two runs.
use Rattle.std.specs.Prelude.{ℕ, nat_lt, Bool, true, false, not, ◌&&◌, List, [], ◌∷◌, Option, Some, None, if◌then◌else◌}
use Rattle.sr_sequence.specs.declared.Seq.{Seq}
use Rattle.sr_sequence.specs.declared.Distance.{Distance}
use Rattle.sr_sequence.specs.declared.Distance.TheVariants.{Behind, Ahead}
use Rattle.sr_sequence.specs.Places.{place_of}
use Rattle.sr_sources.specs.declared.glimpse.Glimpse.{Glimpse}
use Rattle.sr_sources.specs.declared.senders.Turns.{Turns}
use Rattle.sr_sources.specs.Limits.{one_more, near_numbers}

-- two numbers may be of one run: they are less than 1024 apart, either way
abbrev pub is_near_at : Distance → Bool
is_near_at (Behind k) = true
is_near_at (Ahead k) = nat_lt k near_numbers

abbrev pub are_near : Seq → Seq → Bool
are_near m n = is_near_at (place_of m.0 n.0 near_numbers)

abbrev pub is_near : Seq → Option Seq → Bool
is_near n None = false
is_near n (Some m) = are_near m n

-- a step leads away: there is a number before, and it is not near
abbrev pub leads_away : Seq → Option Seq → Bool
leads_away n None = false
leads_away n (Some m) = not (are_near m n)

-- the number of the last frame that has one
abbrev pub number_or : Option Seq → Option Seq → Option Seq
number_or (Some n) before = Some n
number_or None before = before

abbrev pub latest_number : List Glimpse → Option Seq
latest_number [] = None
latest_number (x ∷ xs) = number_or x.number (latest_number xs)

-- what a frame does: it goes on, or leads away to the number that was left before, or to another one
abbrev pub is_away : Option Seq → Option Seq → Bool
is_away None latest = false
is_away (Some n) latest = leads_away n latest

abbrev pub is_back : Option Seq → Option Seq → Option Seq → Bool
is_back None latest left = false
is_back (Some n) latest left = leads_away n latest && is_near n left

abbrev pub is_elsewhere : Option Seq → Option Seq → Option Seq → Bool
is_elsewhere None latest left = false
is_elsewhere (Some n) latest left = leads_away n latest && not (is_near n left)

-- the number that the last step away left
abbrev pub left_with : Bool → Option Seq → Option Seq → Option Seq
left_with away latest left = if away then latest else left

abbrev pub left_number : List Glimpse → Option Seq
left_number [] = None
left_number (x ∷ xs) = left_with (is_away x.number (latest_number xs)) (latest_number xs) (left_number xs)

abbrev pub more_where : Bool → ℕ → ℕ
more_where test n = if test then one_more n else n

-- how often a step led back to the number that was left before, and how often elsewhere
abbrev pub steps_back : List Glimpse → ℕ
steps_back [] = 0
steps_back (x ∷ xs) = more_where (is_back x.number (latest_number xs) (left_number xs)) (steps_back xs)

abbrev pub steps_elsewhere : List Glimpse → ℕ
steps_elsewhere [] = 0
steps_elsewhere (x ∷ xs) = more_where (is_elsewhere x.number (latest_number xs) (left_number xs)) (steps_elsewhere xs)

-- when the first step led back
abbrev pub since_with : Bool → ℕ → Option ℕ → Option ℕ
since_with test time (Some since) = Some since
since_with test time None = if test then Some time else None

abbrev pub back_since : List Glimpse → Option ℕ
back_since [] = None
back_since (x ∷ xs) = since_with (is_back x.number (latest_number xs) (left_number xs)) x.time (back_since xs)

-- what is kept, and what it is with one frame more
abbrev pub no_turns : Turns
no_turns = record { latest = None; left = None; back = 0; elsewhere = 0; since = None }

abbrev pub turns_with : Glimpse → Turns → Turns
turns_with x t = record {
  latest = number_or x.number t.latest;
  left = left_with (is_away x.number t.latest) t.latest t.left;
  back = more_where (is_back x.number t.latest t.left) t.back;
  elsewhere = more_where (is_elsewhere x.number t.latest t.left) t.elsewhere;
  since = since_with (is_back x.number t.latest t.left) x.time t.since;
}

-- the turns of the frames that came, the last one first
abbrev pub turns_of : List Glimpse → Turns
turns_of xs = record {
  latest = latest_number xs;
  left = left_number xs;
  back = steps_back xs;
  elsewhere = steps_elsewhere xs;
  since = back_since xs;
}
