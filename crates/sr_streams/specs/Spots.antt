-- Where a message stands in its stream, told by those before it (choice of this project).
use Rattle.std.specs.Prelude.{ℕ, ◌+◌, ◌-◌, ◌*◌, ◌/◌, ◌^◌, min, max, nat_le, nat_lt, ◌&&◌, ◌||◌, Bool, if◌then◌else◌}
use Rattle.sr_streams.specs.declared.message.Counter.{Counter}
use Rattle.sr_streams.specs.declared.message.Counter.TheVariants.{Goose, Sampled}
use Rattle.sr_streams.specs.declared.spot.Spot.{Spot}
use Rattle.sr_streams.specs.declared.spot.Heard.{Heard}
use Rattle.sr_streams.specs.Limits.{soon_time, sample_second, least_far}

-- the order in a stream: by restarts, then by states or seconds, then by numbers
abbrev pub spot_rank : Spot → ℕ
spot_rank spot = (spot.run * 2 ^ 32 + spot.state) * 2 ^ 32 + spot.number

-- one more, as far as is counted
abbrev pub next : ℕ → ℕ
next n = min (n + 1) (2 ^ 32 - 1)

-- the number of a message of several samples in its second
abbrev pub number_in : ℕ → ℕ → ℕ
number_in smp_cnt asdus = smp_cnt / max asdus 1

-- where a run begins
abbrev pub run_begun : ℕ → Counter → Spot
run_begun run (Goose st_num sq_num) = record { run = run; state = st_num; number = sq_num }
run_begun run (Sampled smp_cnt asdus) = record { run = run; state = 1; number = number_in smp_cnt asdus }

-- how far two numbers are apart
abbrev pub numbers_apart : ℕ → ℕ → ℕ
numbers_apart m n = (m - n) + (n - m)

-- Two numbers are of different seconds if they are 512 apart or more, and more than half of a second, of which at least the greatest
-- number so far is known.
abbrev pub is_other_second : ℕ → ℕ → ℕ → Bool
is_other_second top m n = nat_le least_far (numbers_apart m n) && nat_lt (max top m) (2 * numbers_apart m n)

-- the second of a number that comes soon behind the latest one: the nearest
abbrev pub nearest : Heard → ℕ → ℕ
nearest heard number =
    if is_other_second heard.top number heard.latest.number
    then (if nat_lt number heard.latest.number then next heard.latest.state else heard.latest.state - 1)
    else heard.latest.state

-- the second of a number that comes within a second, too late for a copy: this one, or the one behind
abbrev pub following : Spot → ℕ → ℕ
following latest number = if nat_lt number latest.number then next latest.state else latest.state

-- A GOOSE that is ahead goes on, and one that comes soon is a copy or late; any other is of a sender that began anew.
abbrev pub goose_spot : Heard → ℕ → Spot → Spot
goose_spot heard time same =
    if nat_lt (spot_rank heard.latest) (spot_rank same) || nat_lt (time - heard.time) soon_time then same
    else record same { run = next heard.latest.run }

-- Samples that come within a second go on, unless the number is the same too late for a copy; others are of a sender that began anew.
abbrev pub sampled_spot : Heard → ℕ → ℕ → Spot
sampled_spot heard silence number =
    if nat_lt silence soon_time then record { run = heard.latest.run; state = nearest heard number; number = number }
    else if nat_lt silence sample_second && nat_lt 0 (numbers_apart number heard.latest.number)
    then record { run = heard.latest.run; state = following heard.latest number; number = number }
    else record { run = next heard.latest.run; state = 1; number = number }

-- where a message stands that comes at this time
abbrev pub spot_of : Heard → ℕ → Counter → Spot
spot_of heard time (Goose st_num sq_num) = goose_spot heard time (run_begun heard.latest.run (Goose st_num sq_num))
spot_of heard time (Sampled smp_cnt asdus) = sampled_spot heard (time - heard.time) (number_in smp_cnt asdus)
