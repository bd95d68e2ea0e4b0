-- The limits by which sources are told: choices of this project.
use Rattle.std.specs.Prelude.{ℕ, ◌+◌, ◌-◌, ◌^◌, min}

-- one more, as far as 64 bits count
abbrev pub one_more : ℕ → ℕ
one_more n = min (n + 1) (2 ^ 64 - 1)

-- a second, in nanoseconds
abbrev pub whole_second : ℕ
whole_second = 1000000000

-- so many frames of a source in a whole second are many
abbrev pub loud_frames : ℕ
loud_frames = 500

-- so many, a tenth of them, are not few
abbrev pub busy_frames : ℕ
busy_frames = 50

-- a source that is heard for fewer seconds, and then is silent for more than one, is judged by the whole recording
abbrev pub short_life : ℕ
short_life = 5

-- how far apart numbers of one sender are at most: the window in which copies are known (1024 numbers)
abbrev pub near_numbers : ℕ
near_numbers = 1024

-- one is a stray, and two may be
abbrev pub least_told : ℕ
least_told = 3

-- how many sources are kept
abbrev pub most_sources : ℕ
most_sources = 1024
