-- The limits of streams: choices of this project, but for the length of a name.
use Rattle.std.specs.Prelude.{ℕ}

-- the most octets of a name: VisibleString129 (IEC 61850-8-1 and 9-2)
abbrev pub longest_name : ℕ
longest_name = 129

-- how long a copy is known as one: EntryForgetTime, 400 ms, in nanoseconds (IEC 62439-3 clauses 4 and 5)
abbrev pub soon_time : ℕ
soon_time = 400000000

-- how long the numbers of samples tell a step, in nanoseconds: they begin anew each second (IEC 61850-9-2)
abbrev pub sample_second : ℕ
sample_second = 1000000000

-- how far numbers of different seconds are apart at least
abbrev pub least_far : ℕ
least_far = 512

-- how many spots are looked at, from the one furthest ahead on
abbrev pub kept_spots : ℕ
kept_spots = 256

-- how many streams are kept
abbrev pub max_streams : ℕ
max_streams = 1024
