-- The limits of an audit.
use Rattle.std.specs.Prelude.{ℕ, ◌%◌, ◌^◌}

-- how many numbers of a source are remembered, up to the greatest one: as many as a duplicate table remembers (choice of this project)
abbrev pub kept_numbers : ℕ
kept_numbers = 1024

-- the place of a number in a list of as many
abbrev pub place_in : ℕ → ℕ
place_in seq = seq % kept_numbers

-- how long a source is silent behind which its greatest number, or one behind it, is that of another frame, in nanoseconds: EntryForgetTime
-- (IEC 62439-3 clauses 4 and 5)
abbrev pub epoch_gap : ℕ
epoch_gap = 400000000

-- how many sources have figures (choice of this project)
abbrev pub most_audited : ℕ
most_audited = 1024

-- of how many arrivals of a source the lengths of its stretches are exact: each makes a stretch longer by at most 1024 numbers, and their
-- sum is kept in 64 bits (choice of this project)
abbrev pub exact_arrivals : ℕ
exact_arrivals = 2 ^ 53

-- how many frames have to come by one side alone at the end of a source's arrivals, for the source to be heard there alone (choice of this
-- project)
abbrev pub least_sided : ℕ
least_sided = 3

-- of how many sources single frames are listed at once (choice of this project)
abbrev pub listed_at_once : ℕ
listed_at_once = 512
