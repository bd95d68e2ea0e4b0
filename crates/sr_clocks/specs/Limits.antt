-- The limits of what frames tell of clocks.
use Rattle.std.specs.Prelude.{ℕ, ℤ, pos, negsuc}

-- how wide a window of differences is at least, in nanoseconds: copies of a frame come so close in a sound network (choice of this project)
abbrev pub copies_width : ℕ
copies_width = 20000000

-- the part of the frames' time by which it is wider: 200 ppm, which clocks drift (choice of this project)
abbrev pub drift_part : ℕ
drift_part = 5000

-- how long frames span at least that tell of a drift, in nanoseconds (choice of this project)
abbrev pub least_span : ℕ
least_span = 5000000000

-- how many frames of a third of their time do (choice of this project)
abbrev pub least_of_a_third : ℕ
least_of_a_third = 3

-- the most that a clock is taken to drift, in nanoseconds a second, and the least: 1000 ppm (choice of this project)
abbrev pub most_drift : ℤ
most_drift = pos 1000000

abbrev pub least_drift : ℤ
least_drift = negsuc 999999
