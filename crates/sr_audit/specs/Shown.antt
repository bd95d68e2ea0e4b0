-- The figures that are shown of what is kept of a source.
use Rattle.std.specs.Prelude.{ℕ, ◌+◌, ◌-◌, ◌^◌, min, Option, None, Some}
use Rattle.sr_audit.specs.declared.numbers.Numbers.{Numbers}
use Rattle.sr_audit.specs.declared.source.Figures.{Figures}
use Rattle.sr_audit.specs.declared.source.Source.{Source}
use Rattle.sr_audit.specs.declared.tally.Tally.{Tally}

-- a sum that stays at the greatest number of 64 bits
abbrev pub bounded_sum : ℕ → ℕ → ℕ
bounded_sum n m = min (n + m) (2 ^ 64 - 1)

abbrev pub empty_tally : Tally
empty_tally = record {
  rx = record { a = 0; b = 0 };
  pairs = 0;
  alone = record { a = 0; b = 0 };
  repeats = record { a = 0; b = 0 };
}

abbrev pub tally_in : Option Numbers → Tally
tally_in None = empty_tally
tally_in (Some n) = n.tally

-- how many frames came, by whichever side
abbrev pub frames_in : Tally → ℕ
frames_in t = bounded_sum (bounded_sum t.pairs t.alone.a) t.alone.b

-- the numbers of the stretches that no frame had are those that are left of their lengths
abbrev pub figures_of : Source → Figures
figures_of s = record {
  tally = tally_in s.numbers;
  edges = s.edges;
  neither = s.extent.lengths - frames_in (tally_in s.numbers);
  order = s.extent.order;
  jumps = s.extent.jumps;
  restarts = s.extent.restarts;
  skews = s.skews;
}
