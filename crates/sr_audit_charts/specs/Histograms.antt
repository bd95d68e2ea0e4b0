-- Counts of how often each of some first numbers came.
use Rattle.std.specs.Prelude.{◌≡◌, ℕ, ◌-◌, ◌^◌, ◌<◌, min, nat_eq, List, count_by, length, slice_index_or}
use Rattle.sr_audit_charts.specs.declared.histogram.Histogram.{Histogram}

-- how often a number is one of some, up to the greatest of 32 bits
abbrev pub times_in : List ℕ → ℕ → ℕ
times_in xs k = min (count_by (nat_eq k) xs) (2 ^ 32 - 1)

-- each count is how often its place came
pub record IsHistogramOf (xs : List ℕ) (h : Histogram) : Type 0 where
  pub counts : (k : ℕ) → k < length h.counts.items → slice_index_or h.counts.items k 0 ≡ times_in xs k
