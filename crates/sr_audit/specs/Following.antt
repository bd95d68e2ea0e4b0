-- What the record of a source says of the source's arrivals.
use Rattle.std.specs.Prelude.{◌≡◌, false, List, [], ◌∷◌}
use Rattle.sr_dup_window.specs.LaneSets.{only}
use Rattle.sr_dup_window.specs.Families.{Family, singleton, join, StandsFor}
use Rattle.sr_dup_window.specs.Windows.{window_of}
use Rattle.sr_audit.specs.declared.arrival.Arrival.{Arrival}
use Rattle.sr_audit.specs.declared.numbers.Numbers.{Numbers}
use Rattle.sr_audit.specs.Limits.{kept_numbers}
use Rattle.sr_audit.specs.Lanes.{side_lane}
use Rattle.sr_audit.specs.Stretches.{Placed, top_number, newest_time, stretches, current}
use Rattle.sr_audit.specs.Tallies.{tally_of}

-- the lanes and numbers of the copies of a stretch
abbrev pub family_in : List Placed → Family
family_in [] = λ lane n. false
family_in (y ∷ []) = singleton (only (side_lane y.side)) y.number
family_in (y ∷ z ∷ before) = join (family_in (z ∷ before)) (singleton (only (side_lane y.side)) y.number)

-- the record stands for the current stretch, and has the figures of all
pub record KeepsFigures (ss : List (List Placed)) (n : Numbers) : Type 0 where
  pub seen : StandsFor kept_numbers (window_of n.seen) (family_in (current ss)) (top_number (current ss))
  pub last : n.last ≡ newest_time (current ss)
  pub tally : n.tally ≡ tally_of ss

-- these arrivals were taken, newest first
abbrev pub FollowsArrivals : List Arrival → Numbers → Type 0
FollowsArrivals xs n = KeepsFigures (stretches xs) n
