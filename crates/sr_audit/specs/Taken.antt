-- What is kept of a source says of the source's arrivals.
use Rattle.std.specs.Prelude.{◌≡◌, ◌+◌, ◌^◌, ◌<◌, ◌≤◌, List, [], ◌∷◌, length, Option, Some, None}
use Rattle.sr_audit.specs.declared.arrival.Arrival.{Arrival}
use Rattle.sr_audit.specs.declared.numbers.Numbers.{Numbers}
use Rattle.sr_audit.specs.declared.source.Source.{Source}
use Rattle.sr_audit.specs.declared.span.Spans.{Spans}
use Rattle.sr_audit.specs.Edges.{KeepsEdges}
use Rattle.sr_audit.specs.Following.{FollowsArrivals}
use Rattle.sr_audit.specs.Limits.{exact_arrivals}
use Rattle.sr_audit.specs.Reaching.{KeepsExtent}
use Rattle.sr_audit.specs.Rows.{KeepsRows}
use Rattle.sr_audit.specs.Skewing.{skews_of, KeepsSkews}
use Rattle.sr_audit.specs.Stretches.{stretches}

-- no arrival, or what the record follows
abbrev pub IsKeptIn : List Arrival → Option Numbers → Type 0
IsKeptIn xs None = xs ≡ []
IsKeptIn xs (Some n) = FollowsArrivals xs n

-- these arrivals of the source were taken, newest first, where the captures run then
pub record HasTaken (spans : Spans) (xs : List Arrival) (s : Source) : Type 0 where
  pub numbers : IsKeptIn xs s.numbers
  pub edges : KeepsEdges spans (stretches xs) s.moments.times.items s.edges
  pub extent : length xs ≤ exact_arrivals → KeepsExtent xs s.extent
  pub skews : length xs ≤ exact_arrivals → KeepsSkews (skews_of (stretches xs)) s.skews
  pub rows : KeepsRows spans (stretches xs) s.rows

-- one arrival more was taken
pub record TakesArrival (spans : Spans) (x : Arrival) (old new : Source) : Type 0 where
  pub takes : (xs : List Arrival) → length xs + 1 < 2 ^ 64 → HasTaken spans xs old → HasTaken spans (x ∷ xs) new

-- the arrivals that were taken are the same
pub record KeepsTaken (old new : Source) : Type 0 where
  pub keeps : (spans : Spans) (xs : List Arrival) → HasTaken spans xs old → HasTaken spans xs new
