-- The arrivals of one source, newest first, and the stretches of whole numbers that they fall into.
use Rattle.std.specs.Prelude.{ℕ, ◌-◌, nat_lt, nat_le, Bool, true, false, not, ◌&&◌, List, [], ◌∷◌, ℤ, pos, if◌then◌else◌}
use Rattle.std.specs.Ordering.{int_eq}
use Rattle.std.specs.List.{list_any}
use Rattle.sr_sequence.specs.Numbers.{wire}
use Rattle.sr_sequence.specs.Places.{place_of, number_at}
use Rattle.sr_sequence.specs.declared.Distance.{Distance}
use Rattle.sr_sequence.specs.declared.Distance.TheVariants.{Behind, Ahead}
use Rattle.sr_dup_window.specs.Families.{greater}
use Rattle.sr_audit.specs.declared.arrival.Arrival.{Arrival}
use Rattle.sr_audit.specs.declared.side.Side.{Side}
use Rattle.sr_audit.specs.declared.side.Side.TheVariants.{A, B}
use Rattle.sr_audit.specs.Limits.{kept_numbers, epoch_gap}

abbrev pub same_side : Side → Side → Bool
same_side A A = true
same_side B B = true
same_side side other = false

-- a copy in its stretch: where and when it came in, and the whole number of its frame
pub record Placed : Type 0 where
  pub side : Side
  pub number : ℤ
  pub time : ℕ

-- the greatest whole number of a stretch
abbrev pub top_number : List Placed → ℤ
top_number [] = pos 0
top_number (y ∷ []) = y.number
top_number (y ∷ z ∷ before) = greater (top_number (z ∷ before)) y.number

-- when the newest copy of a stretch came
abbrev pub newest_time : List Placed → ℕ
newest_time [] = 0
newest_time (y ∷ before) = y.time

-- the number lies more than 1023 ahead
abbrev pub is_far : Distance → Bool
is_far (Behind k) = false
is_far (Ahead k) = nat_le kept_numbers k

-- where a number lies from the greatest one of a stretch
abbrev pub lies_from : List Placed → ℕ → Distance
lies_from s seq = place_of (wire (top_number s)) seq kept_numbers

-- a number goes on with a stretch, whose newest copy came less than 400 ms before or not: one that is 1 to 1023 ahead of the greatest does
-- behind any silence, and the greatest itself, or one behind it, only where there was none
abbrev pub goes_to : Bool → Distance → Bool
goes_to soon (Behind k) = soon
goes_to soon (Ahead k) = not (nat_le kept_numbers k)

-- an arrival goes on with a stretch
abbrev pub goes_on : List Placed → Arrival → Bool
goes_on [] x = false
goes_on (y ∷ before) x = goes_to (nat_lt (x.time - y.time) epoch_gap) (lies_from (y ∷ before) x.seq.0)

abbrev pub copy_as : Arrival → ℤ → Placed
copy_as x number = record { side = x.side; number = number; time = x.time }

-- the stretch with an arrival that goes on with it
abbrev pub gone_on : List Placed → Arrival → List Placed
gone_on s x = copy_as x (number_at (top_number s) (lies_from s x.seq.0)) ∷ s

-- the stretch that an arrival begins: its whole number is the one that it carries
abbrev pub stretch_begun : Arrival → List Placed
stretch_begun x = copy_as x (pos x.seq.0) ∷ []

-- the stretch that the newest arrival is in
abbrev pub current : List (List Placed) → List Placed
current [] = []
current (s ∷ before) = s

-- the stretches with one arrival more
abbrev pub with_arrival : List (List Placed) → Arrival → List (List Placed)
with_arrival [] x = stretch_begun x ∷ []
with_arrival (s ∷ before) x = if goes_on s x then gone_on s x ∷ before else stretch_begun x ∷ s ∷ before

-- the stretches of the arrivals of a source, newest first
abbrev pub stretches : List Arrival → List (List Placed)
stretches [] = []
stretches (x ∷ before) = with_arrival (stretches before) x

-- a copy of a frame of a stretch came in at a side
abbrev pub came : Side → ℤ → List Placed → Bool
came side number s = list_any (λ y. int_eq number y.number && same_side side y.side) s
