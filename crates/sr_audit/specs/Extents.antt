-- How many numbers the stretches of a source have, in which order its frames came, and how its stretches begin.
use Rattle.std.specs.Prelude.{
  ℕ,
  ◌+◌,
  ◌-◌,
  nat_lt,
  Bool,
  false,
  not,
  ◌&&◌,
  List,
  [],
  ◌∷◌,
  length,
  ℤ,
  pos,
  negsuc,
  ◌-ℤ◌,
  int_lt,
  if◌then◌else◌,
}
use Rattle.std.specs.List.{list_any}
use Rattle.sr_audit.specs.declared.arrival.Arrival.{Arrival}
use Rattle.sr_audit.specs.declared.side.Side.{Side}
use Rattle.sr_audit.specs.Limits.{epoch_gap}
use Rattle.sr_audit.specs.Stretches.{Placed, same_side, came, top_number, newest_time, lies_from, is_far, goes_on, stretches}
use Rattle.sr_audit.specs.Tallies.{frames}

-- the lesser of two numbers
abbrev pub lesser : ℤ → ℤ → ℤ
lesser m n = if int_lt m n then m else n

-- the least whole number of a stretch
abbrev pub bottom_number : List Placed → ℤ
bottom_number [] = pos 0
bottom_number (y ∷ []) = y.number
bottom_number (y ∷ z ∷ before) = lesser (bottom_number (z ∷ before)) y.number

-- a difference that is not negative
abbrev pub size_of : ℤ → ℕ
size_of (pos n) = n
size_of (negsuc n) = 0

-- how many numbers a stretch has, from the least to the greatest
abbrev pub length_of : List Placed → ℕ
length_of [] = 0
length_of (y ∷ before) = size_of (top_number (y ∷ before) -ℤ bottom_number (y ∷ before)) + 1

-- how many of them no frame has
abbrev pub neither_of : List Placed → ℕ
neither_of s = length_of s - length (frames s)

-- a greater number came before at a side
abbrev pub has_greater : Side → ℤ → List Placed → Bool
has_greater side n s = list_any (λ y. same_side side y.side && int_lt n y.number) s

-- how many first copies came at a side behind a greater number there
abbrev pub order : Side → List Placed → ℕ
order side [] = 0
order side (y ∷ before) =
    (if same_side side y.side && (not (came side y.number before) && has_greater side y.number before) then 1 else 0) + order side before

-- an arrival begins a stretch by its number: its source was not silent
abbrev pub is_jump : List (List Placed) → Arrival → Bool
is_jump [] x = false
is_jump (s ∷ before) x = nat_lt (x.time - newest_time s) epoch_gap && is_far (lies_from s x.seq.0)

-- an arrival begins a stretch behind a silence of 400 ms: its number is not 1 to 1023 ahead
abbrev pub is_restart : List (List Placed) → Arrival → Bool
is_restart [] x = false
is_restart (s ∷ before) x = not (nat_lt (x.time - newest_time s) epoch_gap) && not (goes_on s x)

-- how many arrivals pass a test of the stretches before them
abbrev pub arrivals_with : (List (List Placed) → Arrival → Bool) → List Arrival → ℕ
arrivals_with test [] = 0
arrivals_with test (x ∷ before) = (if test (stretches before) x then 1 else 0) + arrivals_with test before

abbrev pub jumps_of : List Arrival → ℕ
jumps_of xs = arrivals_with is_jump xs

abbrev pub restarts_of : List Arrival → ℕ
restarts_of xs = arrivals_with is_restart xs
