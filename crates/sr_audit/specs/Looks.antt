-- What an arrival is to the stretches before it.
use Rattle.std.specs.Prelude.{ℕ, ◌-◌, nat_lt, nat_le, Bool, false, List, [], ◌∷◌, ℤ, if◌then◌else◌}
use Rattle.sr_sequence.specs.Numbers.{wire}
use Rattle.sr_sequence.specs.Places.{place_of, number_at}
use Rattle.sr_sequence.specs.declared.Distance.{Distance}
use Rattle.sr_sequence.specs.declared.Distance.TheVariants.{Behind, Ahead}
use Rattle.sr_audit.specs.declared.arrival.Arrival.{Arrival}
use Rattle.sr_audit.specs.declared.side.Side.TheVariants.{A, B}
use Rattle.sr_audit.specs.declared.tally.Came.{Came}
use Rattle.sr_audit.specs.declared.look.Look.{Look}
use Rattle.sr_audit.specs.declared.look.Step.{Step}
use Rattle.sr_audit.specs.declared.look.Step.TheVariants.{First, Restart, Jump, On}
use Rattle.sr_audit.specs.Limits.{kept_numbers, epoch_gap}
use Rattle.sr_audit.specs.Stretches.{Placed, came, lies_from, goes_on, top_number, newest_time}

-- how a number stands to a stretch, whose newest copy came less than 400 ms before or not
abbrev pub step_to : Bool → Distance → Step
step_to soon (Behind k) = if soon then On (Behind k) else Restart
step_to soon (Ahead k) = if nat_le kept_numbers k then (if soon then Jump else Restart) else On (Ahead k)

-- how an arrival stands to a stretch whose greatest number is carried so, and whose newest copy came then
abbrev pub step_by : ℕ → ℕ → Arrival → Step
step_by reference last x = step_to (nat_lt (x.time - last) epoch_gap) (place_of reference x.seq.0 kept_numbers)

-- by which sides copies of a frame came in a stretch
abbrev pub came_by : List Placed → ℤ → Came
came_by s number = record { a = came A number s; b = came B number s }

abbrev pub by_neither : Came
by_neither = record { a = false; b = false }

-- copies of the frame of an arrival count where it goes on with the stretch
abbrev pub came_before : List Placed → Arrival → Came
came_before s x = if goes_on s x then came_by s (number_at (top_number s) (lies_from s x.seq.0)) else by_neither

abbrev pub look_at : List (List Placed) → Arrival → Look
look_at [] x = record { step = First; came = by_neither }
look_at (s ∷ before) x = record { step = step_by (wire (top_number s)) (newest_time s) x; came = came_before s x }
