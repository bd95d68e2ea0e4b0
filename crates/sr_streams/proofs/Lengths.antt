-- A message adds one spot at most to a course.
use Rattle.std.proofs.Common.{ℕ, ◌+◌, ◌≤◌, Bool, true, false, List, [], ◌∷◌, length, Option, Some, None, Result, Ok, Err, arith, cond, take}
use Rattle.std.specs.Prelude.{insert, slice_get, OnOk}
use Rattle.sr_streams.specs.declared.numbers.Arrival.{Arrival}
use Rattle.sr_streams.specs.declared.spot.Spot.{Spot}
use Rattle.sr_streams.specs.Courses.{course_of, taken_at_time, seated, seat, has_rank, greatest_number}
use Rattle.sr_streams.specs.Spots.{spot_rank, spot_of}
use Rattle.sr_streams.proofs.Entering.{length_insert}

-- what follows at Ok from what holds at Ok
pub on_ok : {A E P Q : Type 0} (r : Result A E) → OnOk r P → (P → Q) → OnOk r Q
on_ok (Ok a) h f = f h
on_ok (Err e) h f = h

either_len : (b : Bool) (xs ys : List Spot) (n : ℕ) → length xs ≤ n → length ys ≤ n → length (cond b xs ys) ≤ n
either_len true xs ys n h k = h
either_len false xs ys n h k = k

seated_len : (spot : Spot) (at : Option ℕ) (spots : List Spot) → length (seated spot at spots) ≤ length spots + 1
seated_len spot None spots = omega arith
seated_len spot (Some at) spots =
    either_len (has_rank (spot_rank spot) (slice_get spots at)) spots (insert spots at spot) (length spots + 1) (omega arith) (omega (arith, length_insert spot spots at))

taken_len : (x : Arrival) (time : ℕ) (spots : List Spot) → length (taken_at_time x time spots).spots ≤ length spots + 1
taken_len x time [] = omega arith
taken_len x time (latest ∷ spots) =
    let spot = spot_of (record { latest = latest; time = time; top = greatest_number (latest ∷ spots) }) x.time x.counter in
    seated_len spot (seat (spot_rank spot) (take 256 (latest ∷ spots))) (latest ∷ spots)

pub course_len : (xs : List Arrival) → length (course_of xs).spots ≤ length xs
course_len [] = omega arith
course_len (x ∷ xs) = omega (arith, taken_len x (course_of xs).time (course_of xs).spots, course_len xs)
