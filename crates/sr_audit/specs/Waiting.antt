-- The frames at the end of a stretch of which a copy came by one side alone, and whose other copy may still come in time.
use Rattle.std.specs.Prelude.{ℕ, zero, suc, ◌+◌, ◌-◌, nat_lt, Bool, true, false, List, ℤ, pos, ◌+ℤ◌, ◌-ℤ◌, slice_index_or, if◌then◌else◌}
use Rattle.sr_dup_window.specs.Windows.{Window, has_of}
use Rattle.sr_audit.specs.declared.side.Side.TheVariants.{A, B}
use Rattle.sr_audit.specs.declared.tally.Sides.{Sides}
use Rattle.sr_audit.specs.Edges.{first_time}
use Rattle.sr_audit.specs.Lanes.{side_lane}
use Rattle.sr_audit.specs.Limits.{kept_numbers, place_in}
use Rattle.sr_audit.specs.Rows.{kept_number}
use Rattle.sr_audit.specs.Stretches.{Placed, came, top_number}

-- for how long the other copy of a frame is in time, in nanoseconds (choice of this project)
abbrev pub copy_in_time : ℕ
copy_in_time = 400000000

-- none at either side
abbrev pub none_waits : Sides
none_waits = record { a = 0; b = 0 }

-- counts with a frame more that came by one side alone, of copies that came by A or not, and by B
abbrev pub alone_with : Bool → Bool → Sides → Sides
alone_with true true w = w
alone_with true false w = record { a = w.a + 1; b = w.b }
alone_with false true w = record { a = w.a; b = w.b + 1 }
alone_with false false w = w

-- with a number more, whose first copy came then: it waits where that was less than 400 ms before the mark
abbrev pub waits_with : ℕ → Bool → Bool → ℕ → Sides → Sides
waits_with mark a b time w = if nat_lt (mark - time) copy_in_time then alone_with a b w else w

-- how many of so many numbers of a stretch wait, from one on
abbrev pub waits_on : ℕ → List Placed → ℤ → ℕ → Sides
waits_on mark s n zero = none_waits
waits_on mark s n (suc k) =
    waits_with mark (came A (n +ℤ pos k) s) (came B (n +ℤ pos k) s) (first_time (n +ℤ pos k) s) (waits_on mark s n k)

-- how many numbers of a stretch may wait: the last 1024
unfoldable pub last_numbers : ℕ
last_numbers = 1024

-- how many frames of a stretch wait, by the side by which they came
abbrev pub waits_of : ℕ → List Placed → Sides
waits_of mark s = waits_on mark s (top_number s -ℤ pos (kept_numbers - 1)) last_numbers

-- by the record, from the least number that it keeps on
abbrev pub waits_kept : ℕ → Window → List ℕ → ℕ → Sides
waits_kept mark w moments zero = none_waits
waits_kept mark w moments (suc k) =
    let seq = kept_number w.reference k in
    waits_with mark (has_of kept_numbers w (side_lane A) seq) (has_of kept_numbers w (side_lane B) seq)
    (slice_index_or moments (place_in seq) 0) (waits_kept mark w moments k)
