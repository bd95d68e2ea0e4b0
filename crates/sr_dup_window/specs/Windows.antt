-- What a record shows: its greatest number, and the lanes of that number and of those just before it.
use Rattle.std.specs.Prelude.{ℕ, ◌+◌, ◌-◌, ◌*◌, ◌%◌, Bool, List, ◌++◌, map, take, replicate, slice_set, slice_index_or, nat_eq}
use Rattle.std.specs.Ordering.{on, eq_of_both}
use Rattle.std.specs.Cmp.Lexicographic.{pointwise}
use Rattle.std.specs.List.{range_with_len}
use lib.Lanes.{zip2}
use Rattle.sr_sequence.specs.declared.Distance.{Distance}
use Rattle.sr_sequence.specs.declared.Distance.TheVariants.{Behind, Ahead}
use Rattle.sr_sequence.specs.Places.{place_of}
use Rattle.sr_dup_window.specs.declared.lane_sets.Lane.{Lane}
use Rattle.sr_dup_window.specs.declared.lane_sets.Lanes.{Lanes}
use Rattle.sr_dup_window.specs.declared.record.Record.{Record}
use Rattle.sr_dup_window.specs.LaneSets.{has, none, union, difference}
use Rattle.sr_dup_window.specs.Bins.{lanes_at}

-- the 16 bits of the greatest number, and the lanes on which it and the numbers before it are noted, newest first
pub record Window : Type 0 where
  pub reference : ℕ
  pub marks : List Lanes

-- the lanes of the W numbers of a record, newest first: number n stands at the bin `n mod W`
unfoldable pub marks_of : {N : ℕ} → Record N → List Lanes
marks_of {N} r = map (λ k. lanes_at r.rows ((r.reference.0 + (65536 - k)) % 65536 % (64 * N))) (range_with_len 0 (64 * N))

-- what a record shows
abbrev pub window_of : {N : ℕ} → Record N → Window
window_of r = record { reference = r.reference.0; marks = marks_of r }

-- so many numbers, noted on no lane
unfoldable pub no_marks : ℕ → List Lanes
no_marks count = replicate count none

-- more lanes for the number at a distance
abbrev pub marks_with : List Lanes → ℕ → Lanes → List Lanes
marks_with marks k lanes = slice_set marks k (union (slice_index_or marks k none) lanes)

-- the w numbers up to one that is so many later; the later numbers are noted on no lane yet
abbrev pub marks_slid : ℕ → ℕ → List Lanes → List Lanes
marks_slid w count marks = take w (no_marks count ++ marks)

-- one number, on some lanes
abbrev pub window_begun : ℕ → ℕ → Lanes → Window
window_begun w seq lanes = record { reference = seq; marks = marks_with (no_marks w) 0 lanes }

-- the number at a distance noted on some lanes
abbrev pub noted_at : ℕ → Window → ℕ → Lanes → Distance → Window
noted_at w r seq lanes (Behind k) = record { reference = r.reference; marks = marks_with r.marks k lanes }
noted_at w r seq lanes (Ahead a) = record { reference = seq; marks = marks_with (marks_slid w a r.marks) 0 lanes }

-- a number noted on some lanes
abbrev pub window_noted : ℕ → Window → ℕ → Lanes → Window
window_noted w r seq lanes = noted_at w r seq lanes (place_of r.reference seq w)

-- the lanes of the number at a distance: none outside the window
abbrev pub lanes_behind : Window → Distance → Lanes
lanes_behind r (Behind k) = slice_index_or r.marks k none
lanes_behind r (Ahead a) = none

-- the lanes on which a number is noted: none outside the window
abbrev pub lanes_of : ℕ → Window → ℕ → Lanes
lanes_of w r seq = lanes_behind r (place_of r.reference seq w)

-- whether a number is noted on a lane
abbrev pub has_of : ℕ → Window → Lane → ℕ → Bool
has_of w r lane seq = has (lanes_of w r seq) lane

-- the asked lanes on which a number is not noted
abbrev pub fresh_lanes : ℕ → Window → ℕ → Lanes → Lanes
fresh_lanes w r seq lanes = difference lanes (lanes_of w r seq)

-- number by number the lanes of both, where the greatest number of the second is at a distance from the first's
abbrev pub merged_at : ℕ → Window → Window → Distance → Window
merged_at w a b (Behind k) = record { reference = a.reference; marks = zip2 union a.marks (marks_slid w k b.marks) }
merged_at w a b (Ahead k) = record { reference = b.reference; marks = zip2 union (marks_slid w k a.marks) b.marks }

-- the numbers of both
abbrev pub window_merged : ℕ → Window → Window → Window
window_merged w a b = merged_at w a b (place_of a.reference b.reference 32768)

-- whether two windows are one
abbrev pub same_window : Window → Window → Bool
same_window = eq_of_both (on (λ w. w.reference) nat_eq) (on (λ w. w.marks) (pointwise (on (λ lanes. lanes.0) nat_eq)))
