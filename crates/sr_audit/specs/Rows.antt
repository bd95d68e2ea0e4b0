-- Frames in a row, by their numbers, that came by one side alone: those at the end, and the most that were in a row before.
use Rattle.std.specs.Prelude.{
  ◌≡◌,
  ℕ,
  zero,
  suc,
  ◌+◌,
  ◌-◌,
  ◌%◌,
  nat_lt,
  nat_le,
  Bool,
  true,
  false,
  List,
  [],
  ◌∷◌,
  Option,
  None,
  Some,
  ℤ,
  pos,
  ◌+ℤ◌,
  slice_index_or,
  if◌then◌else◌,
}
use Rattle.sr_sequence.specs.declared.Distance.TheVariants.{Behind, Ahead}
use Rattle.sr_dup_window.specs.Windows.{Window, window_of, has_of}
use Rattle.sr_audit.specs.declared.arrival.Arrival.{Arrival}
use Rattle.sr_audit.specs.declared.look.Step.{Step}
use Rattle.sr_audit.specs.declared.look.Step.TheVariants.{First, Restart, Jump, On}
use Rattle.sr_audit.specs.declared.numbers.Numbers.{Numbers}
use Rattle.sr_audit.specs.declared.row.Row.{Row}
use Rattle.sr_audit.specs.declared.row.Rows.{Rows}
use Rattle.sr_audit.specs.declared.side.Side.{Side}
use Rattle.sr_audit.specs.declared.side.Side.TheVariants.{A, B}
use Rattle.sr_audit.specs.declared.span.Spans.{Spans}
use Rattle.sr_audit.specs.Edges.{first_time, is_beyond}
use Rattle.sr_audit.specs.Extents.{bottom_number, length_of}
use Rattle.sr_audit.specs.Lanes.{side_lane}
use Rattle.sr_audit.specs.Looks.{step_by}
use Rattle.sr_audit.specs.Limits.{kept_numbers, least_sided, place_in}
use Rattle.sr_audit.specs.Shown.{bounded_sum}
use Rattle.sr_audit.specs.Stretches.{Placed, same_side, came}

-- a row with a frame more that came by a side alone, first at a time
abbrev pub longer : Side → ℕ → Option Row → Row
longer side time None = record { side = side; frames = 1; since = time; until = time }
longer side time (Some r) =
    if same_side r.side side then record { side = r.side; frames = bounded_sum r.frames 1; since = r.since; until = time }
    else record { side = side; frames = 1; since = time; until = time }

-- a row with a number more, of which copies came by A or not, and by B, the first at a time: a pair ends it, and so does a frame that the
-- row's own side lost; a frame at the edge of the other capture changes nothing, and neither does a number of no frame
abbrev pub row_with : Spans → Bool → Bool → ℕ → Option Row → Option Row
row_with spans true true time r = None
row_with spans true false time r = if is_beyond spans B time then r else Some (longer A time r)
row_with spans false true time r = if is_beyond spans A time then r else Some (longer B time r)
row_with spans false false time r = r

-- a row with so many numbers more of a stretch, from one on
abbrev pub row_on : Spans → List Placed → ℤ → ℕ → Option Row → Option Row
row_on spans s n zero r = r
row_on spans s n (suc k) r =
    row_with spans (came A (n +ℤ pos k) s) (came B (n +ℤ pos k) s) (first_time (n +ℤ pos k) s) (row_on spans s n k r)

-- the row at the end of a stretch, by all its numbers
abbrev pub row_of : Spans → List Placed → Option Row
row_of spans s = row_on spans s (bottom_number s) (length_of s) None

-- it is shown where it has so many frames
abbrev pub shown_row : Option Row → Option Row
shown_row None = None
shown_row (Some r) = if nat_le least_sided r.frames then Some r else None

-- the number that lies so many steps above the least of the last 1024
abbrev pub kept_number : ℕ → ℕ → ℕ
kept_number reference k = (reference + (65536 - (kept_numbers - 1)) + k) % 65536

-- a row by a side
abbrev pub row_at : Side → Option Row → Option Row
row_at side None = None
row_at side (Some r) = if same_side r.side side then Some r else None

-- the row that a number ends, of which copies came by A or not, and by B, the first at a time: a pair ends it, and so does a frame that the
-- row's own side lost
abbrev pub row_ended : Spans → Bool → Bool → ℕ → Option Row → Option Row
row_ended spans true true time r = r
row_ended spans true false time r = if is_beyond spans B time then None else row_at B r
row_ended spans false true time r = if is_beyond spans A time then None else row_at A r
row_ended spans false false time r = None

-- of two rows the one of more frames, and of equal ones the first
abbrev pub larger_row : Option Row → Option Row → Option Row
larger_row best None = best
larger_row None (Some r) = Some r
larger_row (Some best) (Some r) = if nat_lt best.frames r.frames then Some r else Some best

-- the row at the end and the longest one that ended, with a number more
abbrev pub rows_with : Spans → Bool → Bool → ℕ → Rows → Rows
rows_with spans a b time rs =
    record { at_end = row_with spans a b time rs.at_end; closed = larger_row rs.closed (row_ended spans a b time rs.at_end) }

-- with so many numbers more of a stretch, from one on
abbrev pub rows_on : Spans → List Placed → ℤ → ℕ → Rows → Rows
rows_on spans s n zero rs = rs
rows_on spans s n (suc k) rs =
    rows_with spans (came A (n +ℤ pos k) s) (came B (n +ℤ pos k) s) (first_time (n +ℤ pos k) s) (rows_on spans s n k rs)

abbrev pub no_rows : Rows
no_rows = record { at_end = None; closed = None }

-- where a stretch begins no row is at the end
abbrev pub rows_begun : Rows → Rows
rows_begun rs = record { at_end = None; closed = rs.closed }

-- the rows of the numbers of stretches that lie 1024 or more below the greatest one of their stretch
abbrev pub rows_left : Spans → List (List Placed) → Rows
rows_left spans [] = no_rows
rows_left spans (s ∷ before) = rows_on spans s (bottom_number s) (length_of s - kept_numbers) (rows_begun (rows_left spans before))

-- those of all numbers of the last stretch, and of what the ones before it left behind
abbrev pub rows_of : Spans → List (List Placed) → Rows
rows_of spans [] = no_rows
rows_of spans (s ∷ before) = rows_on spans s (bottom_number s) (length_of s) (rows_begun (rows_left spans before))

-- the longest row that ended
abbrev pub closed_of : Spans → List (List Placed) → Option Row
closed_of spans ss = (rows_of spans ss).closed

-- rows with so many numbers more, by the record, from the least that it keeps on
abbrev pub rows_kept : Spans → Window → List ℕ → ℕ → Rows → Rows
rows_kept spans w moments zero rs = rs
rows_kept spans w moments (suc k) rs =
    let seq = kept_number w.reference k in
    rows_with spans (has_of kept_numbers w (side_lane A) seq) (has_of kept_numbers w (side_lane B) seq)
    (slice_index_or moments (place_in seq) 0) (rows_kept spans w moments k rs)

-- the rows of the numbers that the stretch has left behind, with an arrival: those on the way to a number ahead, and none at the end where
-- a stretch begins
abbrev pub rows_by : Spans → Window → List ℕ → Rows → Step → Rows
rows_by spans w moments rs First = rows_begun rs
rows_by spans w moments rs Restart = rows_begun rs
rows_by spans w moments rs Jump = rows_begun rs
rows_by spans w moments rs (On (Ahead steps)) = rows_kept spans w moments steps rs
rows_by spans w moments rs (On (Behind steps)) = rs

abbrev pub rows_passed : Spans → Arrival → Option Numbers → List ℕ → Rows → Rows
rows_passed spans x None moments rs = rows_begun rs
rows_passed spans x (Some n) moments rs =
    rows_by spans (window_of n.seen) moments rs (step_by (window_of n.seen).reference n.last x)

-- those of all numbers of the stretch
abbrev pub rows_before : Spans → Option Numbers → List ℕ → Rows → Rows
rows_before spans None moments rs = rs
rows_before spans (Some n) moments rs = rows_kept spans (window_of n.seen) moments kept_numbers rs

-- what is kept are the rows of the numbers that the stretches left behind
pub record KeepsRows (spans : Spans) (ss : List (List Placed)) (rs : Rows) : Type 0 where
  pub rows : rs ≡ rows_left spans ss
