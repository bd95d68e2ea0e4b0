-- What is heard of the sources of an audit, and what of it was lost.
use Rattle.std.specs.Prelude.{◌≡◌, ℕ, ◌-◌, nat_lt, nat_le, ◌&&◌, List, [], ◌∷◌, Option, None, Some, if◌then◌else◌}
use Rattle.sr_frame.specs.declared.fields.Mac.{Mac}
use Rattle.sr_audit.specs.declared.arrival.Arrival.{Arrival}
use Rattle.sr_audit.specs.declared.row.Row.{Row}
use Rattle.sr_audit.specs.declared.side.Side.{Side}
use Rattle.sr_audit.specs.declared.side.Side.TheVariants.{A, B}
use Rattle.sr_audit.specs.declared.source.Figures.{Figures}
use Rattle.sr_audit.specs.declared.source.Source.{Source}
use Rattle.sr_audit.specs.declared.span.Spans.{Spans}
use Rattle.sr_audit.specs.Rows.{row_of, closed_of, shown_row}
use Rattle.sr_audit.specs.Shown.{figures_of}
use Rattle.sr_audit.specs.Stretches.{same_side, stretches, current}
use Rattle.sr_audit.specs.Taken.{HasTaken}
use Rattle.sr_verdict.specs.declared.heard.Heard.{Heard}
use Rattle.sr_verdict.specs.declared.heard.When.{When}
use Rattle.sr_verdict.specs.declared.heard.When.TheVariants.{AtLast, At}

-- the row that a source is heard in is the one at the end of its arrivals, and the row that it was heard in the longest one that ended
pub record IsHeardIn (spans : Spans) (s : Source) (row closed : Option Row) : Type 0 where
  pub row_is : (xs : List Arrival) → HasTaken spans xs s → row ≡ shown_row (row_of spans (current (stretches xs)))
  pub closed_is : (xs : List Arrival) → HasTaken spans xs s → closed ≡ shown_row (closed_of spans (stretches xs))

-- what is heard of the sources of an audit: of each its figures and its rows, in order
abbrev pub AreHeard : Spans → List (Mac × Source) → List Heard → Type 0
AreHeard spans [] hs = hs ≡ []
AreHeard spans (e ∷ es) hs = (row : Option Row) × (closed : Option Row) × (rest : List Heard) × IsHeardIn spans e.1 row closed
    × (hs ≡ record { mac = e.0; figures = figures_of e.1; sided = row; was_sided = closed } ∷ rest) × AreHeard spans es rest

-- how many frames came by a side alone, while the capture of the other side ran: the other side lost them
abbrev pub only_at : Side → Figures → ℕ
only_at A f = f.tally.alone.a - f.edges.a
only_at B f = f.tally.alone.b - f.edges.b

-- the row of a source of which such frames came by the row's side
abbrev pub lone_row : Figures → Option Row → Option Row
lone_row f None = None
lone_row f (Some row) = if nat_lt 0 (only_at row.side f) then Some row else None

abbrev pub row_in : Heard → Option Row
row_in h = lone_row h.figures h.sided

-- the longest one that ended, and where it lasted at a time
abbrev pub closed_in : Heard → Option Row
closed_in h = lone_row h.figures h.was_sided

abbrev pub lasting : ℕ → Option Row → Option Row
lasting time None = None
lasting time (Some row) = if nat_le row.since time && nat_le time row.until then Some row else None

-- by which row a source tells of a cut: of one that stands at last, or of one at a time, which was mended
abbrev pub row_when : When → Heard → Option Row
row_when AtLast h = row_in h
row_when (At time) h = lasting time (closed_in h)

-- of a cut that was mended, where there is one
abbrev pub row_mended : Option ℕ → Heard → Option Row
row_mended None h = None
row_mended (Some time) h = row_when (At time) h

-- how many frames a row has by a side
abbrev pub row_frames : Side → Option Row → ℕ
row_frames side None = 0
row_frames side (Some row) = if same_side row.side side then row.frames else 0

-- how many frames of a source came by a side alone, besides those of its row at last, and of a cut that was mended at a time
abbrev pub rest_at : Option ℕ → Side → Heard → ℕ
rest_at mended side h = only_at side h.figures - row_frames side (row_in h) - row_frames side (row_mended mended h)
