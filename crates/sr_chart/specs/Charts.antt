-- A chart as its callers see it.
use Rattle.std.specs.Prelude.{ℕ, ◌+◌, ◌-◌, ◌^◌, min, List, [], ◌∷◌, ◌++◌, length, None}
use Rattle.sr_chart.specs.declared.chart.CutLink.{CutLink}
use Rattle.sr_chart.specs.declared.chart.Mark.{Mark}
use Rattle.sr_chart.specs.declared.kinds.Arrow.{Arrow}
use Rattle.sr_chart.specs.declared.kinds.LinkPlace.{LinkPlace}

-- how many events a chart shows (choice of this project)
abbrev pub most_events : ℕ
most_events = 500

-- how many events it shows, the sender of each of its frames, its copies, where frames are sent and handed up, the links that were cut, and
-- how many events it leaves out
pub record Shown : Type 0 where
  pub events : ℕ
  pub senders : List ℕ
  pub arrows : List Arrow
  pub sent : List Mark
  pub up : List Mark
  pub cuts : List CutLink
  pub left_out : ℕ

-- nothing
abbrev pub nothing_shown : Shown
nothing_shown = record { events = 0; senders = []; arrows = []; sent = []; up = []; cuts = []; left_out = 0 }

-- the row of the event that was added last
abbrev pub last_row : Shown → ℕ
last_row s = s.events - 1

-- something at the column of a node, in the last row, of the frame at a place
abbrev pub mark_of : Shown → ℕ → ℕ → Mark
mark_of s node frame = record { node = node; row = last_row s; frame = frame }

-- with a frame more, which a node sends in the last row
abbrev pub with_frame : Shown → ℕ → Shown
with_frame s source = record s {
  senders = s.senders ++ source ∷ [];
  sent = s.sent ++ mark_of s source (length s.senders) ∷ [];
}

-- a link that is cut from the last row on
abbrev pub cut_link : Shown → ℕ → LinkPlace → CutLink
cut_link s link place = record { link = link; place = place; start = last_row s; end = None }

-- with an event more that is left out, up to the greatest number
abbrev pub with_left_out : Shown → Shown
with_left_out s = record s { left_out = min (s.left_out + 1) (2 ^ 64 - 1) }
