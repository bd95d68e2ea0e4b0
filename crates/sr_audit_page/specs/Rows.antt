-- What the table of the captures shows.
use Rattle.std.specs.Prelude.{ℕ, Option, Some, None}
use Rattle.sr_audit.specs.declared.span.Span.{Span}
use Rattle.sr_capture_audit.specs.declared.counts.SideCounts.{SideCounts}
use Rattle.sr_page.specs.declared.captures.CaptureCounts.{CaptureCounts}

abbrev pub first_time_in : Option Span → Option ℕ
first_time_in None = None
first_time_in (Some span) = Some span.first

abbrev pub last_time_in : Option Span → Option ℕ
last_time_in None = None
last_time_in (Some span) = Some span.last

-- of a capture: how many packets it has of each kind, and when the first and the last one came
abbrev pub counts_at : SideCounts → Option Span → CaptureCounts
counts_at c span = record {
  packets = c.packets;
  numbered = c.numbered;
  plain = c.plain;
  misfit = c.misfit;
  wrong_lan = c.wrong_lan;
  cut = c.cut;
  long = c.long;
  empty = c.empty;
  first = first_time_in span;
  last = last_time_in span;
}
