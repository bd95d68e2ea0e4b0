-- When captures begin and end.
use Rattle.std.specs.Prelude.{ℕ, List, [], ◌∷◌, Option, None, Some}
use Rattle.sr_audit.specs.declared.side.Side.{Side}
use Rattle.sr_audit.specs.declared.side.Side.TheVariants.{A, B}
use Rattle.sr_audit.specs.declared.span.Span.{Span}
use Rattle.sr_audit.specs.declared.span.Spans.{Spans}

-- the last of some times, of which this is the first
abbrev pub last_of : ℕ → List ℕ → ℕ
last_of time [] = time
last_of time (next ∷ times) = last_of next times

-- from the first to the last of some times, in order
abbrev pub span_of : List ℕ → Option Span
span_of [] = None
span_of (time ∷ times) = Some (record { first = time; last = last_of time times })

-- a span with a time more, which is not before it
abbrev pub span_with : ℕ → Option Span → Option Span
span_with time None = Some (record { first = time; last = time })
span_with time (Some span) = Some (record { first = span.first; last = time })

-- spans with a time more at a side
abbrev pub spans_with : Side → ℕ → Spans → Spans
spans_with A time spans = record spans { a = span_with time spans.a }
spans_with B time spans = record spans { b = span_with time spans.b }
