-- How long before and behind a recording a frame may have come by the other side, and the part of a recording that leaves out both ends.
use Rattle.std.specs.Prelude.{ℕ, ◌+◌, ◌-◌, ◌^◌, min, max, Bool, unsigned_abs, Option, None, Some, fold}
use Rattle.sr_audit.specs.declared.skew.Skews.{Skews}
use Rattle.sr_audit.specs.declared.span.Span.{Span}
use Rattle.sr_audit.specs.declared.span.Spans.{Spans}
use Rattle.sr_audit.specs.Shown.{figures_of}
use Rattle.sr_capture_audit.specs.declared.figures.Report.{Report}
use Rattle.sr_capture_audit.specs.Faults.{have_lost, have_missing}

-- an edge is 1 ms wide at least, and 400 ms at most: copies that come further apart are a fault (choice of this project)
abbrev pub least_edge : ℕ
least_edge = 1000000

abbrev pub most_edge : ℕ
most_edge = 400000000

-- how far apart the copies of a source's frames came at most, whichever came first
abbrev pub widest : Skews → ℕ
widest skews = max (unsigned_abs skews.least) (unsigned_abs skews.greatest)

-- how far those of all sources did, as far as an edge goes
abbrev pub edge_width : Report → ℕ
edge_width r = min (fold (λ width e. max width (widest (figures_of e.1).skews)) least_edge r.audit.sources.entries) most_edge

-- the part of a recording that is so far from its beginning and its end; of a shorter one it ends before it begins, and no time is in it
abbrev pub inner_span : ℕ → Option Span → Option Span
inner_span width None = None
inner_span width (Some span) = Some (record { first = min (span.first + width) (2 ^ 64 - 1); last = span.last - width })

abbrev pub inner_spans : ℕ → Spans → Spans
inner_spans width spans = record { a = inner_span width spans.a; b = inner_span width spans.b }

-- a frame came by one side alone, while the capture of the other side ran
abbrev pub tells_of_lost : Report → Bool
tells_of_lost r = have_lost r.audit

-- no frame had a number of a source
abbrev pub tells_of_missing : Report → Bool
tells_of_missing r = have_missing r.audit
