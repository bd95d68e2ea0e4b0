-- What is counted of a source since the start.
use Rattle.std.specs.Prelude.{ℕ, ◌-◌, List, [], ◌∷◌, Option, None, Some, sum_by, if◌then◌else◌}
use Rattle.sr_audit.specs.declared.arrival.Arrival.{Arrival}
use Rattle.sr_audit.specs.declared.side.Side.{Side}
use Rattle.sr_audit.specs.declared.side.Side.TheVariants.{A, B}
use Rattle.sr_audit.specs.declared.source.Figures.{Figures}
use Rattle.sr_audit.specs.declared.span.Spans.{Spans}
use Rattle.sr_audit.specs.declared.tally.Sides.{Sides}
use Rattle.sr_audit.specs.Edges.{edges_of}
use Rattle.sr_audit.specs.Extents.{neither_of, order, jumps_of, restarts_of}
use Rattle.sr_audit.specs.Shown.{bounded_sum}
use Rattle.sr_audit.specs.Skewing.{skews_of, skews_shown}
use Rattle.sr_audit.specs.Stretches.{same_side, stretches, current}
use Rattle.sr_audit.specs.Tallies.{tally_of, at_sides}
use Rattle.sr_audit.specs.Waiting.{waits_of}
use Rattle.sr_watch.specs.declared.counts.Counts.{Counts}
use Rattle.sr_watch.specs.declared.report.Lasts.{Lasts}
use Rattle.sr_watch.specs.Late.{lates_of}
use Rattle.sr_watch.specs.Limits.{end_of_time}

-- captures that run all the time: what comes while the other one does not run is not noted
abbrev pub always : Spans
always = record {
  a = Some (record { first = 0; last = end_of_time });
  b = Some (record { first = 0; last = end_of_time });
}

-- the figures that an audit has of all arrivals of a source, newest first
abbrev pub figures_for : List Arrival → Figures
figures_for xs = record {
  tally = tally_of (stretches xs);
  edges = edges_of always (stretches xs);
  neither = sum_by neither_of (stretches xs);
  order = at_sides order (stretches xs);
  jumps = jumps_of xs;
  restarts = restarts_of xs;
  skews = skews_shown (skews_of (stretches xs));
}

-- the frames that a side lost: those that came by the other side alone or late by this one, but for those that wait
abbrev pub called_lost : ℕ → ℕ → ℕ → ℕ
called_lost alone late waits = bounded_sum alone late - waits

-- what is counted, by the figures of an audit, the copies that came late and the frames that wait
abbrev pub counts_from : Figures → Sides → Sides → Counts
counts_from f late waits = record {
  rx = f.tally.rx;
  both = (f.tally.pairs - late.a) - late.b;
  lost = record { a = called_lost f.tally.alone.b late.a waits.b; b = called_lost f.tally.alone.a late.b waits.a };
  late = late;
  repeats = f.tally.repeats;
  order = f.order;
  neither = f.neither;
  jumps = f.jumps;
  restarts = f.restarts;
  skews = f.skews;
}

-- what is counted of a source up to a mark, by all its arrivals, newest first
abbrev pub counted_of : ℕ → List Arrival → Counts
counted_of mark xs = counts_from (figures_for xs) (lates_of (stretches xs)) (waits_of mark (current (stretches xs)))

-- when the last copy came by a side
abbrev pub newest_at : Side → List Arrival → Option ℕ
newest_at side [] = None
newest_at side (x ∷ before) = if same_side side x.side then Some x.time else newest_at side before

abbrev pub lasts_of : List Arrival → Lasts
lasts_of xs = record { a = newest_at A xs; b = newest_at B xs }

-- when the last copy came, and 0 where none did
abbrev pub last_copy_time : List Arrival → ℕ
last_copy_time [] = 0
last_copy_time (x ∷ before) = x.time

-- with a copy by a side
abbrev pub lasts_with : Side → ℕ → Lasts → Lasts
lasts_with A time l = record l { a = Some time }
lasts_with B time l = record l { b = Some time }
