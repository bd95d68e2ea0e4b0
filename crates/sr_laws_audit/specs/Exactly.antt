-- The figures of a source as a function of its arrivals, and tests of the figures of all sources.
use Rattle.std.specs.Prelude.{◌≡◌, ◌<◌, ◌≤◌, Bool, false, List, [], length, Some, sum_by}
use Rattle.std.specs.List.{IsDistinct, list_any}
use Rattle.std.specs.Map.{lookup, keys_of}
use Rattle.sr_frame.specs.declared.fields.Mac.{Mac}
use Rattle.sr_frame.specs.Addresses.{mac_eq}
use Rattle.sr_audit.specs.declared.arrival.Arrival.{Arrival}
use Rattle.sr_audit.specs.declared.source.Figures.{Figures}
use Rattle.sr_audit.specs.declared.source.Source.{Source}
use Rattle.sr_audit.specs.declared.span.Spans.{Spans}
use Rattle.sr_audit.specs.Audits.{Sent, of, Audits}
use Rattle.sr_audit.specs.Edges.{edges_of}
use Rattle.sr_audit.specs.Extents.{neither_of, order, jumps_of, restarts_of}
use Rattle.sr_audit.specs.Limits.{most_audited, exact_arrivals}
use Rattle.sr_audit.specs.Shown.{figures_of}
use Rattle.sr_audit.specs.Skewing.{skews_of, skews_shown}
use Rattle.sr_audit.specs.Stretches.{stretches}
use Rattle.sr_audit.specs.Tallies.{at_sides, tally_of}

abbrev pub figures_by : Spans → List Arrival → Figures
figures_by spans xs = record {
  tally = tally_of (stretches xs);
  edges = edges_of spans (stretches xs);
  neither = sum_by neither_of (stretches xs);
  order = at_sides order (stretches xs);
  jumps = jumps_of xs;
  restarts = restarts_of xs;
  skews = skews_shown (skews_of (stretches xs));
}

-- the source of some arrival has figures that pass a test
abbrev pub some_source : (Figures → Bool) → Spans → List Sent → Bool
some_source test spans sent = list_any (λ x. test (figures_by spans (of x.0 sent))) sent

-- an audit has all sources of these arrivals: each address once, fewer than 1024 of them, of up to 2^53 arrivals
pub record HasEachSource (spans : Spans) (sent : List Sent) (entries : List (Mac × Source)) : Type 0 where
  pub once : IsDistinct mac_eq (keys_of entries)
  pub audits : Audits spans sent entries
  pub room : length entries < most_audited
  pub exact : length sent ≤ exact_arrivals

-- what is kept of a source has the figures of its arrivals
abbrev pub FiguresAreByArrivals : Type 0
FiguresAreByArrivals = (spans : Spans) (sent : List Sent) (entries : List (Mac × Source)) (m : Mac) (s : Source) →
    HasEachSource spans sent entries → lookup (mac_eq m) entries ≡ Some s → figures_of s ≡ figures_by spans (of m sent)

-- some source that is kept passes a test of figures, which those of no arrival do not, exactly where the source of some arrival does
abbrev pub TestsAreByArrivals : Type 0
TestsAreByArrivals = (test : Figures → Bool) (spans : Spans) (sent : List Sent) (entries : List (Mac × Source)) →
    HasEachSource spans sent entries → test (figures_by spans []) ≡ false →
    list_any (λ e. test (figures_of e.1)) entries ≡ some_source test spans sent
