-- Laws of the figures of sources.
use Rattle.std.specs.Prelude.{◌≡◌, ℕ, ◌+◌, ◌-◌, ◌&&◌, List, length, is_some, count_by, sum_by}
use Rattle.std.specs.List.{IsDistinct}
use Rattle.std.specs.Map.{lookup, keys_of}
use Rattle.sr_frame.specs.declared.fields.Mac.{Mac}
use Rattle.sr_frame.specs.Addresses.{mac_eq}
use Rattle.sr_audit.specs.declared.arrival.Arrival.{Arrival}
use Rattle.sr_audit.specs.declared.side.Side.{Side}
use Rattle.sr_audit.specs.declared.side.Side.TheVariants.{A, B}
use Rattle.sr_audit.specs.declared.source.Source.{Source}
use Rattle.sr_audit.specs.declared.span.Spans.{Spans}
use Rattle.sr_audit.specs.declared.tally.Sides.{Sides}
use Rattle.sr_audit.specs.declared.tally.Tally.{Tally}
use Rattle.sr_audit.specs.Audits.{Sent, Audits}
use Rattle.sr_audit.specs.Edges.{edges_of}
use Rattle.sr_audit.specs.Extents.{length_of, neither_of}
use Rattle.sr_audit.specs.Shown.{tally_in}
use Rattle.sr_audit.specs.Stretches.{same_side, stretches}
use Rattle.sr_audit.specs.Tallies.{tally_of}

-- each copy is one of a pair, the only one at its side of a frame, or a repeat; and each came in at one side
pub record AddsUp (xs : List Arrival) (t : Tally) : Type 0 where
  pub at_a : t.rx.a ≡ t.pairs + t.alone.a + t.repeats.a
  pub at_b : t.rx.b ≡ t.pairs + t.alone.b + t.repeats.b
  pub all : t.rx.a + t.rx.b ≡ length xs

abbrev pub CopiesAddUp : Type 0
CopiesAddUp = (xs : List Arrival) → AddsUp xs (tally_of (stretches xs))

-- each copy is one of a pair, of a frame that the other side lost, of one that came at an edge of the other capture, or a repeat
pub record EdgesAddUp (t : Tally) (edges : Sides) : Type 0 where
  pub at_a : t.rx.a ≡ t.pairs + (t.alone.a - edges.a) + edges.a + t.repeats.a
  pub at_b : t.rx.b ≡ t.pairs + (t.alone.b - edges.b) + edges.b + t.repeats.b

abbrev pub LostCopiesAddUp : Type 0
LostCopiesAddUp = (spans : Spans) (xs : List Arrival) → EdgesAddUp (tally_of (stretches xs)) (edges_of spans (stretches xs))

-- each number of a stretch, from the least to the greatest, is that of a pair, of a frame that one side lost, of one that came at an edge
-- of the other capture, or of no frame
abbrev pub NumbersAddUp : Type 0
NumbersAddUp = (spans : Spans) (xs : List Arrival) → let ss = stretches xs in let t = tally_of ss in let edges = edges_of spans ss in
    t.pairs + (t.alone.a - edges.a) + (t.alone.b - edges.b) + edges.a + edges.b + sum_by neither_of ss ≡ sum_by length_of ss

-- how many copies a tally has of a side
abbrev pub rx_at : Side → Tally → ℕ
rx_at A t = t.rx.a
rx_at B t = t.rx.b

-- how many arrivals at a side are of sources that have an entry
abbrev pub of_known : Side → List (Mac × Source) → List Sent → ℕ
of_known side entries xs = count_by (λ x. same_side side x.1.side && is_some (lookup (mac_eq x.0) entries)) xs

-- the copies of a side, of all sources together, are the arrivals of these sources at that side
abbrev pub SourcesAddUp : Type 0
SourcesAddUp = (spans : Spans) (xs : List Sent) (entries : List (Mac × Source)) (side : Side) →
    IsDistinct mac_eq (keys_of entries) → Audits spans xs entries →
    sum_by (λ e. rx_at side (tally_in e.1.numbers)) entries ≡ of_known side entries xs
