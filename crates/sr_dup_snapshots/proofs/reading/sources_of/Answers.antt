use Rattle.std.proofs.Common.{◌≡◌, ◌*◌, arith}
use Rattle.sr_dup_table.specs.Widths.{numbers_in}
use Rattle.sr_dup_snapshots.specs.Snapshots.{source_len}
use Rattle.sr_dup_snapshots.proofs.TextLemmas.{right-size}
use Rattle.sr_dup_snapshots.proofs.reading.sources_of.Goals as goal
use Rattle.sr_dup_snapshots.proofs.reading.sources_of.Goals.{else-count-le-MAX_SOURCES-via-then-count-le-MAX_SOURCES+else-sources-source_len, else-count-le-MAX_SOURCES-via-else-count-le-MAX_SOURCES}

pub returns-else-count-le-MAX_SOURCES-clause-none : goal.returns-else-count-le-MAX_SOURCES-clause-none
returns-else-count-le-MAX_SOURCES-clause-none c width s is =
    let size = right-size c.in_ok-width.width width c.args.octets.now c.in_ok-width.rest.now s c.in_ok-count.count c.in_ok-count.sources.now
    c.in_ok-width.ensures.head c.in_ok-count.ensures.front c.in_ok-count.ensures.fits is in
    elim c.else-count-le-MAX_SOURCES.branch [
      | else-count-le-MAX_SOURCES-via-then-count-le-MAX_SOURCES+else-sources-source_len w ↦
          let whole : w.source_len.result * c.from-count.result ≡ source_len (numbers_in c.in_ok-width.width) * c.in_ok-count.count =
          (λ i. w.source_len.ensures.len i * c.from-count.ensures i) in
          absurd (omega (arith, size.1, whole, w.if-sources-source_len.false))
      | else-count-le-MAX_SOURCES-via-else-count-le-MAX_SOURCES w ↦ absurd (omega (arith, size.0, w.if-count-le-MAX_SOURCES.false, c.from-count.ensures))
    ]
