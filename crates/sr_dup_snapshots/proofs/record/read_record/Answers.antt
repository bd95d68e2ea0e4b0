use Rattle.std.proofs.Common.{◌≡◌, ◌∙◌, ◌*◌, ◌<◌, min, get_or, set, sym, ap, arith}
use Rattle.sr_dup_window.specs.LaneSets.{known, none}
use Rattle.sr_dup_window.specs.LaneLemmas.{known-lanes_where}
use Rattle.sr_dup_window.specs.Windows.{Window, window_begun}
use Rattle.sr_dup_table.specs.Widths.{numbers_in}
use Rattle.sr_dup_snapshots.specs.Reading.{is_set}
use Rattle.sr_dup_snapshots.proofs.MarkLemmas.{marks-begun, not-yet, marks-more, marks-all}
use Rattle.sr_dup_snapshots.proofs.TextLemmas.{some-numbers}
use Rattle.sr_dup_snapshots.proofs.record.read_record.Goals as goal

pub loop-back-init : goal.loop-back-init
loop-back-init g c =
    c.begin-seen.ensures.value
    ∙ ap (window_begun (64 * g.row.N) c.args.reference.0) c.lanes_noted.ensures
    ∙ marks-begun (64 * g.row.N) (numbers_in c.args.width) c.args.lanes.now c.args.reference.0 (omega (arith, c.requires.record))

pub note_back-requires : goal.note_back-requires
note_back-requires g c =
    let W = 64 * g.row.N in
    let w = numbers_in c.args.width in
    let inside : c.loop-back.back < W = omega (arith, c.both_have-back-end.ensures, c.loop-back-test.true) in (
      omega (arith, c.requires.record),
      (
        inside,
        (
          ap (λ (r : Window). get_or r.marks c.loop-back.back none) c.loop-back.invariant ∙ not-yet W w c.args.lanes.now c.loop-back.back inside,
          ap known c.lanes_noted-in-loop-back.ensures ∙ known-lanes_where (is_set w c.args.lanes.now c.loop-back.back) ∙ sym c.lanes_noted-in-loop-back.ensures,
        ),
      ),
    )

pub loop-back-preserved : goal.loop-back-preserved
loop-back-preserved g c =
    c.note_back.ensures
    ∙ (λ i. record {
      reference = Window.reference (c.loop-back.invariant i);
      marks = set (Window.marks (c.loop-back.invariant i)) c.loop-back.back (c.lanes_noted-in-loop-back.ensures i);
    })
    ∙ (λ i. record { reference = c.args.reference.0; marks = marks-more (64 * g.row.N) (numbers_in c.args.width) c.args.lanes.now c.loop-back.back (omega (arith, c.both_have-back-end.ensures, c.loop-back-test.true)) i })

pub returns : goal.returns
returns g c =
    let whole : c.loop-back.back ≡ min (numbers_in c.args.width) (64 * g.row.N) =
    omega (arith, c.both_have-back-end.ensures, c.loop-back-test.false, some-numbers c.args.width, c.requires.record) in
    c.loop-back.invariant
    ∙ (λ i. record { reference = c.args.reference.0; marks = marks-all (64 * g.row.N) (numbers_in c.args.width) c.args.lanes.now c.loop-back.back whole i })
