use Rattle.std.proofs.Common.{◌&&◌, eqb, ◌∙◌}
use Rattle.std.specs.Int.{bit_at}
use Rattle.sr_dup_window.specs.Bins.{has_bit}
use Rattle.sr_dup_window.proofs.RowLemmas.{six_words, kept_lanes}
use Rattle.sr_dup_window.proofs.rows.keep_in.Goals as goal

pub returns-clause-lanes : goal.returns-clause-lanes
returns-clause-lanes c = λ b.
    six_words c.kept.result c.kept-2.result c.kept-3.result c.kept-4.result c.kept-5.result c.kept-6.result b
    (λ lane. eqb (bit_at c.args.mask b) 1 && has_bit c.args.row.now b lane)
    (c.kept.ensures b) (c.kept-2.ensures b) (c.kept-3.ensures b) (c.kept-4.ensures b) (c.kept-5.ensures b) (c.kept-6.ensures b)
    ∙ kept_lanes c.args.row.now (eqb (bit_at c.args.mask b) 1) b
