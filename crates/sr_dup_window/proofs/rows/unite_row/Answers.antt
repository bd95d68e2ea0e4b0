use Rattle.std.proofs.Common.{◌||◌, ◌∙◌}
use Rattle.sr_dup_window.specs.Bins.{has_bit}
use Rattle.sr_dup_window.proofs.RowLemmas.{six_words, united_lanes}
use Rattle.sr_dup_window.proofs.rows.unite_row.Goals as goal

pub returns-clause-lanes : goal.returns-clause-lanes
returns-clause-lanes c = λ b.
    six_words c.united.result c.united-2.result c.united-3.result c.united-4.result c.united-5.result c.united-6.result b
    (λ lane. has_bit c.args.row.now b lane || has_bit c.args.other.now b lane)
    (c.united.ensures b) (c.united-2.ensures b) (c.united-3.ensures b) (c.united-4.ensures b) (c.united-5.ensures b) (c.united-6.ensures b)
    ∙ united_lanes c.args.row.now c.args.other.now b
