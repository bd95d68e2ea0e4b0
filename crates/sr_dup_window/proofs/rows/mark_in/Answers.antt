use Rattle.std.proofs.Common.{◌||◌, ◌&&◌, Bool, eqb, ap, ◌∙◌}
use Rattle.sr_dup_window.specs.declared.lane_sets.Lane.{Lane}
use Rattle.sr_dup_window.specs.declared.lane_sets.Lane.TheVariants.{H, A, B, C, GotA, GotB}
use Rattle.sr_dup_window.specs.LaneSets.{has}
use Rattle.sr_dup_window.specs.Bins.{has_bit}
use Rattle.sr_dup_window.proofs.WordLemmas.{has_by_mask}
use Rattle.sr_dup_window.proofs.RowLemmas.{six_words, marked_lanes}
use Rattle.sr_dup_window.proofs.rows.mark_in.Goals as goal

pub returns-clause-lanes : goal.returns-clause-lanes
returns-clause-lanes c = λ b.
    let set = c.args.lanes in
    let asked : Bool → Lane → Bool = λ t lane. (eqb b c.args.bit && t) || has_bit c.args.row.now b lane in
    six_words _ _ _ _ _ _ b (λ lane. asked (has set lane) lane)
    (c.with_bit.ensures.first b ∙ ap (λ t. asked t H) (has_by_mask set.0 0))
    (c.with_bit.ensures.second b ∙ ap (λ t. asked t A) (has_by_mask set.0 1))
    (c.with_bit-2.ensures.first b ∙ ap (λ t. asked t B) (has_by_mask set.0 2))
    (c.with_bit-2.ensures.second b ∙ ap (λ t. asked t C) (has_by_mask set.0 3))
    (c.with_bit-3.ensures.first b ∙ ap (λ t. asked t GotA) (has_by_mask set.0 4))
    (c.with_bit-3.ensures.second b ∙ ap (λ t. asked t GotB) (has_by_mask set.0 5))
    ∙ marked_lanes c.args.row.now c.args.bit b set
