use Rattle.std.proofs.Common.{◌≡◌, ◌∙◌, ◌&&◌, true, false, not, sym, ap, refl}
use Rattle.sr_dup_window.specs.LaneSets.{is_empty}
use Rattle.sr_dup_table.specs.Widths.{numbers_in}
use Rattle.sr_dup_snapshots.specs.Reading.{is_after, lanes_noted}
use Rattle.sr_dup_snapshots.proofs.ReadLemmas.{follows-by}
use Rattle.sr_dup_snapshots.proofs.TextLemmas.{some-numbers}
use Rattle.sr_dup_snapshots.proofs.reading.follower.Goals.{else-is_after-via-then-is_after+else-not-is_empty, else-is_after-via-else-is_after}
use Rattle.sr_dup_snapshots.proofs.reading.follower.Goals as goal

pub returns-then-not-is_empty-clause-follows : goal.returns-then-not-is_empty-clause-follows
returns-then-not-is_empty-clause-follows c =
    let after : is_after c.args.last c.in_ok-fields.fields.src ≡ true = sym c.is_after.ensures ∙ c.if-is_after.true in
    let some : not (is_empty c.lanes_noted.result) ≡ true = ap not (sym c.is_empty.ensures ∙ c.if-not-is_empty.true) in
    (λ i. sym after i && sym some i)
    ∙ follows-by (numbers_in c.args.width) (some-numbers c.args.width) c.args.last c.args.source.now c.in_ok-fields.fields.lanes.now c.in_ok-fields.fields.src
    c.lanes_noted.result c.in_ok-fields.ensures.src c.in_ok-fields.ensures.lanes c.lanes_noted.ensures

pub returns-else-is_after-clause-follows : goal.returns-else-is_after-clause-follows
returns-else-is_after-clause-follows c =
    elim c.else-is_after.branch [
      | else-is_after-via-then-is_after+else-not-is_empty w ↦
          let after : is_after c.args.last c.in_ok-fields.fields.src ≡ true = sym c.is_after.ensures ∙ w.if-is_after.true in
          let none : not (is_empty w.lanes_noted.result) ≡ false = ap not (sym w.is_empty.ensures ∙ w.if-not-is_empty.false) in
          (λ i. sym after i && sym none i)
          ∙ follows-by (numbers_in c.args.width) (some-numbers c.args.width) c.args.last c.args.source.now c.in_ok-fields.fields.lanes.now c.in_ok-fields.fields.src
          w.lanes_noted.result c.in_ok-fields.ensures.src c.in_ok-fields.ensures.lanes w.lanes_noted.ensures
      | else-is_after-via-else-is_after w ↦
          let noted = lanes_noted (numbers_in c.args.width) c.in_ok-fields.fields.lanes.now 0 in
          let before : is_after c.args.last c.in_ok-fields.fields.src ≡ false = sym c.is_after.ensures ∙ w.if-is_after.false in
          (λ i. sym before i && not (is_empty noted))
          ∙ follows-by (numbers_in c.args.width) (some-numbers c.args.width) c.args.last c.args.source.now c.in_ok-fields.fields.lanes.now c.in_ok-fields.fields.src
          noted c.in_ok-fields.ensures.src c.in_ok-fields.ensures.lanes refl
    ]
