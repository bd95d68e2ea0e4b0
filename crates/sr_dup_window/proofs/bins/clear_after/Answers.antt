use Rattle.std.proofs.Common.{◌≡◌, ◌*◌, ◌+◌, ◌<◌, ◌⊎◌, ap, arith, length, ◌∙◌, cond, inl, inr, subst, ℕ}
use Rattle.sr_dup_window.specs.LaneSets.{none}
use Rattle.sr_dup_window.specs.Bins.{lanes_at, is_passed, AreRows}
use Rattle.sr_dup_window.proofs.BinLemmas.{run_cleared, none_cleared}
use Rattle.sr_dup_window.proofs.bins.clear_after.Goals.{then-next-bins, else-next-bins}
use Rattle.sr_dup_window.proofs.bins.clear_after.Goals as goal

pub loop-done-init : goal.loop-done-init
loop-done-init c = record {
  whole = c.requires.whole;
  part = omega arith;
  cleared = λ p h. none_cleared (64 * length c.args.rows.now) c.args.from c.args.rows.now p;
}

pub loop-done-preserved : goal.loop-done-preserved
loop-done-preserved c =
    let P : ℕ → Type 0 = λ n. AreRows n c.clear_run.new.rows in
    let start_is : (c.if-next-bins.start ≡ c.args.from + 1 + c.loop-done.done) ⊎ (c.if-next-bins.start + 64 * length c.args.rows.now ≡ c.args.from + 1 + c.loop-done.done) =
    (elim c.if-next-bins.branch [ then-next-bins w ↦ inl (omega (arith, w.start-is)) | else-next-bins w ↦ inr (omega (arith, w.start-is, w.if-next-bins)) ]) in
    let inside : c.if-next-bins.start < 64 * length c.args.rows.now =
    (elim c.if-next-bins.branch [ then-next-bins w ↦ omega (arith, w.start-is, w.if-next-bins) | else-next-bins w ↦ omega (arith, w.start-is, w.if-next-bins) ]) in
    record {
      whole = subst P c.loop-done.auto.rows c.clear_run.ensures.whole;
      part = omega arith;
      cleared = run_cleared (64 * length c.args.rows.now) c.args.from c.loop-done.done c.min-run.result c.if-next-bins.start c.args.rows.now c.loop-done.rows c.clear_run.new.rows
          c.requires.width c.requires.within (omega arith) inside (omega arith) start_is c.loop-done.invariant.cleared c.clear_run.ensures.lanes;
    }

pub returns-clause-lanes : goal.returns-clause-lanes
returns-clause-lanes c = λ p h.
    let all : c.loop-done.done ≡ c.args.count = omega (arith, c.loop-done.invariant.part) in
    c.loop-done.invariant.cleared p h ∙ ap (λ done. cond (is_passed (64 * length c.args.rows.now) c.args.from done p) none (lanes_at c.args.rows.now p)) all
