use Rattle.std.proofs.Common.{◌≡◌, ℕ, ◌*◌, ◌-◌, ◌<◌, ◌≤◌, length, cond}
use Rattle.sr_dup_window.specs.LaneSets.{none}
use Rattle.sr_dup_window.specs.Bins.{lanes_at, is_passed, AreRows}
use Rattle.sr_dup_window.proofs.bins.clear_after.Given as goal

abbrev pub invariant-loop-done : goal.invariant-loop-done
invariant-loop-done l = record {
  whole : AreRows (length l.fn.rows) l.rows;
  part : l.done ≤ l.count;
  cleared : (p : ℕ) → p < 64 * length l.fn.rows → lanes_at l.rows p ≡ cond (is_passed (64 * length l.fn.rows) l.from l.done p) none (lanes_at l.fn.rows p);
}

abbrev pub decreases-loop-done : goal.decreases-loop-done
decreases-loop-done l = l.count - l.done
