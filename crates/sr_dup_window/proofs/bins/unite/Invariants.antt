use Rattle.std.proofs.Common.{◌≡◌, ℕ, ◌<◌, ◌≤◌, get_or, []}
use Rattle.sr_dup_window.specs.LaneSets.{union}
use Rattle.sr_dup_window.specs.Bins.{lanes_in, IsRow}
use Rattle.sr_dup_window.proofs.bins.unite.Given as goal

abbrev pub invariant-loop-i : goal.invariant-loop-i
invariant-loop-i l = record {
  done : (k b : ℕ) → k < l.i → lanes_in (get_or l.rows k []) b ≡ union (lanes_in (get_or l.fn.rows k []) b) (lanes_in (get_or l.others k []) b);
  whole : (k : ℕ) → k < l.i → IsRow (get_or l.rows k []);
  rest : (k : ℕ) → l.i ≤ k → get_or l.rows k [] ≡ get_or l.fn.rows k [];
}
