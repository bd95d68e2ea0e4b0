use Rattle.std.proofs.Common.{arith, rules}
use Rattle.sr_dup_window.proofs.BinLemmas.{cleared_place}
use Rattle.sr_dup_window.proofs.bins.clear_all.Goals as goal

pub returns-clause-lanes : goal.returns-clause-lanes
returns-clause-lanes c = λ p. cleared_place c.loop-row.rows c.loop-row.row-index p (omega arith) c.loop-row.invariant

pub loop-row-preserved : goal.loop-row-preserved
loop-row-preserved c = search rules
