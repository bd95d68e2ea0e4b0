use Rattle.sr_dup_window.specs.LaneSets.{none, union}
use Rattle.sr_dup_window.proofs.BinLemmas.{written_place}
use Rattle.sr_dup_window.proofs.bins.put.Goals as goal

pub returns-clause-lanes : goal.returns-clause-lanes
returns-clause-lanes c = λ p. written_place c.args.rows.now c.put_in.new.row (λ old. union none c.args.lanes) c.args.bin p c.requires.within c.put_in.ensures.lanes
