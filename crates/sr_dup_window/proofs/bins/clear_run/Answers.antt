use Rattle.sr_dup_window.proofs.BinLemmas.{cleared_run}
use Rattle.sr_dup_window.proofs.bins.clear_run.Goals as goal

pub returns-clause-lanes : goal.returns-clause-lanes
returns-clause-lanes c = λ p. cleared_run c.args.rows.now c.clear_in.new.row c.args.start c.args.count p c.requires.within c.requires.one_row c.clear_in.ensures.lanes
