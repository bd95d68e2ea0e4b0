use Rattle.sr_dup_window.specs.LaneSets.{union}
use Rattle.sr_dup_window.proofs.BinLemmas.{written_place}
use Rattle.sr_dup_window.proofs.bins.mark.Goals as goal

pub returns-clause-lanes : goal.returns-clause-lanes
returns-clause-lanes c = λ p. written_place c.args.rows.now c.mark_in.new.row (λ old. union old c.args.lanes) c.args.bin p c.requires.within (λ b h. c.mark_in.ensures.lanes b)
