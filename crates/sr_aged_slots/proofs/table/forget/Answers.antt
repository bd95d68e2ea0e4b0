use Rattle.std.proofs.Common.{◌∙◌, ap}
use Rattle.sr_aged_slots.proofs.BoundLemmas.{live_from}
use Rattle.sr_aged_slots.proofs.table.forget.Goals as goal

pub returns-clause-entries : goal.returns-clause-entries
returns-clause-entries g c =
    ap (λ s. s.entries) c.sweep.ensures
    ∙ c.sift-oldest.ensures.kept
    ∙ live_from c.args.span c.args.now c.saturating_sub.result c.requires c.saturating_sub.ensures c.args.slots.now.entries
