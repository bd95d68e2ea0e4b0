use Rattle.std.proofs.Common.{rules}
use Rattle.sr_slots.proofs.PlaceLemmas.{release_entries, release_held}
use Rattle.sr_slots.proofs.holding.release.Goals as goal

pub returns-clause-entries : goal.returns-clause-entries
returns-clause-entries g c = release_entries _ _ (λ k v b w g call. search rules) _ _ c.retain.ensures.filtered

pub returns-clause-held : goal.returns-clause-held
returns-clause-held g c = release_held _ _ (λ k v b w g call. search rules) _ _ c.retain.ensures.filtered
