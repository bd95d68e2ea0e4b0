use Rattle.std.proofs.Common.{rules}
use Rattle.sr_slots.proofs.PlaceLemmas.{swept_entries, swept_held, swept_length}
use Rattle.sr_slots.proofs.sifting.sweep.Goals as goal

pub returns-clause-entries : goal.returns-clause-entries
returns-clause-entries g c = swept_entries _ _ (λ k v b w h call. search rules) _ _ c.retain.ensures.filtered

pub returns-clause-held : goal.returns-clause-held
returns-clause-held g c = swept_held _ _ (λ k v b w h call. search rules) _ _ c.retain.ensures.filtered

pub returns-clause-swept : goal.returns-clause-swept
returns-clause-swept g c = swept_length _ _ (λ k v b w h call. search rules) _ _ c.retain.ensures.filtered
