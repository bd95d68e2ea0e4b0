use Rattle.std.proofs.Common.{◌≡◌, ◌∙◌, sym, ap, arith, length, true}
use Rattle.sr_aged_slots.specs.Ages.{live_at, is_recent, oldest_of}
use Rattle.sr_aged_slots.specs.AgeLemmas.{length-live_le}
use Rattle.sr_aged_slots.proofs.BoundLemmas.{all_live, recent_later, bounded_anew}
use Rattle.sr_aged_slots.proofs.table.AgedSlots.age.Goals as goal

pub returns-then-is_recent-clause-entries : goal.returns-then-is_recent-clause-entries
returns-then-is_recent-clause-entries g c =
    let es = c.self.inside.slots.entries in
    let recent : is_recent g.row.SPAN c.args.now c.self.inside.oldest ≡ true = sym c.is_recent.ensures ∙ c.if-is_recent.true in
    let live = all_live g.row.SPAN c.args.now es (recent_later g.row.SPAN c.args.now c.self.inside.oldest (oldest_of es) c.self.invariant.none_older recent) in
    sym (ap (λ t. live_at g.row.SPAN c.args.now t.entries) (sym c.self.view_is) ∙ live ∙ ap (λ t. t.entries) c.self.view_is)

pub overflow_sub-result : goal.overflow_sub-result
overflow_sub-result g c =
    let old = c.self.inside.slots.entries in
    omega (arith, ap length c.forget-self-inside.ensures.entries, length-live_le g.row.SPAN c.args.now old)

pub invariant_of-self : goal.invariant_of-self
invariant_of-self g c =
    let old = c.self.inside.slots.entries in
    bounded_anew g.row.SPAN g.row.MOST c.self.invariant.some_span c.forget-self-inside.new.slots.entries c.forget-self-inside.result
    (omega (arith, ap length c.forget-self-inside.ensures.entries, length-live_le g.row.SPAN c.args.now old, c.self.invariant.few)) c.forget-self-inside.ensures.oldest

pub returns-clause-count : goal.returns-clause-count
returns-clause-count g c =
    let old = c.self.inside.slots.entries in
    omega (arith, ap length c.forget-self-inside.ensures.entries, length-live_le g.row.SPAN c.args.now old, ap (λ t. length t.entries) c.self.view_is)
