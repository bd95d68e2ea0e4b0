use Rattle.std.proofs.Common.{rules, ◌≡◌, ◌∙◌, sym, ap}
use Rattle.std.specs.Fn.{FnOnceReturnsAtMut}
use Rattle.std.specs.Map.{lookup, set_value}
use Rattle.sr_frame.specs.Addresses.{mac_eq}
use Rattle.sr_aged_slots.proofs.BoundLemmas.{bounded_inexact, bounded_again}
use Rattle.sr_aged_slots.proofs.table.AgedSlots.update_at.Goals.{then-before-self, else-before-self}
use Rattle.sr_aged_slots.proofs.table.AgedSlots.update_at.Goals as goal

pub invariant_of-self-then-before-self : goal.invariant_of-self-then-before-self
invariant_of-self-then-before-self g c =
    let h = c.in_ok-answer.ensures.changed in
    let called : FnOnceReturnsAtMut g.F.FnOnce c.args.change h.was c.in_ok-answer.answer h.is = search rules in
    rw h.written (bounded_inexact g.row.SPAN g.row.MOST (mac_eq c.args.key) c.self.inside.slots.entries h.was h.is h.found (c.requires.later h.was h.is c.in_ok-answer.answer called) c.self.inside.oldest c.self.inside.is_exact c.self.invariant)

pub invariant_of-self-else-before-self : goal.invariant_of-self-else-before-self
invariant_of-self-else-before-self g c =
    let h = c.in_ok-answer.ensures.changed in
    let called : FnOnceReturnsAtMut g.F.FnOnce c.args.change h.was c.in_ok-answer.answer h.is = search rules in
    let before : c.in_ok-answer.before ≡ h.was.time = search rules in
    rw h.written (bounded_again g.row.SPAN g.row.MOST (mac_eq c.args.key) c.self.inside.slots.entries h.was h.is h.found (c.requires.later h.was h.is c.in_ok-answer.answer called) c.self.inside.oldest c.self.inside.is_exact (λ same. c.if-before-self.false (before ∙ same)) c.self.invariant)

pub returns-clause-changed : goal.returns-clause-changed
returns-clause-changed g c =
    let h = c.in_ok-answer.ensures.changed in
    let called : FnOnceReturnsAtMut g.F.FnOnce c.args.change h.was c.in_ok-answer.answer h.is = search rules in
    let written : c.update_at.new.self.entries ≡ set_value (mac_eq c.args.key) c.args.self.now.entries h.is = h.written ∙ ap (λ t. set_value (mac_eq c.args.key) t.entries h.is) c.self.view_is in
    record {
      was = h.was;
      is = h.is;
      found = sym (ap (λ t. lookup (mac_eq c.args.key) t.entries) c.self.view_is) ∙ h.found;
      called = called;
      written = elim c.if-before-self.branch [ then-before-self w ↦ ap (λ t. t.entries) w.self-is ∙ written | else-before-self w ↦ ap (λ t. t.entries) w.self-is ∙ written ];
    }
