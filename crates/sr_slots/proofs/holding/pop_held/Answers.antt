use Rattle.std.proofs.Common.{◌∙◌, ap, length, ◌+◌, if◌then◌else◌}
use Rattle.sr_slots.specs.Places.{held_of}
use Rattle.sr_slots.proofs.PlaceLemmas.{pops}
use Rattle.sr_slots.proofs.FromLemmas.{from-popped}
use Rattle.sr_slots.proofs.holding.pop_held.Goals as goal

pub returns-then-ends_held-clause-entries : goal.returns-then-ends_held-clause-entries
returns-then-ends_held-clause-entries g c = (pops c.pop.result c.args.map.now.entries c.pop.new.self.entries c.pop.ensures.entries (c.ends_held.ensures c.if-ends_held.true)).entries

pub returns-then-ends_held-clause-held : goal.returns-then-ends_held-clause-held
returns-then-ends_held-clause-held g c =
    ap (λ b. length (held_of c.pop.new.self.entries) + (if b then 1 else 0)) c.is_some.ensures
    ∙ (pops c.pop.result c.args.map.now.entries c.pop.new.self.entries c.pop.ensures.entries (c.ends_held.ensures c.if-ends_held.true)).len

pub returns-then-ends_held-clause-from : goal.returns-then-ends_held-clause-from
returns-then-ends_held-clause-from g c n = from-popped c.pop.result c.args.map.now.entries c.pop.new.self.entries n c.pop.ensures.entries (c.ends_held.ensures c.if-ends_held.true)
