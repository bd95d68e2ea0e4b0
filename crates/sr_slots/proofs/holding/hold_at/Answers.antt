use Rattle.std.proofs.Common.{sym, ◌∙◌}
use Rattle.sr_slots.proofs.PlaceLemmas.{held_set}
use Rattle.sr_slots.proofs.FromLemmas.{from-held}
use Rattle.sr_slots.proofs.holding.hold_at.Goals as goal

pub returns-clause-held : goal.returns-clause-held
returns-clause-held g c =
    let at = c.stands_at.ensures.at c.if-not-stands_at.false in
    held_set
    c.args.key
    c.in_ok-slot.slot.now
    c.hold_place.new.slot
    c.args.map.now.entries
    _
    c.hold_place.result
    c.len-places.ensures.unique
    (sym at.look ∙ sym c.in_ok-slot.ensures.value)
    c.hold_place.ensures.slot
    c.hold_place.ensures.newly
    (at.write c.hold_place.new.slot)

pub returns-clause-from : goal.returns-clause-from
returns-clause-from g c n =
    let at = c.stands_at.ensures.at c.if-not-stands_at.false in
    from-held
    c.args.key
    c.in_ok-slot.slot.now
    c.hold_place.new.slot
    c.args.map.now.entries
    _
    n
    (sym at.look ∙ sym c.in_ok-slot.ensures.value)
    c.hold_place.ensures.slot
    (at.write c.hold_place.new.slot)
