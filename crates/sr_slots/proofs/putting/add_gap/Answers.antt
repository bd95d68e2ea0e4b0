use Rattle.std.proofs.Common.{◌∙◌, false, sym, ap, arith}
use Rattle.indexmap.specs.Entry.{entry_value}
use Rattle.sr_slots.specs.Places.{slot_of}
use Rattle.sr_slots.proofs.SettleLemmas.{one_gap}
use Rattle.sr_slots.proofs.putting.add_gap.Goals as goal

pub returns-in-Ok-new : goal.returns-in-Ok-new
unfolding entry_value
returns-in-Ok-new g c =
    one_gap
    c.args.key
    c.args.map.now.entries
    _
    (sym c.in-Ok.ensures.value ∙ ap entry_value c.in-Vacant.is)
    (grind (arith, c.in-Ok.ensures.update.1 (slot_of c.in-Ok-new.value false), c.in-Ok-new.ensures, c.in-Ok.ensures.same_map, c.in-Vacant.is))
