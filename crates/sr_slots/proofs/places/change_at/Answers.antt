use Rattle.std.proofs.Common.{◌∙◌, sym, ap, is_some}
use Rattle.sr_slots.proofs.PlaceLemmas.{lookup-entries, value_in, none_from, change_found, change_none, change_some}
use Rattle.sr_slots.proofs.FromLemmas.{change_from}
use Rattle.sr_slots.proofs.places.change_at.Goals as goal

pub returns-in_err-index-clause-found : goal.returns-in_err-index-clause-found
returns-in_err-index-clause-found g c =
    ap is_some c.from_residual.ensures ∙ sym (ap is_some (lookup-entries c.args.key c.args.map.now.entries c.len-places.ensures.unique ∙ ap value_in (none_from _ c.in_err-index.ensures.found)))

pub returns-in_err-slot-clause-found : goal.returns-in_err-slot-clause-found
returns-in_err-slot-clause-found g c =
    ap is_some c.from_residual-in_err-slot.ensures ∙ sym (ap is_some (lookup-entries c.args.key c.args.map.now.entries c.len-places.ensures.unique ∙ ap value_in (sym c.in_ok-index.ensures.at.look ∙ sym c.in_err-slot.ensures.value)))

pub returns-clause-found : goal.returns-clause-found
returns-clause-found g c =
    change_found
    _
    c.args.change
    c.args.key
    c.in_ok-slot.slot.now
    c.change_in.new.slot
    c.args.map.now.entries
    _
    c.len-places.ensures.unique
    (sym c.in_ok-index.ensures.at.look ∙ sym c.in_ok-slot.ensures.value)
    (c.in_ok-index.ensures.at.write c.change_in.new.slot)
    c.change_in.result
    c.change_in.ensures.none
    c.change_in.ensures.some

pub returns-clause-some : goal.returns-clause-some
returns-clause-some g c =
    change_some
    _
    c.args.change
    c.args.key
    c.in_ok-slot.slot.now
    c.change_in.new.slot
    c.args.map.now.entries
    _
    c.len-places.ensures.unique
    (sym c.in_ok-index.ensures.at.look ∙ sym c.in_ok-slot.ensures.value)
    (c.in_ok-index.ensures.at.write c.change_in.new.slot)
    c.change_in.result
    c.change_in.ensures.none
    c.change_in.ensures.some

pub returns-clause-none : goal.returns-clause-none
returns-clause-none g c =
    change_none
    _
    c.args.change
    c.args.key
    c.in_ok-slot.slot.now
    c.change_in.new.slot
    c.args.map.now.entries
    _
    c.len-places.ensures.unique
    (sym c.in_ok-index.ensures.at.look ∙ sym c.in_ok-slot.ensures.value)
    (c.in_ok-index.ensures.at.write c.change_in.new.slot)
    c.change_in.result
    c.change_in.ensures.none
    c.change_in.ensures.some

pub returns-clause-from : goal.returns-clause-from
returns-clause-from g c =
    change_from
    _
    c.args.change
    c.args.key
    c.in_ok-slot.slot.now
    c.change_in.new.slot
    c.args.map.now.entries
    _
    (sym c.in_ok-index.ensures.at.look ∙ sym c.in_ok-slot.ensures.value)
    (c.in_ok-index.ensures.at.write c.change_in.new.slot)
    c.change_in.result
    c.change_in.ensures.some
