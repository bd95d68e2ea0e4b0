use Rattle.std.proofs.Common.{sym, ap, ◌∙◌}
use Rattle.std.specs.Option.{option_map}
use Rattle.sr_slots.proofs.PlaceLemmas.{lookup-entries, found_value, value_in, none_from}
use Rattle.sr_slots.proofs.IndexLemmas.{entry_there}
use Rattle.sr_slots.proofs.places.find_at.Goals as goal

pub returns-in_err-index : goal.returns-in_err-index
returns-in_err-index g c =
    ap (option_map (λ found. found.1.now)) c.from_residual.ensures ∙ sym (lookup-entries c.args.key c.args.map.now.entries c.len-places.ensures.unique ∙ ap value_in (none_from _ c.in_err-index.ensures.found))

pub returns-in_err-slot : goal.returns-in_err-slot
returns-in_err-slot g c =
    ap (option_map (λ found. found.1.now)) c.from_residual-in_err-slot.ensures
    ∙ sym (lookup-entries c.args.key c.args.map.now.entries c.len-places.ensures.unique
    ∙ ap value_in (entry_there c.args.key c.args.map.now.entries c.in_ok-index.index _ c.in_ok-index.ensures.at c.in_err-slot.ensures.entry))

pub returns-in_err-get : goal.returns-in_err-get
returns-in_err-get g c =
    ap (option_map (λ found. found.1.now)) c.from_residual-in_err-get.ensures
    ∙ c.in_err-get.ensures
    ∙ sym (found_value c.args.key c.in_ok-slot.slot.now c.args.map.now.entries c.len-places.ensures.unique (entry_there c.args.key c.args.map.now.entries c.in_ok-index.index _ c.in_ok-index.ensures.at c.in_ok-slot.ensures.entry))

pub returns : goal.returns
returns g c =
    c.in_ok-get.ensures
    ∙ sym (found_value c.args.key c.in_ok-slot.slot.now c.args.map.now.entries c.len-places.ensures.unique (entry_there c.args.key c.args.map.now.entries c.in_ok-index.index _ c.in_ok-index.ensures.at c.in_ok-slot.ensures.entry))
