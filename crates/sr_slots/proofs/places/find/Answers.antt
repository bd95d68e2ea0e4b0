use Rattle.std.proofs.Common.{sym, ap, ◌∙◌}
use Rattle.std.specs.Option.{option_map}
use Rattle.sr_slots.proofs.PlaceLemmas.{lookup-entries, found_value, value_in}
use Rattle.sr_slots.proofs.places.find.Goals as goal

pub returns-in_err-index : goal.returns-in_err-index
returns-in_err-index g c =
    ap (option_map (λ found. found.1.now)) c.from_residual.ensures
    ∙ sym (lookup-entries c.args.key c.args.map.now.entries c.len-places.ensures.unique ∙ ap value_in (sym c.in_err-index.ensures.value))

pub returns-in_err-get : goal.returns-in_err-get
returns-in_err-get g c =
    ap (option_map (λ found. found.1.now)) c.from_residual-in_err-get.ensures
    ∙ c.in_err-get.ensures
    ∙ sym (found_value c.args.key c.in_ok-index.slot.now c.args.map.now.entries c.len-places.ensures.unique (sym c.in_ok-index.ensures.value))

pub returns : goal.returns
returns g c = c.in_ok-get.ensures ∙ sym (found_value c.args.key c.in_ok-index.slot.now c.args.map.now.entries c.len-places.ensures.unique (sym c.in_ok-index.ensures.value))
