use Rattle.std.proofs.Common.{not, sym, ap, ◌∙◌}
use Rattle.std.specs.List.{filter}
use Rattle.sr_plant.specs.Copies.{Copy, is_on}
use Rattle.sr_plant.proofs.LinkLemmas.{none_on}
use Rattle.sr_plant.proofs.flight.Flight.cut.Goals as goal

pub returns-then-is_free : goal.returns-then-is_free
returns-then-is_free c =
    let same = ap (λ v. v.copies) c.self.view_is in
    let none = none_on c.self.inside.kept c.self.inside.places.items c.args.link (c.is_free.ensures c.if-is_free.true) in
    sym same ∙ (sym none ∙ ap (filter (λ (x : Copy). not (is_on c.args.link x))) same)
