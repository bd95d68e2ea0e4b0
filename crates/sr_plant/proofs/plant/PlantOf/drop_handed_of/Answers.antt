use Rattle.std.proofs.Common.{List, map, slice_set, Vec, Global, ap, ◌∙◌}
use Rattle.std.proofs.lemmas.List.{map-set}
use Rattle.sr_forwarding.specs.Parcels.{ParcelImage}
use Rattle.sr_plant.proofs.plant.PlantOf.drop_handed_of.Goals as goal

pub returns-clause-handed : goal.returns-clause-handed
returns-clause-handed g c =
    let handed = c.args.self.now.handed.items in
    map-set (λ (h : Vec ParcelImage Global). h.items) handed c.args.node c.clear.new.self
    ∙ ap (λ (ps : List ParcelImage). slice_set (map (λ (h : Vec ParcelImage Global). h.items) handed) c.args.node ps) c.clear.ensures.items
