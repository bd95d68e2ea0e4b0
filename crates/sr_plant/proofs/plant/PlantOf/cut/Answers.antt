use Rattle.std.proofs.Common.{◌≡◌, map, not, true, slice_set, sym, subst, rules}
use Rattle.std.specs.List.{filter}
use Rattle.sr_plant.specs.Copies.{is_on}
use Rattle.sr_plant.specs.Images.{plant_state, states_of}
use Rattle.sr_plant.specs.Plants.{plant_of, IsInOrder}
use Rattle.sr_plant.proofs.OrderLemmas.{cut_in_order}
use Rattle.sr_plant.proofs.plant.PlantOf.cut.Goals as goal

pub returns : goal.returns
returns g c =
    let p = c.args.self.now in
    let s = plant_state g.R.Role.meaning p in
    let was_cut : plant_of p.topology (states_of g.R.Role.meaning p.nodes.items) c.cut.new.self (map (λ h. h.items) p.handed.items)
    ≡ record s { flight = filter (λ x. not (is_on c.args.link x)) s.flight; cut = slice_set s.cut c.args.link true } = search rules in
    record {
      step = was_cut;
      ok = search rules;
      err = search rules;
      same = search rules;
      in_order = subst IsInOrder (sym was_cut) (cut_in_order s c.args.link c.requires);
    }
