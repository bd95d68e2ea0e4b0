use Rattle.std.proofs.Common.{◌≡◌, None, length, arith, rules}
use Rattle.std.proofs.lemmas.Grind.{common_steps}
use Rattle.std.proofs.lemmas.Result.{on_ok_weaker}
use Rattle.sr_plant.specs.declared.fault.PlantFault.TheVariants.{NoSuchNode}
use Rattle.sr_plant.specs.Images.{states_of}
use Rattle.sr_plant.specs.Steps.{lacks}
use Rattle.sr_plant.proofs.plant.PlantOf.send.Goals as goal

pub returns : goal.returns
returns g c =
    let there : lacks c.args.node (length (states_of g.R.Role.meaning c.args.self.now.nodes.items)) NoSuchNode ≡ None = grind (arith, common_steps) in
    record {
      step = search rules;
      ok = on_ok_weaker c.act.result (λ taken. there) c.act.ensures.ok;
      err = grind (arith, common_steps);
      same = search rules;
      in_order = search rules;
    }
