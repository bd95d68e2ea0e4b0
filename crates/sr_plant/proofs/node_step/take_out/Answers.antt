use Rattle.std.proofs.Common.{◌∙◌, ◌++◌, List, ap}
use Rattle.sr_forwarding.specs.Parcels.{ParcelImage}
use Rattle.sr_node.specs.States.{state_of}
use Rattle.sr_plant.proofs.GivenLemmas.{taken_out}
use Rattle.sr_plant.proofs.node_step.take_out.Goals as goal

pub returns : goal.returns
returns g c =
    let s = state_of g.R.Role.meaning c.args.node.now in
    let t = state_of g.R.Role.meaning c.take.new.self in
    let u = state_of g.R.Role.meaning c.take-a.new.self in
    let v = state_of g.R.Role.meaning c.take-b.new.self in
    let w = state_of g.R.Role.meaning c.take-c.new.self in
    let all = taken_out s t u v w c.take.result c.take-a.result c.take-b.result c.take-c.result c.requires.few c.take.ensures.took c.take-a.ensures.took c.take-b.ensures.took c.take-c.ensures.took in
    record {
      a = all.1;
      b = all.2;
      up = c.append.ensures ∙ ap (λ (q : List ParcelImage). c.args.up.now.items ++ q) all.0;
      c = all.3;
      rest = all.4;
    }
