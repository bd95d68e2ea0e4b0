use Rattle.sr_node.specs.States.{state_of}
use Rattle.sr_plant.proofs.GivenLemmas.{stepped_few}
use Rattle.sr_plant.proofs.node_step.step_out.Goals as goal

pub take_out-requires-clause-few : goal.take_out-requires-clause-few
take_out-requires-clause-few g c =
    stepped_few (state_of g.R.Role.meaning c.args.node.now) c.args.event.now c.in_ok-_answer._answer
    (state_of g.R.Role.meaning c.step.new.self) c.requires c.in_ok-_answer.ensures.takes.step
