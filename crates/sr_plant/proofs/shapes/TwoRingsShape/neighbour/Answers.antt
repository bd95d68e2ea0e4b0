use Rattle.sr_plant.proofs.HopLemmas.{only_in_left, only_in_right}
use Rattle.sr_plant.proofs.shapes.TwoRingsShape.neighbour.Goals as goal

pub returns-then-node-self-clause-only : goal.returns-then-node-self-clause-only
returns-then-node-self-clause-only c =
    only_in_left c.args.self c.args.node c.args.port c.ring_neighbour.result c.if-node-self.true c.ring_neighbour.ensures.interlink c.ring_neighbour.ensures.only

pub returns-else-node-self-clause-only : goal.returns-else-node-self-clause-only
returns-else-node-self-clause-only c =
    only_in_right c.args.self c.args.node c.args.port c.right_neighbour.result c.if-node-self.false c.right_neighbour.ensures.interlink c.right_neighbour.ensures.only
