use Rattle.sr_plant.proofs.HopLemmas.{only_in_ring_lan}
use Rattle.sr_plant.proofs.shapes.RingLanShape.neighbour.Goals as goal

pub returns-then-node-self-clause-only : goal.returns-then-node-self-clause-only
returns-then-node-self-clause-only c =
    only_in_ring_lan c.args.self c.args.node c.args.port c.ring_neighbour.result c.if-node-self.true c.ring_neighbour.ensures.interlink c.ring_neighbour.ensures.only
