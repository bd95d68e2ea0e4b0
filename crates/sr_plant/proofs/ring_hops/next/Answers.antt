use Rattle.std.proofs.Common.{rules}
use Rattle.sr_plant.proofs.ring_hops.next.Goals as goal

pub returns-then-node-nodes : goal.returns-then-node-nodes
returns-then-node-nodes c = search rules
