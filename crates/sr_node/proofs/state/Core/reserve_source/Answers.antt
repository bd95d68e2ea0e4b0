use Rattle.std.proofs.Common.{rules}
use Rattle.sr_node.proofs.state.Core.reserve_source.Goals as goal

pub returns-then-takes_no_place-clause-number : goal.returns-then-takes_no_place-clause-number
returns-then-takes_no_place-clause-number c = search rules
