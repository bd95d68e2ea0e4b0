use Rattle.std.proofs.Common.{rules}
use Rattle.sr_node.proofs.node.NodeOf.check_arrive.Goals as goal

pub returns-in_err-next-clause-err : goal.returns-in_err-next-clause-err
returns-in_err-next-clause-err g c = search (rules, c.in_err-next.ensures.err c.args.now)
