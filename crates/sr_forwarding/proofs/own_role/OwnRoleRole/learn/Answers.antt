use Rattle.sr_forwarding.proofs.OwnLemmas.{knows_all, learns_none}
use Rattle.sr_forwarding.proofs.own_role.OwnRoleRole.learn.Goals as goal

pub returns-clause-answer : goal.returns-clause-answer
returns-clause-answer g c =
    knows_all (g.R.Routing.routed c.args.self.now.routing) c.args.self.now.mac c.args._header.now c.args._inlet c.args._now (g.R.Routing.alone c.args.self.now.routing)

pub returns-clause-after : goal.returns-clause-after
returns-clause-after g c =
    learns_none (g.R.Routing.routed c.args.self.now.routing) c.args.self.now.mac c.args._header.now c.args._inlet c.args._now (g.R.Routing.alone c.args.self.now.routing)
