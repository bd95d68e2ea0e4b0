use Rattle.std.proofs.Common.{Some, refl, subst}
use Rattle.sr_node_table.proofs.WatchLemmas.{Finds, finds_on, finds_each}
use Rattle.sr_node_table.proofs.late.LatePorts.try_clone.Goals as goal

pub loop-mac-preserved : goal.loop-mac-preserved
loop-mac-preserved c =
    finds_on (λ p. Some p.1) c.args.self.now.ports c.loop-mac.own.ports c.add.new.self.ports c.loop-mac.own.room c.add.new.self.room c.in_ok-own.own.room
    (Some c.in-Some.port.now) _ _ (c.in-Some.mac.now, c.in-Some.port.now) c.in-Some.ensures.steps refl c.add.ensures.ports c.add.ensures.room c.loop-mac.invariant

pub returns-clause-ports : goal.returns-clause-ports
returns-clause-ports c =
    finds_each c.args.self.now.ports c.loop-mac.own.ports c.loop-mac.own.room c.in_ok-own.own.room
    (subst (Finds (λ p. Some p.1) c.args.self.now.ports c.loop-mac.own.ports c.loop-mac.own.room c.in_ok-own.own.room) c.in-None.ensures.steps.0 c.loop-mac.invariant)
