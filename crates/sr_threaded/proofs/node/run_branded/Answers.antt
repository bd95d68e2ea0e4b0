use Rattle.std.proofs.Common.{IfOk, subst}
use Rattle.sr_threaded.specs.Ran.{NodeRan, starts_at}
use Rattle.sr_threaded.proofs.node.run_branded.Goals as goal

pub returns-in-Ok : goal.returns-in-Ok
returns-in-Ok g c =
    let feed = g.F.Feed in
    let meaning = g.G.Framing.meaning in
    let w = c.args.wired in
    subst (λ s. IfOk c.run_node-ended.result (λ e. NodeRan feed (starts_at feed s (meaning w.a) (meaning w.b) (meaning w.host) w.turns w.at_a w.at_b w.at_host) e.settlement e))
    c.in-Ok.ensures c.run_node-ended.ensures
