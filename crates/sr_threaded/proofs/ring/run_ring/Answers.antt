use Rattle.std.proofs.Common.{map}
use Rattle.sr_node.specs.States.{state_of}
use Rattle.sr_threaded.specs.declared.kit.NodeKit.{NodeKit}
use Rattle.sr_threaded.specs.declared.node.Wired.{Wired}
use Rattle.sr_threaded.specs.Ran.{ring_starts, starts_at}
use Rattle.sr_threaded.proofs.Ended.{ran_in_ring}
use Rattle.sr_threaded.proofs.ring.run_ring.Goals as goal

pub returns-in-Ok-judged-clause-ran : goal.returns-in-Ok-judged-clause-ran
returns-in-Ok-judged-clause-ran g c =
    let feed = g.F.Feed in
    let meaning = g.G.Framing.meaning in
    let role = g.N.Role.meaning in
    let begins = λ (k : NodeKit g.row.N.Denot g.row.G.Denot g.row.F.Denot). ring_starts feed (state_of role k.node) (meaning k.a) (meaning k.b) (meaning k.host) c.args.turns k.feed in
    let starts = λ (w : Wired g.row.N.Denot g.row.G.Denot g.row.F.Denot). starts_at feed (state_of role w.node) (meaning w.a) (meaning w.b) (meaning w.host) w.turns w.at_a w.at_b w.at_host in
    ran_in_ring (map begins c.args.kits.items) (map starts c.in-Ok.nodes.items) c.in-Ok-run_wired.ends.items c.in-Ok-judged.all.items
    c.in-Ok.ensures.wired c.in-Ok-run_wired.ensures.ran c.in-Ok-judged.ensures.judged
