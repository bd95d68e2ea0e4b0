use Rattle.std.proofs.Common.{subst, sym}
use Rattle.sr_node.specs.Hearing.{IsReadyFor}
use Rattle.sr_node.proofs.HearingLemmas.{answered}
use Rattle.sr_node.proofs.state.Core.observe_announced.Goals as goal

pub unwrap-requires : goal.unwrap-requires
unwrap-requires c =
    let now = c.args.passing.now.arrival.moment in
    answered c.self.inside.nodes c.in-Some.said.mac now c.announce_at.result
    (subst (λ v. IsReadyFor v.nodes c.in-Some.said.mac now) (sym c.self.view_is) (c.requires.ready c.in-Some.said c.in-Some.is))
    c.announce_at.ensures.reserved c.announce_at.ensures.known c.announce_at.ensures.full.1
