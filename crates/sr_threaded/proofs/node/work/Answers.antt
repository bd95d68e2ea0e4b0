use Rattle.std.proofs.Common.{◌≡◌, map, vec_len}
use Rattle.sr_node.specs.NodeImages.{image_state}
use Rattle.sr_threaded.specs.Ran.{IsSettlementFrom, NodeRan, line_start, start_with}
use Rattle.sr_threaded.proofs.Running.{ok_of, if_four, AllEnded, AllParts, node_ran}
use Rattle.sr_threaded.proofs.node.work.Goals as goal

pub returns-in-Ok : goal.returns-in-Ok
returns-in-Ok g c =
    let feed = g.F.Feed in
    let meaning = g.G.Framing.meaning in
    let node = image_state c.args.given.now in
    let kits = c.args.kits in
    let ends = c.in-Ok.ends in
    let each = ok_of (λ v. AllEnded feed meaning c.args.turns (vec_len kits) kits.items v.items) c.run_workers-crew.result ends c.in-Ok.ensures c.run_workers-crew.ensures.each in
    let len : vec_len ends ≡ vec_len kits = ok_of (λ v. vec_len v ≡ vec_len kits) c.run_workers-crew.result ends c.in-Ok.ensures c.run_workers-crew.ensures.len in
    if_four (λ e. vec_len e.logs ≡ vec_len ends) (λ e. vec_len e.ends ≡ vec_len ends) (λ e. AllParts feed (vec_len ends) ends.items e)
    (λ e. IsSettlementFrom node e.segment e.logs.items e.settlement)
    (λ e. NodeRan feed (start_with node (map (λ k. line_start feed k.pass.worker (meaning k.framing) c.args.turns k.pass.count k.feed) kits.items)) e.settlement e)
    c.closed.result c.closed.ensures.logs c.closed.ensures.ends c.closed.ensures.each c.closed.ensures.settles
    (λ e logs lines parts settles. node_ran feed node meaning c.args.turns (vec_len kits) (vec_len ends) kits.items ends.items e.settlement e kits.ok.0 ends.ok.0 len each logs lines parts settles)
