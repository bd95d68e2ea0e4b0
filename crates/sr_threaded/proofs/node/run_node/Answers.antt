use Rattle.std.proofs.Common.{List, [], ◌∷◌, IfOk, subst}
use Rattle.sr_node.specs.NodeImages.{image_state}
use Rattle.sr_threaded.specs.Ran.{LineStart, NodeRan, line_start, start_with}
use Rattle.sr_threaded.proofs.node.run_node.Goals as goal

pub returns-in-Ok-kits_of : goal.returns-in-Ok-kits_of
returns-in-Ok-kits_of g c =
    let feed = g.F.Feed in
    let meaning = g.G.Framing.meaning in
    let w = c.args.wired in
    let P : List (LineStart feed.Name) → Type 0 = λ s. IfOk c.work.result (λ e. NodeRan feed (start_with (image_state c.args.given.now) s) e.settlement e) in
    subst P
    (λ k. line_start feed (c.in-Ok.ensures.a k).worker (meaning w.a) w.turns (c.in-Ok.ensures.a k).count w.at_a
    ∷ line_start feed (c.in-Ok.ensures.b k).worker (meaning w.b) w.turns (c.in-Ok.ensures.b k).count w.at_b
    ∷ line_start feed (c.in-Ok.ensures.host k).worker (meaning w.host) w.turns (c.in-Ok.ensures.host k).count w.at_host ∷ [])
    (subst P (c.in-Ok-kits_of.ensures.starts w.turns) c.work.ensures)
