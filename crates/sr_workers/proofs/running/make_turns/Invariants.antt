use Rattle.std.proofs.Common.{◌≤◌}
use Rattle.sr_workers.specs.Posts.{CarriesOn, HasFrameRoom, StaysItself}
use Rattle.sr_workers.specs.Work.{nones_of}
use Rattle.sr_workers.proofs.running.make_turns.Given as goal

abbrev pub invariant-loop-turn : goal.invariant-loop-turn
invariant-loop-turn g l =
    (l.post.unread ≤ l._turn)
    × HasFrameRoom l.lists
    × StaysItself g.E.Enters g.F.Feed l.fn.post l.post
    × CarriesOn g.E.Enters g.F.Feed (g.G.Framing.meaning l.framing) (nones_of (g.E.Enters.whose l.fn.post.seat) l._turn) l._turn l.fn.post l.post
