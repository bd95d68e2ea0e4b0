use Rattle.std.proofs.Common.{true, Ok}
use Rattle.sr_workers.specs.Posts.{TakesParcels}
use Rattle.sr_workers.proofs.taking.drain.Given as goal

-- each take so far found a parcel
abbrev pub invariant-loop : goal.invariant-loop
invariant-loop g l = TakesParcels g.E.Enters g.F.Feed (g.G.Framing.meaning l.framing) 0 l.initial.post (Ok true) l.post l.lists
