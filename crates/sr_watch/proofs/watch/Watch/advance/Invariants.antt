use Rattle.sr_watch.specs.Following.{OnlyReleases, left_in}
use Rattle.sr_watch.proofs.watch.Watch.advance.Given as goal

abbrev pub invariant-loop : goal.invariant-loop
invariant-loop l = OnlyReleases l.fn.self l.self

abbrev pub decreases-loop : goal.decreases-loop
decreases-loop l = left_in l.self
