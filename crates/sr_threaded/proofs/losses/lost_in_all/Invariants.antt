use Rattle.std.proofs.Common.{◌≡◌, length}
use Rattle.sr_threaded.specs.Losses.{lost_from}
use Rattle.sr_threaded.proofs.losses.lost_in_all.Given as goal

abbrev pub invariant-loop-end : goal.invariant-loop-end
invariant-loop-end g l = lost_from l.total l.rest ≡ lost_from 0 l.fn.ends

abbrev pub decreases-loop-end : goal.decreases-loop-end
decreases-loop-end g l = length l.rest
