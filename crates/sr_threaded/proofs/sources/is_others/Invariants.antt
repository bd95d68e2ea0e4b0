use Rattle.std.proofs.Common.{◌≡◌, length}
use Rattle.sr_threaded.specs.Sources.{is_others}
use Rattle.sr_threaded.proofs.sources.is_others.Given as goal

abbrev pub invariant-loop-end : goal.invariant-loop-end
invariant-loop-end g l = is_others l.fn.own l.fn.ends l.fn.mac ≡ is_others l.fn.own l.rest l.fn.mac

abbrev pub decreases-loop-end : goal.decreases-loop-end
decreases-loop-end g l = length l.rest
