use Rattle.std.proofs.Common.{◌≡◌, length}
use Rattle.sr_threaded.specs.Sources.{all_from_others}
use Rattle.sr_threaded.proofs.sources.all_from_others.Given as goal

abbrev pub invariant-loop-pair : goal.invariant-loop-pair
invariant-loop-pair g l = all_from_others l.fn.own l.fn.ends l.fn.log ≡ all_from_others l.fn.own l.fn.ends l.rest

abbrev pub decreases-loop-pair : goal.decreases-loop-pair
decreases-loop-pair g l = length l.rest
