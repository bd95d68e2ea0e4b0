use Rattle.std.proofs.Common.{◌≡◌, take, filter}
use Rattle.sr_clocks.specs.Windows.{is_within}
use Rattle.sr_clocks.proofs.window.near.Given as goal

abbrev pub invariant-loop-pair : goal.invariant-loop-pair
invariant-loop-pair l = l.held.items ≡ filter (is_within l.low l.high) (take l.pair-index l.pairs)
