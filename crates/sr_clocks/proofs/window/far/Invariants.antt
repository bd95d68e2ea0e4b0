use Rattle.std.proofs.Common.{◌≡◌, take, filter}
use Rattle.sr_clocks.specs.Windows.{lies_apart}
use Rattle.sr_clocks.proofs.window.far.Given as goal

abbrev pub invariant-loop-pair : goal.invariant-loop-pair
invariant-loop-pair l = l.others.items ≡ filter (lies_apart l.width l.from) (take l.pair-index l.pairs)
