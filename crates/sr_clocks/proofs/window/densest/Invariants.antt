use Rattle.std.proofs.Common.{◌≡◌, take, fold, pos}
use Rattle.sr_clocks.specs.Windows.{denser}
use Rattle.sr_clocks.proofs.window.densest.Given as goal

abbrev pub invariant-loop-pair : goal.invariant-loop-pair
invariant-loop-pair l = l.best ≡ fold (denser l.pairs l.width) (record { from = pos 0; held = 0 }) (take l.pair-index l.pairs)
