use Rattle.std.proofs.Common.{◌≡◌, ◌^◌, ◌-◌, take, fold, min}
use Rattle.sr_clocks.proofs.window.initial_time.Given as goal

abbrev pub invariant-loop-pair : goal.invariant-loop-pair
invariant-loop-pair l = l.first ≡ fold (λ time p. min time p.time) (2 ^ 64 - 1) (take l.pair-index l.pairs)
