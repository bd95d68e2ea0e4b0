use Rattle.std.proofs.Common.{◌≡◌, take, fold, max}
use Rattle.sr_clocks.proofs.window.final_time.Given as goal

abbrev pub invariant-loop-pair : goal.invariant-loop-pair
invariant-loop-pair l = l.last ≡ fold (λ time p. max time p.time) 0 (take l.pair-index l.pairs)
