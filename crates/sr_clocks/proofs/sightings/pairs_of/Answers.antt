use Rattle.std.proofs.Common.{◌≡◌, ◌∙◌, arith}
use Rattle.sr_clocks.proofs.PairLemmas.{pairs_of_all}
use Rattle.sr_clocks.proofs.sightings.pairs_of.Goals as goal

pub returns : goal.returns
returns c = λ xs ys first second. c.loop-bin.invariant xs ys first second ∙ pairs_of_all c.loop-bin.bin xs ys (omega arith)
