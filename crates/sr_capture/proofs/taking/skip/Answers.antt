use Rattle.std.proofs.Common.{arith}
use Rattle.sr_capture.specs.TakingLemmas.{skips_on}
use Rattle.sr_capture.proofs.taking.skip.Goals as goal

pub loop-skipped-preserved : goal.loop-skipped-preserved
loop-skipped-preserved g c =
    let h = c.in-Some.ensures.some in
    record { few = omega (arith, h.3.0); lost = skips_on _ _ _ _ _ c.loop-skipped.invariant.lost (h.0, h.1, h.2) }
