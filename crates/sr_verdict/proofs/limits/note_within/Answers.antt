use Rattle.std.proofs.Common.{arith}
use Rattle.std.proofs.lemmas.Grind.{common_steps}
use Rattle.std.proofs.lemmas.List.Elements.{filter_map-append}
use Rattle.sr_verdict.proofs.limits.note_within.Goals as goal

pub loop-fault-preserved : goal.loop-fault-preserved
loop-fault-preserved c = grind (arith, common_steps, filter_map-append)
