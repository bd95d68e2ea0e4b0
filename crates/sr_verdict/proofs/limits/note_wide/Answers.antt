use Rattle.std.proofs.Common.{arith}
use Rattle.std.proofs.lemmas.Grind.{common_steps}
use Rattle.std.proofs.lemmas.List.Elements.{filter_map-append}
use Rattle.sr_verdict.proofs.limits.note_wide.Goals as goal

pub loop-own-preserved : goal.loop-own-preserved
loop-own-preserved c = grind (arith, common_steps, filter_map-append)
