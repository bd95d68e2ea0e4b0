use Rattle.std.proofs.Common.{arith}
use Rattle.std.proofs.lemmas.Grind.{common_steps}
use Rattle.sr_proxy_table.proofs.table.ProxyTable.times.Goals as goal

pub loop-mac-preserved : goal.loop-mac-preserved
loop-mac-preserved c = grind (arith, common_steps)
