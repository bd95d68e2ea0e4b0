use Rattle.std.proofs.Common.{refl}
use Rattle.sr_dup_table.proofs.SameLemmas.{same-tables}
use Rattle.sr_dup_table.proofs.table.DupTable.same.Goals as goal

pub returns-in-Narrow-Narrow : goal.returns-in-Narrow-Narrow
returns-in-Narrow-Narrow c = same-tables c.in-Narrow-Narrow.ensures c.in-Narrow-Narrow.ensures' refl c.same.ensures

pub returns-in-Wide-Wide : goal.returns-in-Wide-Wide
returns-in-Wide-Wide c = same-tables c.in-Wide-Wide.ensures c.in-Wide-Wide.ensures' refl c.same-in-Wide-Wide.ensures
