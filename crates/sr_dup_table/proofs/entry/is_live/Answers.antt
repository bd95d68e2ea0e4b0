use Rattle.std.proofs.Common.{rules}
use Rattle.sr_dup_table.proofs.entry.is_live.Goals as goal

pub returns : goal.returns
returns g c = search rules
