use Rattle.std.proofs.Common.{rules}
use Rattle.sr_dup_table.proofs.equality.same_entry.Goals as goal

pub returns-then-is_same : goal.returns-then-is_same
returns-then-is_same g c = search rules
