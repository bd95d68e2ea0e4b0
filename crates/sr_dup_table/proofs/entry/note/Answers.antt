use Rattle.std.proofs.Common.{rules}
use Rattle.sr_dup_table.proofs.entry.note.Goals as goal

pub returns-then-is_live-clause-after : goal.returns-then-is_live-clause-after
returns-then-is_live-clause-after g c = search rules
