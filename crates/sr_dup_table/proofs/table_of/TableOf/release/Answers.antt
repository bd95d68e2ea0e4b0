use Rattle.std.proofs.Common.{rules}
use Rattle.sr_dup_table.proofs.table_of.TableOf.release.Goals as goal

pub returns-clause-held : goal.returns-clause-held
returns-clause-held g c = search rules
