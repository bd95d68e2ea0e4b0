use Rattle.std.proofs.Common.{rules}
use Rattle.sr_dup_table.proofs.table_of.TableOf.try_clone.Goals as goal

pub returns-clause-sources : goal.returns-clause-sources
returns-clause-sources g c = search rules
