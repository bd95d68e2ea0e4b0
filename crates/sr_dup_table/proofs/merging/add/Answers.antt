use Rattle.std.proofs.Common.{rules}
use Rattle.sr_dup_table.proofs.merging.add.Goals as goal

pub returns-then-source_count-ge-MAX_SOURCES-clause-refused : goal.returns-then-source_count-ge-MAX_SOURCES-clause-refused
returns-then-source_count-ge-MAX_SOURCES-clause-refused g c = search rules
