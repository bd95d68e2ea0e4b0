use Rattle.std.proofs.Common.{rules}
use Rattle.sr_dup_table.proofs.same.has_source.Goals as goal

pub returns-in-None : goal.returns-in-None
returns-in-None g c = search rules
