use Rattle.std.proofs.Common.{rules}
use Rattle.sr_proxy_table.proofs.table.ProxyTable.prune.Goals as goal

pub returns-clause-after : goal.returns-clause-after
returns-clause-after c = search rules

pub returns-clause-count : goal.returns-clause-count
returns-clause-count c = search rules
