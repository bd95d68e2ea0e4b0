use Rattle.std.proofs.Common.{rules}
use Rattle.sr_proxy_table.proofs.table.ProxyTable.has.Goals as goal

pub returns-in-Some : goal.returns-in-Some
returns-in-Some c = search rules
