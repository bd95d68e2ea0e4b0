use Rattle.std.proofs.Common.{rules}
use Rattle.sr_proxy_table.proofs.table.is_live.Goals as goal

pub returns : goal.returns
returns c = search rules
