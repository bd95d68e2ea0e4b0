use Rattle.std.proofs.Common.{rules}
use Rattle.sr_pcapng.proofs.block.order_of.Goals as goal

pub returns-in-1295788826-clause-found : goal.returns-in-1295788826-clause-found
returns-in-1295788826-clause-found c = search rules
