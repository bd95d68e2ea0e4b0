use Rattle.std.proofs.Common.{rules}
use Rattle.sr_pcapng.proofs.interface.is_wanted.Goals as goal

pub returns-in-Only : goal.returns-in-Only
returns-in-Only c = search rules
