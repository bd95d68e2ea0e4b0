use Rattle.std.proofs.Common.{rules}
use Rattle.sr_dup_window.proofs.record.Record.fresh.Goals as goal

pub returns : goal.returns
returns g c = search rules
