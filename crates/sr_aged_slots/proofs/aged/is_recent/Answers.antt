use Rattle.std.proofs.Common.{rules}
use Rattle.sr_aged_slots.proofs.aged.is_recent.Goals as goal

pub returns : goal.returns
returns c = search rules
