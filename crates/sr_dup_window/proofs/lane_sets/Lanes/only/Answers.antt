use Rattle.std.proofs.Common.{rules}
use Rattle.sr_dup_window.proofs.lane_sets.Lanes.only.Goals as goal

pub returns-in-C : goal.returns-in-C
returns-in-C c = search rules
