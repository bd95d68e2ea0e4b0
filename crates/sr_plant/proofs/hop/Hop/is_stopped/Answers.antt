use Rattle.std.proofs.Common.{rules}
use Rattle.sr_plant.proofs.hop.Hop.is_stopped.Goals as goal

pub returns-in-None : goal.returns-in-None
returns-in-None c = search rules

pub returns-then-is_cut : goal.returns-then-is_cut
returns-then-is_cut c = search rules

pub returns-else-is_cut : goal.returns-else-is_cut
returns-else-is_cut c = search rules
