use Rattle.std.proofs.Common.{rules}
use Rattle.sr_plant_script.proofs.answering.event_on.Goals as goal

pub returns-in-Mend : goal.returns-in-Mend
returns-in-Mend c = search rules
