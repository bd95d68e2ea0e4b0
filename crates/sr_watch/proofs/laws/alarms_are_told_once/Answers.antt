use Rattle.sr_watch.proofs.AlarmLemmas.{told_once}
use Rattle.sr_watch.proofs.laws.alarms_are_told_once.Goals as goal

pub returns : goal.returns
returns c = told_once
