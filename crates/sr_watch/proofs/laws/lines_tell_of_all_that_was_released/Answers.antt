use Rattle.sr_watch.proofs.LawLemmas.{lines_tell}
use Rattle.sr_watch.proofs.laws.lines_tell_of_all_that_was_released.Goals as goal

pub returns : goal.returns
returns c = lines_tell
