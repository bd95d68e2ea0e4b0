use Rattle.sr_watch.proofs.LawLemmas.{in_one}
use Rattle.sr_watch.proofs.laws.each_arrival_is_in_one_interval.Goals as goal

pub returns : goal.returns
returns c = in_one c.copies_add_up.ensures
