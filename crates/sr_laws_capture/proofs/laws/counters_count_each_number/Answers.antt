use Rattle.sr_laws_capture.proofs.CountedLemmas.{counters_count}
use Rattle.sr_laws_capture.proofs.laws.counters_count_each_number.Goals as goal

pub returns : goal.returns
returns c = counters_count
