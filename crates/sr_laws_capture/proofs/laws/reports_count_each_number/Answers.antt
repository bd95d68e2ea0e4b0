use Rattle.sr_laws_capture.proofs.CountedLemmas.{reports_count}
use Rattle.sr_laws_capture.proofs.laws.reports_count_each_number.Goals as goal

pub returns : goal.returns
returns c = reports_count
