use Rattle.sr_laws_audit.proofs.UnbrokenLemmas.{no_number_lacks}
use Rattle.sr_laws_audit.proofs.laws.records_lack_no_number.Goals as goal

pub returns : goal.returns
returns c = no_number_lacks
