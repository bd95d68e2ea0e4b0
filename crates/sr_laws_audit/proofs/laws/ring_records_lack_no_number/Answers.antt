use Rattle.sr_laws_audit.proofs.UnbrokenLemmas.{no_ring_number_lacks}
use Rattle.sr_laws_audit.proofs.laws.ring_records_lack_no_number.Goals as goal

pub returns : goal.returns
returns c = no_ring_number_lacks
