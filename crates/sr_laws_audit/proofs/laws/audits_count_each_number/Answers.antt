use Rattle.sr_laws_audit.proofs.FigureLemmas.{counts_each}
use Rattle.sr_laws_audit.proofs.laws.audits_count_each_number.Goals as goal

pub returns : goal.returns
returns c = counts_each
