use Rattle.sr_forwarding.proofs.AgainLemmas.{read_again}
use Rattle.sr_forwarding.proofs.laws.what_is_written_is_read_again.Goals as goal

pub returns : goal.returns
returns c = read_again
