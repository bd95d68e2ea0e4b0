use Rattle.sr_merge.proofs.DueLemmas.{all_is_written_at_the_end}
use Rattle.sr_merge.proofs.laws.all_is_written_at_the_end.Goals as goal

pub returns : goal.returns
returns c = all_is_written_at_the_end
