use Rattle.sr_merge.proofs.CopyLemmas.{copies_in_time_count}
use Rattle.sr_merge.proofs.laws.copies_in_time_count.Goals as goal

pub returns : goal.returns
returns c = copies_in_time_count
