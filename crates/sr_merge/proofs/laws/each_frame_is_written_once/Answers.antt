use Rattle.sr_merge.proofs.RunLemmas.{each_frame_is_written_once}
use Rattle.sr_merge.proofs.laws.each_frame_is_written_once.Goals as goal

pub returns : goal.returns
returns c = each_frame_is_written_once
