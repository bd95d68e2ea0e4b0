use Rattle.sr_merge.proofs.KeptLemmas.{each_frame_is_kept_once}
use Rattle.sr_merge.proofs.laws.each_frame_is_kept_once.Goals as goal

pub returns : goal.returns
returns c = each_frame_is_kept_once
