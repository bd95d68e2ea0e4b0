use Rattle.sr_capture_merge.proofs.Reread.{merged_files_are_read}
use Rattle.sr_capture_merge.proofs.laws.merged_files_are_read.Goals as goal

pub returns : goal.returns
returns c = merged_files_are_read c.what_is_written_is_read.ensures
