use Rattle.sr_capture.proofs.Unique.{broken_files_are_none}
use Rattle.sr_capture.proofs.laws.broken_files_are_none.Goals as goal

pub returns : goal.returns
returns c = broken_files_are_none
