use Rattle.std.proofs.Common.{rules}
use Rattle.sr_capture.proofs.taking.keep.Goals as goal

pub fill-requires : goal.fill-requires
fill-requires g c = search rules

pub returns-clause-taken : goal.returns-clause-taken
returns-clause-taken g c = search rules

pub returns-clause-err : goal.returns-clause-err
returns-clause-err g c = search rules
