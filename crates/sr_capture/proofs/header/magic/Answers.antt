use Rattle.std.proofs.Common.{rules}
use Rattle.sr_capture.proofs.header.magic.Goals as goal

pub returns-in-3569595041-clause-found : goal.returns-in-3569595041-clause-found
returns-in-3569595041-clause-found c = search rules
