use Rattle.std.proofs.Common.{rules}
use Rattle.sr_words.proofs.hexadecimal.lengthen.Goals as goal

pub returns-in-Err-clause-memory : goal.returns-in-Err-clause-memory
returns-in-Err-clause-memory c = search rules
