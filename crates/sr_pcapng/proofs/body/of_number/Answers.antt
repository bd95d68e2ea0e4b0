use Rattle.std.proofs.Common.{rules}
use Rattle.sr_pcapng.proofs.body.of_number.Goals as goal

pub returns-in-Some : goal.returns-in-Some
returns-in-Some c = search rules
