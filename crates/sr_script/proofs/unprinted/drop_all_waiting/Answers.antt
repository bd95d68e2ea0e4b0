use Rattle.std.proofs.Common.{rules}
use Rattle.sr_script.proofs.unprinted.drop_all_waiting.Goals as goal

pub returns : goal.returns
returns g c = search rules
