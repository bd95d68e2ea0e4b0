use Rattle.std.proofs.Common.{rules}
use Rattle.sr_supervision.proofs.tlv.redbox_of.Goals as goal

pub returns : goal.returns
returns c = search rules
