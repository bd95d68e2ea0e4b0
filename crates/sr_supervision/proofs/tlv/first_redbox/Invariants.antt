use Rattle.std.proofs.Common.{length}
use Rattle.sr_supervision.proofs.TlvLemmas.{IsLeft}
use Rattle.sr_supervision.proofs.tlv.first_redbox.Given as goal

abbrev pub invariant-loop-tlv : goal.invariant-loop-tlv
invariant-loop-tlv l = IsLeft l.fn.octets l.rest l.redbox

abbrev pub decreases-loop-tlv : goal.decreases-loop-tlv
decreases-loop-tlv l = length l.rest
