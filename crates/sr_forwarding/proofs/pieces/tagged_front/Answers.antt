use Rattle.std.proofs.Common.{arith}
use Rattle.sr_forwarding.proofs.TaggedPieces.{behind_first}
use Rattle.sr_forwarding.proofs.pieces.tagged_front.Goals as goal

pub returns : goal.returns
returns c = rw (c.copy_from_slice.ensures.after, c.copy_from_slice-2.ensures.after, c.to_be_bytes.ensures, c.octets.ensures) (behind_first c.args.addresses.now _ _ 12 6 c.told-addresses (omega arith))
