use Rattle.std.proofs.Common.{arith}
use Rattle.sr_hex.proofs.Digested.{halves_written}
use Rattle.sr_hex.proofs.writing.write_halves.Goals as goal

pub returns : goal.returns
returns c =
    halves_written c.args.octets.now _ _ (λ k. (c.type_inv.octets k).fits) (omega arith) c.requires.few c.write_half.ensures.written c.write_half-2.ensures.written
    c.write_half-2.ensures.kept
