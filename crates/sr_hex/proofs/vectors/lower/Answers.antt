use Rattle.std.proofs.Common.{bit_and, ◌∙◌}
use Rattle.std.proofs.lemmas.Nat.{and_mask}
use Rattle.sr_hex.proofs.LaneLemmas.{lanes_with}
use Rattle.sr_hex.proofs.vectors.lower.Goals as goal

pub returns : goal.returns
returns c =
    let all = lanes_with bit_and c.args.octets 15 c.fits-octets.0 in
    record { long = all.long; each = λ i h. all.each i h ∙ and_mask _ 4 }
