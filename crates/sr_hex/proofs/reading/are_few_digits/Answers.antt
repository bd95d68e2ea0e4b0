use Rattle.sr_hex.proofs.Short.{filled_block}
use Rattle.sr_hex.proofs.reading.are_few_digits.Goals as goal

pub returns : goal.returns
returns c =
    let digits = filled_block c.args.octets.now _ (λ k. (c.type_inv.octets k).fits) c.requires c.copy_from_slice.ensures.after in
    (λ e. digits.0 (c.values_at.ensures.0 (c.are_small.ensures.0 e)), λ pass. c.are_small.ensures.1 (c.values_at.ensures.1 (digits.1 pass)))
