use Rattle.std.proofs.Common.{◌+◌, ◌-◌, ◌%◌, ◌^◌, bit_or, ap, ◌∙◌}
use Rattle.std.specs.Prelude.{min}
use Rattle.sr_hex.proofs.LaneLemmas.{lanes_with}
use Rattle.sr_hex.proofs.vectors.letters.Goals as goal

pub returns : goal.returns
returns c =
    let lower = lanes_with bit_or c.args.codes 32 c.fits-codes.0 in
    let above = lanes_with (λ a b. (a + (2 ^ 8 - b)) % 2 ^ 8) _ 97 lower.long in
    record {
      long = c.raised.ensures.long;
      each = λ i h. c.raised.ensures.each i h ∙ ap (λ n. min (n + 10) 255) (above.each i h ∙ ap (λ n. (n + 159) % 256) (lower.each i h));
    }
