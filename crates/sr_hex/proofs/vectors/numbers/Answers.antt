use Rattle.std.proofs.Common.{◌+◌, ◌-◌, ◌%◌, ◌^◌, ap, ◌∙◌}
use Rattle.sr_hex.proofs.LaneLemmas.{lanes_with}
use Rattle.sr_hex.proofs.vectors.numbers.Goals as goal

pub returns : goal.returns
returns c =
    let from_nine = lanes_with (λ a b. (a + b) % 2 ^ 8) c.args.codes 198 c.fits-codes.0 in
    let all = lanes_with (λ a b. (a + b) % 2 ^ 8) _ 16 c.lowered.ensures.long in
    record {
      long = all.long;
      each = λ i h. all.each i h ∙ ap (λ n. (n + 16) % 256) (c.lowered.ensures.each i h ∙ ap (λ n. n - 6) (from_nine.each i h));
    }
