use Rattle.std.proofs.Common.{◌+◌, ◌-◌, ◌%◌, ◌^◌, get_or, replicate, ap, ◌∙◌, refl}
use Rattle.std.specs.Prelude.{min}
use Rattle.std.proofs.lemmas.Simd.{get_or-replicate}
use Rattle.sr_hex.proofs.LaneLemmas.{lanes_with, lanes_smaller, lane_fits, lifted}
use Rattle.sr_hex.proofs.vectors.raised.Goals as goal

pub returns : goal.returns
returns c =
    let a = c.args.a in
    let by = c.args.by in
    let less = lanes_smaller a (replicate 16 (255 - by)) c.fits-a.0 refl in
    let all = lanes_with (λ a b. (a + b) % 2 ^ 8) _ by less.long in
    record {
      long = all.long;
      each = λ i h.
          all.each i h ∙ ap (λ n. (n + by) % 256) (less.each i h ∙ ap (min (get_or a i 0)) (get_or-replicate 16 i (255 - by) 0 h))
          ∙ lifted (get_or a i 0) by (lane_fits a i c.fits-a.1) c.ranges.by.fits;
    }
