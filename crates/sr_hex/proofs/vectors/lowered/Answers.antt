use Rattle.std.proofs.Common.{◌+◌, ◌-◌, ◌%◌, ◌^◌, get_or, replicate, ap, ◌∙◌, refl}
use Rattle.std.specs.Prelude.{max}
use Rattle.std.proofs.lemmas.Simd.{get_or-replicate}
use Rattle.sr_hex.proofs.LaneLemmas.{lanes_with, lanes_larger, lane_fits, sunk}
use Rattle.sr_hex.proofs.vectors.lowered.Goals as goal

pub returns : goal.returns
returns c =
    let a = c.args.a in
    let by = c.args.by in
    let more = lanes_larger a (replicate 16 by) c.fits-a.0 refl in
    let all = lanes_with (λ a b. (a + (2 ^ 8 - b)) % 2 ^ 8) _ by more.long in
    record {
      long = all.long;
      each = λ i h.
          all.each i h ∙ ap (λ n. (n + (256 - by)) % 256) (more.each i h ∙ ap (max (get_or a i 0)) (get_or-replicate 16 i by 0 h))
          ∙ sunk (get_or a i 0) by (lane_fits a i c.fits-a.1) c.ranges.by.fits;
    }
