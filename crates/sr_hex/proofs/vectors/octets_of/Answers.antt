use Rattle.std.proofs.Common.{◌*◌, ◌++◌, ◌∙◌, get_or}
use Rattle.sr_hex.proofs.LaneLemmas.{sixteen, octets_of_both}
use Rattle.sr_hex.proofs.vectors.octets_of.Goals as goal

pub returns : goal.returns
returns c =
    let all = sixteen (λ i. get_or (c.joined.result ++ c.joined-2.result) (2 * i) 0) in
    record {
      long = all.long;
      each = λ i h. all.each i h
          ∙ octets_of_both c.args.first c.args.second c.joined.result c.joined-2.result c.fits-first.0 c.joined.ensures.long c.joined.ensures.octets
          c.joined-2.ensures.octets i h;
    }
