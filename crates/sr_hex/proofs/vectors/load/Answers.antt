use Rattle.std.proofs.lemmas.Simd.{length-chunk, get_or-chunk}
use Rattle.sr_hex.proofs.vectors.load.Goals as goal

pub returns : goal.returns
returns c = record {
  long = length-chunk c.args.at 16 c.args.octets.now c.requires;
  each = λ i h. get_or-chunk c.args.at 16 c.args.octets.now i 0 h;
}
