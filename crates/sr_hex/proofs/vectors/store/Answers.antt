use Rattle.std.proofs.Common.{arith}
use Rattle.std.proofs.lemmas.Simd.{get_or-put_chunk_at, get_or-put_chunk_below}
use Rattle.sr_hex.proofs.vectors.store.Goals as goal

pub returns-clause-stored : goal.returns-clause-stored
returns-clause-stored c i h = get_or-put_chunk_at c.args.at c.args.octets.now c.args.v i 0 (omega (arith, c.fits-v.0)) (omega (arith, c.fits-v.0))

pub returns-clause-kept : goal.returns-clause-kept
returns-clause-kept c k h = get_or-put_chunk_below c.args.at c.args.octets.now c.args.v k 0 h
