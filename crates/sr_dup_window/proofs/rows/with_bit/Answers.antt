use Rattle.sr_dup_window.proofs.WordLemmas.{bit_marked}
use Rattle.sr_dup_window.proofs.rows.with_bit.Goals as goal

pub returns-clause-first : goal.returns-clause-first
returns-clause-first c = bit_marked c.args.first c.args.bit c.args.set.0 c.args.lane.0 c.bits-3.result c.bits.result c.requires (c.bits-3.ensures tt) (c.bits.ensures tt)

pub returns-clause-second : goal.returns-clause-second
returns-clause-second c = bit_marked c.args.second c.args.bit c.args.set.0 c.args.next.0 c.bits-3.result c.bits-2.result c.requires (c.bits-3.ensures tt) (c.bits-2.ensures tt)
