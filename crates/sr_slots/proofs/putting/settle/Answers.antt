use Rattle.std.proofs.Common.{arith}
use Rattle.sr_slots.proofs.SettleLemmas.{settles_on, settles_there, settles_elsewhere}
use Rattle.sr_slots.proofs.putting.settle.Goals as goal

pub returns-then-index-end-clause-settled : goal.returns-then-index-end-clause-settled
returns-then-index-end-clause-settled g c front back place at is =
    settles_there front place back c.args.map.now.entries is c.args.index c.args.end at c.requires.behind c.if-index-end.true

pub returns-then-end-len-clause-settled : goal.returns-then-end-len-clause-settled
returns-then-end-len-clause-settled g c front back place at is =
    settles_elsewhere front place back c.args.map.now.entries is c.args.index c.args.end at c.requires.behind
    (λ same. absurd (omega (arith, same, c.if-index-end.false))) (omega (arith, c.if-end-len.true, c.len.ensures.len)) c.swap_indices.new.self.entries c.swap_indices.ensures.entries

pub returns-clause-settled : goal.returns-clause-settled
returns-clause-settled g c front back place at is =
    settles_on front place back c.args.map.now.entries is c.args.index c.args.end at c.requires.behind
    (omega (arith, c.if-index-end.false, c.if-end-len.false, c.len.ensures.len, c.requires.within)) c.requires.end c.move_index.new.self.entries c.move_index.ensures.entries
