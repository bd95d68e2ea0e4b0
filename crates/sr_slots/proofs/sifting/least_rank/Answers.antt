use Rattle.std.proofs.Common.{arith, ap, ◌∙◌, rules}
use Rattle.sr_slots.specs.Calls.{least_rank}
use Rattle.sr_slots.specs.Places.{entries_of}
use Rattle.sr_slots.specs.EntryLemmas.{least_rank_le}
use Rattle.sr_slots.proofs.sifting.least_rank.Goals as goal

pub loop-slot-init : goal.loop-slot-init
loop-slot-init g c =
    let rank_of = g.V.Ranked.rank_of in
    let e = ap (λ es. least_rank rank_of (entries_of es)) (c.into_iter-slot-iterator.ensures.into_iter_gives ∙ c.iter-slot-items.ensures.rest) in
    record { together = omega (arith, e, least_rank_le rank_of (entries_of c.args.map.now.entries)); fits = omega arith }

pub loop-slot-preserved : goal.loop-slot-preserved
loop-slot-preserved g c = search rules
