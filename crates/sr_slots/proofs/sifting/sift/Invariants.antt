use Rattle.std.proofs.Common.{◌<◌, ◌^◌, ◌-◌, length, nat_le}
use Rattle.sr_slots.proofs.SiftLemmas.{Sifted}
use Rattle.sr_slots.proofs.sifting.sift.Given as goal

-- the places so far were gone over
abbrev pub invariant-loop-slot : goal.invariant-loop-slot
invariant-loop-slot g l = record {
  sifted : Sifted (λ v. nat_le l.limit (g.V.Ranked.rank_of v)) g.V.Ranked.rank_of l.fn.map.entries l.map.entries l.index l.sifted.gone l.sifted.least l.sifted.end;
  small : length l.fn.map.entries < 2 ^ 63;
}

abbrev pub decreases-loop-slot : goal.decreases-loop-slot
decreases-loop-slot g l = length l.map.entries - l.index
