use Rattle.std.proofs.Common.{◌≡◌, ◌≤◌, min}
use Rattle.sr_slots.specs.Places.{entries_of}
use Rattle.sr_slots.specs.Calls.{least_rank}
use Rattle.sr_slots.proofs.sifting.least_rank.Given as goal

-- the least so far and the least of the rest are together the least
abbrev pub invariant-loop-slot : goal.invariant-loop-slot
invariant-loop-slot g l = record {
  together : min l.least (least_rank g.V.Ranked.rank_of (entries_of l.slot-iterator)) ≡ least_rank g.V.Ranked.rank_of (entries_of l.map.entries);
  fits : l.least ≤ 18446744073709551615;
}
