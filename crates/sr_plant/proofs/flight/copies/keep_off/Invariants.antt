use Rattle.std.proofs.Common.{◌≡◌, ◌++◌, not, take, drop}
use Rattle.std.specs.List.{filter}
use Rattle.sr_plant.specs.Copies.{is_on}
use Rattle.sr_plant.specs.Flights.{AreCounted, AreUsed, copies_in}
use Rattle.sr_plant.proofs.flight.copies.keep_off.Given as goal

-- first what is left to look at, then what was looked at and stays
abbrev pub invariant-loop : goal.invariant-loop
invariant-loop l = record {
  counted : AreCounted l.kept l.places.items;
  used : AreUsed l.kept;
  copies : copies_in l.kept l.places.items
      ≡ drop l.counter (copies_in l.fn.kept l.fn.places.items)
      ++ filter (λ c. not (is_on l.link c)) (take l.counter (copies_in l.fn.kept l.fn.places.items));
}
