use Rattle.std.proofs.Common.{◌≡◌, List}
use Rattle.sr_clocks.specs.declared.sightings.Sighting.{Sighting}
use Rattle.sr_clocks.specs.Seen.{Keeps, pairs_below}
use Rattle.sr_clocks.proofs.sightings.pairs_of.Given as goal

abbrev pub invariant-loop-bin : goal.invariant-loop-bin
invariant-loop-bin l = (xs ys : List Sighting) → Keeps xs l.first → Keeps ys l.second → l.pairs.items ≡ pairs_below l.bin xs ys
