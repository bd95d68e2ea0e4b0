use Rattle.std.proofs.Common.{arith}
use Rattle.sr_slots.proofs.PlaceLemmas.{held_le}
use Rattle.sr_slots.proofs.holding.hold.Goals as goal

pub returns-in-Some-clause-fits : goal.returns-in-Some-clause-fits
returns-in-Some-clause-fits g c = omega (arith, held_le c.args.map.now.entries)
