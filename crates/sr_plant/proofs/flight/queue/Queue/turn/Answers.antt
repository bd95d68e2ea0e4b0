use Rattle.std.proofs.Common.{List, sym, subst}
use Rattle.sr_plant.specs.declared.flight.copies.Flying.{Flying}
use Rattle.sr_plant.specs.Flights.{AreOnLinks}
use Rattle.sr_plant.proofs.LinkLemmas.{counted_turn}
use Rattle.sr_plant.proofs.flight.queue.Queue.turn.Goals as goal

pub invariant_of-self : goal.invariant_of-self
invariant_of-self c =
    subst (λ (fs : List Flying). AreOnLinks c.self.inside.counts.items fs) (sym c.turn.ensures.items)
    (counted_turn c.self.inside.counts.items c.self.inside.places.items c.self.invariant)
