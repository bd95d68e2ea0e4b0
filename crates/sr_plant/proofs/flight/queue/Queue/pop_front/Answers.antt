use Rattle.std.proofs.Common.{List, arith, rules, sym, subst}
use Rattle.sr_plant.specs.declared.flight.copies.Flying.{Flying}
use Rattle.sr_plant.specs.Flights.{AreOnLinks}
use Rattle.sr_plant.proofs.LinkLemmas.{counted_less, some_on}
use Rattle.sr_plant.proofs.flight.queue.Queue.pop_front.Goals as goal

pub drop_hop-requires : goal.drop_hop-requires
drop_hop-requires c link within over =
    some_on c.self.inside.counts.items c.self.inside.places.items 0 c.in_ok-removed.removed link (search (rules, arith)) c.in_ok-removed.ensures.item c.self.invariant within over

pub invariant_of-self-2 : goal.invariant_of-self-2
invariant_of-self-2 c =
    subst (λ (fs : List Flying). AreOnLinks c.drop_hop.new.counts.items fs) (sym c.in_ok-removed.ensures.items)
    (counted_less c.self.inside.counts.items c.drop_hop.new.counts.items c.self.inside.places.items 0 c.in_ok-removed.removed (search (rules, arith)) c.in_ok-removed.ensures.item c.self.invariant c.drop_hop.ensures)
