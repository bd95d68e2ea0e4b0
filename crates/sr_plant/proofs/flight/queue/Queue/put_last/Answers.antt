use Rattle.std.proofs.Common.{◌++◌, ◌∷◌, [], List, length, length-append, arith, sym, subst, ap}
use Rattle.sr_plant.specs.declared.flight.copies.Flying.{Flying}
use Rattle.sr_plant.specs.Flights.{AreOnLinks}
use Rattle.sr_plant.proofs.LinkLemmas.{counted_more, few_on}
use Rattle.sr_plant.proofs.flight.queue.Queue.put_last.Goals as goal

pub add_hop-requires : goal.add_hop-requires
add_hop-requires c link within =
    let put = c.push_back_reserved.ensures in
    let more = ap length put.items in
    let one = length-append c.self.inside.places.items (c.args.flying ∷ []) in
    few_on c.self.inside.counts.items c.self.inside.places.items 18446744073709551615 link c.self.invariant (omega (arith, more, one, put.few)) within

pub invariant_of-self : goal.invariant_of-self
invariant_of-self c =
    subst (λ (fs : List Flying). AreOnLinks c.add_hop.new.counts.items fs) (sym c.push_back_reserved.ensures.items)
    (counted_more c.self.inside.counts.items c.add_hop.new.counts.items c.self.inside.places.items c.args.flying c.self.invariant c.add_hop.ensures)
