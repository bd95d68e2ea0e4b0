use Rattle.sr_plant.proofs.LinkLemmas.{counted_none}
use Rattle.sr_plant.proofs.flight.queue.Queue.new.Goals as goal

pub invariant_of-result : goal.invariant_of-result
invariant_of-result c =
    counted_none c.in_ok-counts.counts.items c.in_ok-places.places.items c.args.links (c.in_ok-counts.ensures.items_if_clones_equal (λ y is. is)) c.in_ok-places.ensures
