use Rattle.std.proofs.Common.{◌≡◌, ◌≤◌, ◌+◌, ◌++◌, map, IsSome}
use Rattle.slab.specs.Slab.{get, slab_len}
use Rattle.sr_plant.specs.Flights.{AreCounted, AreUsedBut, copies_in, parcel_of}
use Rattle.sr_plant.specs.Puts.{copy_over, those_passing, hop_to, hops_below}
use Rattle.sr_plant.proofs.flight.copies.put_copies.Given as goal

-- the copies to the nodes so far
abbrev pub invariant-loop-to : goal.invariant-loop-to
invariant-loop-to l = record {
  counted : AreCounted l.kept l.places.items;
  used : AreUsedBut l.key l.kept;
  copies : copies_in l.kept l.places.items ≡ copies_in l.fn.kept l.fn.places.items
      ++ those_passing l.cut (map (copy_over l.outlet.node l.outlet.port (parcel_of (get l.fn.kept l.key)))
      (hops_below (hop_to l.outlet.topology l.outlet.nodes l.outlet.node l.outlet.port) l.to));
  there : IsSome (get l.kept l.key);
  parcel : parcel_of (get l.kept l.key) ≡ parcel_of (get l.fn.kept l.key);
  kept_len : slab_len l.kept ≡ slab_len l.fn.kept;
  kept_capacity : l.kept.capacity ≡ l.fn.kept.capacity;
  room : l.fn.places.room ≤ l.places.room + l.to;
}
