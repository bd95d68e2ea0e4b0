use Rattle.std.proofs.Common.{◌≡◌, ◌≤◌, map, replicate, []}
use Rattle.sr_plant.proofs.building.hosts.Given as goal

-- so many lists so far, with room for all
abbrev pub invariant-loop : goal.invariant-loop
invariant-loop l = record {
  lists : map (λ h. h.items) l.hosts.items ≡ replicate l.counter [];
  length : l.hosts.len ≡ l.counter;
  room : l.count ≤ l.hosts.cap;
}
