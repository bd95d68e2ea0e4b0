use Rattle.std.proofs.Common.{◌≡◌, filter, take, length, ◌≤◌}
use Rattle.sr_forwarding.specs.Outlets.{has, all_ports}
use Rattle.sr_forwarding.proofs.outlets.Outlets.ports.Given as goal

abbrev pub invariant-loop-port : goal.invariant-loop-port
invariant-loop-port l = record {
  all : l.port-items ≡ all_ports;
  so_far : l.ports.items ≡ filter (has l.self) (take l.port-index all_ports);
  few : length l.ports.items ≤ l.port-index;
  inline : l.ports.capacity ≡ 4;
}
