-- The coupled networks of scripts.
use Rattle.std.specs.Prelude.{ℕ, ◌+◌, Option, None, Some}
use Rattle.sr_forwarding.specs.declared.net_id.NetId.TheVariants as net
use Rattle.sr_plant.specs.declared.shapes.Join.{Join}
use Rattle.sr_plant.specs.declared.topology.Topology.{Topology}
use Rattle.sr_plant.specs.declared.topology.Topology.TheVariants.{RingLan, TwoRings}
use Rattle.sr_plant_script.specs.declared.setup.Joins.{Joins}
use Rattle.sr_plant_script.specs.declared.setup.Joins.TheVariants.{One, Two}

-- nodes 0 and 1 of the ring are the boxes of LAN A and LAN B of network 1
abbrev pub ring_lan_topology : ℕ → ℕ → Topology
ring_lan_topology ring lan = RingLan (record { ring = ring; lan = lan; box_a = 0; box_b = 1; net = net.One })

-- the second nodes of both rings are joined, if two are
abbrev pub second_pair : ℕ → Joins → Option Join
second_pair left One = None
second_pair left Two = Some (record { left = 1; right = left + 1 })

-- the first nodes of both rings are joined
abbrev pub two_rings_topology : ℕ → ℕ → Joins → Topology
two_rings_topology left right joins = TwoRings (record {
  left = left;
  right = right;
  first = record { left = 0; right = left };
  second = second_pair left joins;
})
