-- What the two ways of a frame are called in a network.
use Rattle.sr_capture_audit.specs.declared.network.Network.{Network}
use Rattle.sr_capture_audit.specs.declared.network.Network.TheVariants.{Prp, Hsr}
use Rattle.sr_page.specs.declared.topology.Topology.{Topology}
use Rattle.sr_page.specs.declared.topology.Topology.TheVariants.{Lans, Ring}

abbrev pub topology_of : Network → Topology
topology_of Prp = Lans
topology_of Hsr = Ring
