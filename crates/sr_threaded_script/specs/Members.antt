-- Of what kind the nodes of a threaded network are.
use Rattle.sr_forwarding.specs.declared.kind.RoleKind.{RoleKind}
use Rattle.sr_forwarding.specs.declared.kind.RoleKind.TheVariants.{Danp, Danh}
use Rattle.sr_threaded_script.specs.declared.setup.ThreadedNet.{ThreadedNet}
use Rattle.sr_threaded_script.specs.declared.setup.ThreadedNet.TheVariants as net

-- doubly attached nodes of the network
abbrev pub member_kind : ThreadedNet → RoleKind
member_kind net.Ring = Danh
member_kind net.TwinLan = Danp
