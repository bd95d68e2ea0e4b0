-- What the kinds of roles differ in beside their routes: a column for each property.
use Rattle.std.specs.Prelude.{Bool, true, false, Option, None, Some, is_some, unwrap_or}
use Rattle.sr_frame.specs.declared.ports.Port.{Port}
use Rattle.sr_frame.specs.declared.ports.Port.TheVariants as port
use Rattle.sr_prp_trailer.specs.declared.trailer.Lan.{Lan}
use Rattle.sr_prp_trailer.specs.declared.trailer.Lan.TheVariants as lan
use Rattle.sr_supervision.specs.declared.message.Life.{Life}
use Rattle.sr_supervision.specs.declared.message.Life.TheVariants as life
use Rattle.sr_forwarding.specs.declared.kind.RoleKind.{RoleKind}
use Rattle.sr_forwarding.specs.declared.kind.RoleKind.TheVariants.{Danp, Danh, San, Prp, Hsr}
use Rattle.sr_forwarding.specs.NetIds.{number_of}
use Rattle.sr_forwarding.specs.Framings.{FramingImage, Tagged, Trailed, Ordinary, lane_of}

-- a doubly attached node of a PRP network alone takes frames without number at A and B
abbrev pub takes_unnumbered : RoleKind → Bool
takes_unnumbered Danp = true
takes_unnumbered Danh = false
takes_unnumbered San = false
takes_unnumbered (Prp lan net) = false
takes_unnumbered Hsr = false

-- the type of its life checks: a doubly attached node of a PRP network discards duplicates; all others are nodes of an HSR ring
abbrev pub life_of : RoleKind → Life
life_of Danp = life.PrpDiscard
life_of Danh = life.Hsr
life_of San = life.Hsr
life_of (Prp lan net) = life.Hsr
life_of Hsr = life.Hsr

-- it stands for its own address alone: all but the RedBox for nodes that know no redundancy
abbrev pub stands_alone : RoleKind → Bool
stands_alone Danp = true
stands_alone Danh = true
stands_alone San = false
stands_alone (Prp lan net) = true
stands_alone Hsr = true

-- the framing of A or B: of this LAN of the node's own network, or of a ring, with path 0 at A and 1 at B
abbrev pub side_framing : RoleKind → Lan → FramingImage
side_framing Danp side = Trailed side 0
side_framing Danh side = Tagged (lane_of side)
side_framing San side = Tagged (lane_of side)
side_framing (Prp lan net) side = Tagged (lane_of side)
side_framing Hsr side = Tagged (lane_of side)

-- the framing of the interlink, where the role has one
abbrev pub interlink_framing : RoleKind → Option FramingImage
interlink_framing Danp = None
interlink_framing Danh = None
interlink_framing San = Some Ordinary
interlink_framing (Prp lan net) = Some (Trailed lan (number_of net))
interlink_framing Hsr = Some (Tagged 0)

-- it has an interlink: it is a RedBox
abbrev pub has_interlink : RoleKind → Bool
has_interlink kind = is_some (interlink_framing kind)

-- the framing of each port of a role, where it has the port
abbrev pub framing_at : RoleKind → Port → Option FramingImage
framing_at kind port.H = Some Ordinary
framing_at kind port.A = Some (side_framing kind lan.A)
framing_at kind port.B = Some (side_framing kind lan.B)
framing_at kind port.C = interlink_framing kind

-- how frames are carried at a port: as ordinary ones where the role has no such port, at which nothing comes in and nothing goes out
abbrev pub carriage : RoleKind → Port → FramingImage
carriage kind port = unwrap_or (framing_at kind port) Ordinary
