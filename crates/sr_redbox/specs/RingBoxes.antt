-- RedBoxes that stand for their own address alone, as data.
use Rattle.sr_forwarding.specs.RoleImages.{role_of}
use Rattle.sr_forwarding.specs.declared.role_image.RoleImage.{RoleImage}
use Rattle.sr_forwarding.specs.declared.kind.RoleKind.TheVariants.{Prp, Hsr}
use Rattle.sr_redbox.specs.declared.prp_box.PrpBox.{PrpBox}
use Rattle.sr_redbox.specs.declared.hsr_box.HsrBox.{HsrBox}

-- a RedBox of one LAN of a PRP network
abbrev pub prp_role_of : PrpBox → RoleImage
prp_role_of b = role_of (Prp b.role.routing.lan b.role.routing.net) b.role.mac

-- a RedBox between two rings
abbrev pub hsr_role_of : HsrBox → RoleImage
hsr_role_of b = role_of Hsr b.role.mac
