-- Which setup the numbers of a C program stand for (choice of this project).
use Rattle.std.specs.Prelude.{ℕ, ◌==◌, Bool, not, nat_eq, replicate, if◌then◌else◌, Option, None, Some}
use Rattle.std.specs.Cmp.Lexicographic.{pointwise}
use Rattle.sr_dup_table.specs.declared.width.Width.{Width}
use Rattle.sr_dup_table.specs.declared.width.Width.TheVariants.{Narrow, Wide}
use Rattle.sr_forwarding.specs.declared.kind.RoleKind.{RoleKind}
use Rattle.sr_forwarding.specs.declared.kind.RoleKind.TheVariants as kind
use Rattle.sr_forwarding.specs.declared.net_id.NetId.{NetId}
use Rattle.sr_forwarding.specs.declared.net_id.NetId.TheVariants as net
use Rattle.sr_node.specs.declared.mode.Mode.{Mode}
use Rattle.sr_node.specs.declared.mode.Mode.TheVariants as mode
use Rattle.sr_prp_trailer.specs.declared.trailer.Lan.{Lan}
use Rattle.sr_prp_trailer.specs.declared.trailer.Lan.TheVariants as lan
use Rattle.sr_endpoint.specs.declared.setup.Setup.{Setup}
use Rattle.sr_c.specs.declared.making.SetupEntry.{SetupEntry}

-- modes H and X
abbrev pub mode_by : ℕ → Option Mode
mode_by n = if n == 0 then Some mode.H else if n == 1 then Some mode.X else None

-- 1024 and 2048 numbers of each source
abbrev pub width_by : ℕ → Option Width
width_by n = if n == 0 then Some Narrow else if n == 1 then Some Wide else None

-- LAN A and B
abbrev pub lan_by : ℕ → Option Lan
lan_by n = if n == 0 then Some lan.A else if n == 1 then Some lan.B else None

-- a PRP network by its number
abbrev pub net_by : ℕ → Option NetId
net_by n =
    if n == 1 then Some net.One else if n == 2 then Some net.Two else if n == 3 then Some net.Three
    else if n == 4 then Some net.Four else if n == 5 then Some net.Five else if n == 6 then Some net.Six else None

abbrev pub prp_kind : Option Lan → Option NetId → Option RoleKind
prp_kind None net = None
prp_kind (Some lan) None = None
prp_kind (Some lan) (Some net) = Some (kind.Prp lan net)

-- the kind of the role of this number
abbrev pub kind_by : SetupEntry → Option RoleKind
kind_by e =
    if e.role == 0 then Some kind.Danp else if e.role == 1 then Some kind.Danh else if e.role == 2 then Some kind.San
    else if e.role == 3 then prp_kind (lan_by e.lan) (net_by e.net) else if e.role == 4 then Some kind.Hsr else None

-- there is a key: octets that are not all 0, or the one that anyone can know, which is asked for by name
abbrev pub has_key : SetupEntry → Bool
has_key e = if e.fixed_key == 0 then not (pointwise nat_eq e.key (replicate 32 0)) else e.fixed_key == 1

abbrev pub setup_if : SetupEntry → Option RoleKind → Option Mode → Option Width → Option Setup
setup_if e None mode width = None
setup_if e (Some kind) None width = None
setup_if e (Some kind) (Some mode) None = None
setup_if e (Some kind) (Some mode) (Some width) =
    Some (record { kind = kind; mac = record { 0 = e.mac }; settings = record { mode = mode; width = width } })

-- the setup that the numbers of an entry stand for
abbrev pub setup_by : SetupEntry → Option Setup
setup_by e = if has_key e then setup_if e (kind_by e) (mode_by e.mode) (width_by e.width) else None
