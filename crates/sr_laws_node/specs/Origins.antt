-- How the node of a run begins, and what stands before the run.
use Rattle.std.specs.Prelude.{◌≡◌, ℕ, ℤ, not, List, [], filter, Some}
use Rattle.std.specs.Map.{lookup}
use Rattle.sr_frame.specs.declared.fields.Mac.{Mac}
use Rattle.sr_frame.specs.Addresses.{mac_eq}
use Rattle.sr_sequence.specs.Numbers.{wire}
use Rattle.sr_dup_table.specs.declared.width.Width.{Width}
use Rattle.sr_dup_table.specs.Widths.{numbers_in}
use Rattle.sr_dup_table.specs.JoinLaws.{IsSound}
use Rattle.sr_dup_table.specs.Sources.{Remembered, Sources}
use Rattle.sr_laws_dup.specs.TableRuns.{Noting}
use Rattle.sr_laws_dup.specs.Starts.{stood}
use Rattle.sr_forwarding.specs.declared.role_image.RoleImage.{RoleImage}
use Rattle.sr_node.specs.declared.mode.Mode.{Mode}
use Rattle.sr_node.specs.Images.{State}
use Rattle.sr_node.specs.Resuming as node
use Rattle.sr_node.specs.Starts.{Start, begun_as}

-- A node is new, or it is resumed with a role, in a mode, with the sources of a table of a width. Of the greatest number of each source the
-- table has 16 bits; `top` says which whole number they stand for, and the node never has it.
pub data Origin : Type 0 where
  new : (start : Start) → Origin
  resumed : (role : RoleImage) (mode : Mode) (width : Width) (sources : Sources) (top : Mac → ℤ) → Origin

-- the state in which a node begins so
abbrev pub first_state : Origin → State
first_state (new start) = begun_as start
first_state (resumed role mode width sources top) = node.resumed role mode (numbers_in width) sources

-- a node begins so in this state; what it is resumed with are the sources of a table
abbrev pub BeginsAs : Origin → State → Type 0
BeginsAs (new start) s = s ≡ begun_as start
BeginsAs (resumed role mode width sources top) s =
    IsSound (numbers_in width) sources × (s ≡ node.resumed role mode (numbers_in width) sources)

-- the sources of a table but for one address
abbrev pub sources_but : Mac → Sources → Sources
sources_but mac s = filter (λ e. not (mac_eq mac e.0)) s

-- What stands before the run: all pairs of source and number that the table has, each with the lanes on which it is noted, at the time
-- of its source. Those of the node's own address are not among them, and before a new node's run stands nothing.
abbrev pub stands_before : Origin → List Noting
stands_before (new start) = []
stands_before (resumed role mode width sources top) = stood top (sources_but role.mac sources)

-- the 16 bits of the greatest number of each source stand for that whole number
abbrev pub HasTops : Origin → Type 0
HasTops (new start) = Unit {0}
HasTops (resumed role mode width sources top) =
    (src : Mac) (h : Remembered) → lookup (mac_eq src) sources ≡ Some h → h.seen.reference ≡ wire (top src)

-- a node of any role, in either mode, can be resumed with a table of this width, under every choice of whole numbers
abbrev pub CanBeResumedWith : ℕ → Sources → Type 0
CanBeResumedWith w s =
    (role : RoleImage) (mode : Mode) (width : Width) (top : Mac → ℤ) → numbers_in width ≡ w
    → BeginsAs (resumed role mode width s top) (node.resumed role mode w s)
