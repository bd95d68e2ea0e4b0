-- How a node begins, in whatever run.
use Rattle.std.specs.Prelude.{ℕ, Bool, true, false}
use Rattle.sr_dup_table.specs.Widths.{numbers_in}
use Rattle.sr_forwarding.specs.declared.role_image.RoleImage.{RoleImage}
use Rattle.sr_node.specs.declared.mode.Mode.{Mode}
use Rattle.sr_node.specs.declared.mode.Mode.TheVariants as mode
use Rattle.sr_node.specs.declared.mode.Settings.{Settings}
use Rattle.sr_node.specs.Images.{State, begun}

-- with a role, and what it is told
pub record Start : Type 0 where
  pub role : RoleImage
  pub settings : Settings

-- the state of the new node
abbrev pub begun_as : Start → State
begun_as start = begun start.role start.settings

-- how many numbers of each source the node remembers
abbrev pub width_of : Start → ℕ
width_of start = numbers_in start.settings.width

-- whether a mode is X
abbrev pub is_x : Mode → Bool
is_x mode.H = false
is_x mode.X = true
