-- A node that goes on with what a table has noted.
use Rattle.std.specs.Prelude.{ℕ, max, [], ◌∷◌}
use Rattle.sr_dup_table.specs.Sources.{Sources}
use Rattle.sr_forwarding.specs.declared.role_image.RoleImage.{RoleImage}
use Rattle.sr_node.specs.declared.mode.Mode.{Mode}
use Rattle.sr_node.specs.Images.{State, start, plain_settings}

-- the greatest time at which one of some sources was last heard, or 0 where there is none
abbrev pub last_heard : Sources → ℕ
last_heard [] = 0
last_heard (e ∷ s) = max e.1.time (last_heard s)

-- The state of a node with this role, in this mode, that begins with the sources of a table of this width: its time is the greatest of
-- theirs, and all else is as in a new node.
abbrev pub resumed : RoleImage → Mode → ℕ → Sources → State
resumed r mode width sources = record {
  role = r;
  core = record (start plain_settings) { mode = mode; width = width; time = last_heard sources; sources = sources };
}
