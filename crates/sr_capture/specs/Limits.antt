-- The limit that readers of captures keep to.
use Rattle.std.specs.Prelude.{ℕ}

-- of a packet with more octets none are kept: no frame is as long (choice of this project)
abbrev pub longest_kept : ℕ
longest_kept = 1524
