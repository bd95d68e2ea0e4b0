-- A RedBox for nodes that know no redundancy.
use Rattle.sr_frame.specs.declared.fields.Mac.{Mac}
use Rattle.sr_forwarding.specs.declared.role_image.RoleImage.{RoleImage}
use Rattle.sr_forwarding.specs.declared.kind.RoleKind.TheVariants.{San}
use Rattle.sr_proxy_table.specs.Proxied.{Entries, times_of}

-- what contracts see of it: its address, and the table of those that it stands for
pub record SanView : Type 0 where
  pub mac : Mac
  pub proxied : Entries

-- the role as data
abbrev pub san_of : SanView → RoleImage
san_of b = record { kind = San; mac = b.mac; proxied = times_of b.proxied }
