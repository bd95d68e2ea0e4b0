-- A role as data.
use Rattle.std.specs.Prelude.{ℕ, ◌-◌, ◌==◌, ◌%◌, ◌||◌, nat_lt, Bool, false, [], slice_index, Option, None, Some}
use Rattle.std.specs.Map.{lookup}
use Rattle.sr_frame.specs.declared.fields.Mac.{Mac}
use Rattle.sr_frame.specs.Addresses.{mac_eq}
use Rattle.sr_forwarding.specs.declared.role_image.RoleImage.{RoleImage}
use Rattle.sr_forwarding.specs.declared.kind.RoleKind.{RoleKind}
use Rattle.sr_forwarding.specs.Limits.{proxy_forget_time}

-- a role of this kind that stands for its own address alone
abbrev pub role_of : RoleKind → Mac → RoleImage
role_of kind mac = record { kind = kind; mac = mac; proxied = [] }

-- learned less than the forget time ago; a later time counts as now
abbrev pub is_recent : ℕ → ℕ → Bool
is_recent now time = nat_lt (now - time) proxy_forget_time

abbrev pub is_recent_in : ℕ → Option ℕ → Bool
is_recent_in now None = false
is_recent_in now (Some time) = is_recent now time

-- the address is proxied: the role learned it lately at its interlink
abbrev pub is_proxied : RoleImage → Mac → ℕ → Bool
is_proxied r mac now = is_recent_in now (lookup (mac_eq mac) r.proxied)

-- the role stands for its own address, and for the proxied ones
abbrev pub owned : RoleImage → Mac → ℕ → Bool
owned r mac now = mac_eq mac r.mac || is_proxied r mac now

-- the lowest bit of the first octet is set
abbrev pub is_group : Mac → Bool
is_group mac = slice_index mac.0 0 % 2 == 1
