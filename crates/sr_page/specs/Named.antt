-- Names of nodes.
use Rattle.std.specs.Prelude.{◌≡◌, ◌<◌, ℕ, true, false, List, length, take}
use Rattle.std.specs.List.{All, HoldsAt}
use Rattle.sr_frame.specs.Addresses.{mac_eq}
use Rattle.sr_frame.specs.declared.fields.Mac.{Mac}
use Rattle.sr_page.specs.declared.names.NodeName.{NodeName}

-- the first so many names are of other addresses
abbrev pub AreOthers : List NodeName → Mac → ℕ → Type 0
AreOthers names mac count = All (λ n. mac_eq n.mac mac ≡ false) (take count names)

-- it is the place of the first name of an address
abbrev pub IsFirstName : List NodeName → Mac → ℕ → Type 0
IsFirstName names mac at = (at < length names) × HoldsAt (λ n. mac_eq n.mac mac ≡ true) names at × AreOthers names mac at
