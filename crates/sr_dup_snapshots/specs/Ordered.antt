-- Sources in another order.
use Rattle.std.specs.Prelude.{List, [], ◌∷◌, Option, None, Some}
use Rattle.std.specs.List.{flat_map}
use Rattle.std.specs.Map.{lookup}
use Rattle.sr_frame.specs.declared.fields.Mac.{Mac}
use Rattle.sr_frame.specs.Addresses.{mac_eq}
use Rattle.sr_dup_table.specs.Sources.{Remembered, Sources}

-- the source at an address, if there is one
abbrev pub source_at : Mac → Option Remembered → Sources
source_at src None = []
source_at src (Some heard) = (src, heard) ∷ []

-- the sources that stand at these addresses
abbrev pub sources_at : Sources → List Mac → Sources
sources_at s macs = flat_map (λ src. source_at src (lookup (mac_eq src) s)) macs
