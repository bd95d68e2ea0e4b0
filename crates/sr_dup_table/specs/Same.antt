-- When two tables know the same, in whatever order.
use Rattle.std.specs.Prelude.{◌≡◌, Bool, false, Option, None, Some}
use Rattle.std.specs.List.{list_all}
use Rattle.std.specs.Map.{lookup}
use Rattle.sr_frame.specs.declared.fields.Mac.{Mac}
use Rattle.sr_frame.specs.Addresses.{mac_eq}
use Rattle.sr_dup_table.specs.Sources.{Remembered, Sources, same_remembered}

-- of each address both have the same record and time, or none
abbrev pub AreSame : Sources → Sources → Type 0
AreSame s t = (src : Mac) → lookup (mac_eq src) s ≡ lookup (mac_eq src) t

-- whether this is what is there
abbrev pub is_record : Option Remembered → Remembered → Bool
is_record None h = false
is_record (Some g) h = same_remembered g h

-- whether the sources have just this of an address
abbrev pub has_source : Sources → Mac × Remembered → Bool
has_source t e = is_record (lookup (mac_eq e.0) t) e.1

-- whether they have each of these
abbrev pub has_all : Sources → Sources → Bool
has_all t s = list_all (has_source t) s

-- being the same is an equivalence
pub record SameIsAnEquivalence : Type 0 where
  pub reflexive : (s : Sources) → AreSame s s
  pub symmetric : (s t : Sources) → AreSame s t → AreSame t s
  pub transitive : (s t u : Sources) → AreSame s t → AreSame t u → AreSame s u
