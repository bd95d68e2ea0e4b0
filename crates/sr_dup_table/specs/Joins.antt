-- The join of two tables, source by source.
use Rattle.std.specs.Prelude.{◌≡◌, ℕ, ◌+◌, Bool, false, not, is_some, nat_eq, nat_lt, max}
use Rattle.std.specs.Prelude.{[], ◌∷◌, ◌++◌, length, filter, find, Option, None, Some, if◌then◌else◌}
use Rattle.std.specs.Map.{lookup, set_value, keys_of}
use Rattle.std.specs.Option.{option_map}
use Rattle.sr_frame.specs.declared.fields.Mac.{Mac}
use Rattle.sr_frame.specs.Addresses.{mac_eq}
use Rattle.sr_sequence.specs.Places.{steps}
use Rattle.sr_dup_window.specs.Windows.{window_merged}
use Rattle.sr_dup_table.specs.declared.fault.DupFault.{DupFault}
use Rattle.sr_dup_table.specs.declared.fault.DupFault.TheVariants.{TableFull, Apart, OtherWidth}
use Rattle.sr_dup_table.specs.Limits.{most_sources}
use Rattle.sr_dup_table.specs.Sources.{Remembered, Sources, Table, live_at}

-- the numbers of both records, and the later of their times
abbrev pub joined_heard : ℕ → Remembered → Remembered → Remembered
joined_heard w a b = record { seen = window_merged w a.seen b.seen; time = max a.time b.time }

-- what both have of an address
abbrev pub joined : ℕ → Option Remembered → Option Remembered → Option Remembered
joined w None other = other
joined w (Some a) None = Some a
joined w (Some a) (Some b) = Some (joined_heard w a b)

-- the sources that other ones lack
abbrev pub lacking_in : Sources → Sources → Sources
lacking_in s t = filter (λ e. not (is_some (lookup (mac_eq e.0) s))) t

-- of each address what both have; first the sources of the one in their order, and then those that the other alone has
pub record IsJoin (w : ℕ) (one other both : Sources) : Type 0 where
  pub each : (src : Mac) → lookup (mac_eq src) both ≡ joined w (lookup (mac_eq src) one) (lookup (mac_eq src) other)
  pub order : keys_of both ≡ keys_of one ++ keys_of (lacking_in one other)

-- how many sources the join has
abbrev pub join_count : Sources → Sources → ℕ
join_count one other = length one + length (lacking_in one other)

-- two greatest numbers that are half of all numbers apart
abbrev pub is_apart : Option Remembered → Remembered → Bool
is_apart None b = false
is_apart (Some a) b = nat_eq (steps a.seen.reference b.seen.reference) 32768

-- the first source of the other table whose records are apart
abbrev pub first_apart : Sources → Sources → Option Mac
first_apart one other = option_map (λ e. e.0) (find (λ e. is_apart (lookup (mac_eq e.0) one) e.1) other)

-- why two tables have no join: there are too many sources, or else two records are apart
abbrev pub join_fault : Sources → Sources → Option DupFault
join_fault one other = if nat_lt most_sources (join_count one other) then Some TableFull else option_map Apart (first_apart one other)

-- why two tables do not merge at a time: their widths differ, or else what is live in them has no join
abbrev pub merge_fault : Table → Table → ℕ → Option DupFault
merge_fault one other now =
    if nat_eq one.width other.width then join_fault (live_at now one.sources) (live_at now other.sources) else Some OtherWidth

-- a source of the other table that is new, or whose records are apart, beside what the one table has of it
abbrev pub new_source : Option Remembered → Mac × Remembered → Sources
new_source known e = if is_some known then [] else e ∷ []

abbrev pub apart_source : Option Remembered → Mac × Remembered → Option Mac
apart_source known e = if is_apart known e.1 then Some e.0 else None

-- the first of two
abbrev pub or_else : Option Mac → Option Mac → Option Mac
or_else None second = second
or_else (Some first) second = Some first

-- one source joined to others
abbrev pub put_with : ℕ → Option Remembered → Sources → Mac × Remembered → Sources
put_with w None s e = s ++ e ∷ []
put_with w (Some h) s e = set_value (mac_eq e.0) s (joined_heard w h e.1)

abbrev pub with_source : ℕ → Sources → Mac × Remembered → Sources
with_source w s e = put_with w (lookup (mac_eq e.0) s) s e

-- several, one after another
abbrev pub with_sources : ℕ → Sources → Sources → Sources
with_sources w s [] = s
with_sources w s (e ∷ t) = with_sources w (with_source w s e) t
