-- What an audit of many sources says of their arrivals.
use Rattle.std.specs.Prelude.{◌≡◌, ℕ, ◌≤◌, ◌⊎◌, List, [], ◌∷◌, length, Option, Some, None, is_some, if◌then◌else◌}
use Rattle.std.specs.Prelude.{◌-◌, ◌^◌, min, not, count_by}
use Rattle.std.specs.Map.{lookup}
use Rattle.sr_frame.specs.declared.fields.Mac.{Mac}
use Rattle.sr_frame.specs.Addresses.{mac_eq}
use Rattle.sr_audit.specs.declared.arrival.Arrival.{Arrival}
use Rattle.sr_audit.specs.declared.source.Source.{Source}
use Rattle.sr_audit.specs.declared.span.Spans.{Spans}
use Rattle.sr_audit.specs.Limits.{most_audited}
use Rattle.sr_audit.specs.Taken.{HasTaken}

-- an arrival and its source
abbrev pub Sent : Type 0
Sent = Mac × Arrival

-- the arrivals of one source, newest first
abbrev pub of : Mac → List Sent → List Arrival
of m [] = []
of m (x ∷ before) = if mac_eq m x.0 then x.1 ∷ of m before else of m before

-- what is kept of a source says of its arrivals; nothing is kept where none came, or where so many sources came before
abbrev pub IsEntryFor : Spans → ℕ → List Arrival → Option Source → Type 0
IsEntryFor spans count xs None = (xs ≡ []) ⊎ (most_audited ≤ count)
IsEntryFor spans count xs (Some s) = HasTaken spans xs s

-- these arrivals were taken, newest first: each source says of its own
pub record Audits (spans : Spans) (xs : List Sent) (entries : List (Mac × Source)) : Type 0 where
  pub each : (m : Mac) → IsEntryFor spans (length entries) (of m xs) (lookup (mac_eq m) entries)

-- how many of some arrivals are of sources without an entry
abbrev pub left_out_of : List (Mac × Source) → List Sent → ℕ
left_out_of entries xs = count_by (λ x. not (is_some (lookup (mac_eq x.0) entries))) xs

-- a count is that of the arrivals of sources without an entry, up to 2^64 - 1
abbrev pub IsLeftOut : List (Mac × Source) → List Sent → ℕ → Type 0
IsLeftOut entries xs count = count ≡ min (left_out_of entries xs) (2 ^ 64 - 1)
