-- What is pending of each of many sources says of their arrivals, and which sources are listed.
use Rattle.std.specs.Prelude.{◌≡◌, ℕ, ◌+◌, ◌-◌, ◌^◌, ◌<◌, ◌≤◌, ◌⊎◌, nat_le, nat_lt, Bool, true, false, ◌&&◌, ◌||◌, List, [], ◌∷◌, ◌++◌}
use Rattle.std.specs.Prelude.{length, Option, Some, None, MatchBool, if◌then◌else◌}
use Rattle.std.specs.List.{list_any}
use Rattle.std.specs.Map.{lookup, set_value, keys_of}
use Rattle.sr_frame.specs.declared.fields.Mac.{Mac}
use Rattle.sr_frame.specs.Addresses.{mac_eq}
use Rattle.sr_audit.specs.declared.arrival.Arrival.{Arrival}
use Rattle.sr_audit.specs.declared.listing.Copied.{Copied}
use Rattle.sr_audit.specs.declared.listing.Listed.{Listed}
use Rattle.sr_audit.specs.declared.pending.Pending.{Pending}
use Rattle.sr_audit.specs.declared.span.Spans.{Spans}
use Rattle.sr_audit.specs.Edges.{KeepsTimes}
use Rattle.sr_audit.specs.Fates.{KeepsFates}
use Rattle.sr_audit.specs.Limits.{listed_at_once, most_audited}
use Rattle.sr_audit.specs.Listings.{KeepsPlaces, SettlesAll, ListsArrival, ListsEnd}
use Rattle.sr_audit.specs.Stretches.{stretches, current}
use Rattle.sr_audit.specs.Taken.{IsKeptIn}

-- room is made by the first arrival that is taken
abbrev pub IsRoomMade : List Arrival → Pending → Type 0
IsRoomMade [] p = p.fates.items ≡ []
IsRoomMade (x ∷ before) p = KeepsPlaces p

-- of a source that is listed each arrival is taken, and of another none
abbrev pub taken_if : Bool → List Arrival → List Arrival
taken_if is_listed xs = if is_listed then xs else []

-- what is pending of a source says of its arrivals, newest first
pub record HasPending (xs : List Arrival) (p : Pending) : Type 0 where
  pub numbers : IsKeptIn (taken_if p.is_listed xs) p.numbers
  pub room : IsRoomMade (taken_if p.is_listed xs) p
  pub fates : KeepsFates (current (stretches (taken_if p.is_listed xs))) p
  pub times : KeepsTimes (current (stretches (taken_if p.is_listed xs))) p.times.items

-- the source's next arrival was taken, and what it decides was listed, if the source is listed
pub record NotesNext (spans : Spans) (x : Copied) (old new : Pending) (before after : List Listed) : Type 0 where
  pub is_listed : new.is_listed ≡ old.is_listed
  pub taken : (xs : List Arrival) → length xs + 1 < 2 ^ 64 → HasPending xs old → HasPending (x.arrival ∷ xs) new
  pub listed : old.is_listed ≡ true → (xs : List Arrival) → HasPending xs old →
      ListsArrival spans (stretches xs) x old new before after
  pub passed : old.is_listed ≡ false → after ≡ before

-- nothing waits of a source, or no arrival of it was taken
abbrev pub LeavesNothing : List Arrival → Pending → Type 0
LeavesNothing xs p = (taken_if p.is_listed xs ≡ []) ⊎ SettlesAll p

-- all that waits was listed, at the end of a source's arrivals
pub record EndsListing (spans : Spans) (src : Mac) (old new : Pending) (before after : List Listed) : Type 0 where
  pub is_listed : new.is_listed ≡ old.is_listed
  pub listed : (xs : List Arrival) → HasPending xs old →
      ListsEnd spans old src (stretches (taken_if old.is_listed xs)) before after
  pub settled : (xs : List Arrival) → HasPending xs old → LeavesNothing xs new

-- the arrivals of one source among copies, newest first
abbrev pub arrivals_from : Mac → List Copied → List Arrival
arrivals_from m [] = []
arrivals_from m (x ∷ before) = if mac_eq m x.src then x.arrival ∷ arrivals_from m before else arrivals_from m before

-- a source before which so many were heard is listed, where it is one of the 512 from the first one on
abbrev pub is_listed_at : ℕ → ℕ → Bool
is_listed_at first rank = nat_le first rank && nat_lt (rank - first) listed_at_once

-- of sources in the order of first hearing, the first of which has this rank, those are listed
abbrev pub AreListedFrom : ℕ → ℕ → List (Mac × Pending) → Type 0
AreListedFrom first rank [] = Unit {0}
AreListedFrom first rank (e ∷ rest) = (e.1.is_listed ≡ is_listed_at first rank) × AreListedFrom first (rank + 1) rest

-- a new source goes last, up to the 1024th
abbrev pub heard_with : Mac → List Mac → List Mac
heard_with m sources =
    if list_any (mac_eq m) sources || nat_le most_audited (length sources) then sources else sources ++ m ∷ []

-- what is pending of a source says of its arrivals; nothing is where none came, or where 1024 sources came before
abbrev pub IsPendingFor : ℕ → List Arrival → Option Pending → Type 0
IsPendingFor count xs None = (xs ≡ []) ⊎ (most_audited ≤ count)
IsPendingFor count xs (Some p) = HasPending xs p

-- these copies were noted, newest first, where 512 sources are listed from the first one on
pub record KeepsSources (first : ℕ) (xs : List Copied) (sources : List (Mac × Pending)) : Type 0 where
  pub each : (m : Mac) → IsPendingFor (length sources) (arrivals_from m xs) (lookup (mac_eq m) sources)
  pub are_listed : AreListedFrom first 0 sources

-- what was pending of a source, where it was heard before
abbrev pub IsWas : Option Pending → Pending → Type 0
IsWas None p = Unit {0}
IsWas (Some was) p = p ≡ was

-- what is listed of a copy, by what was pending of its source and what is: what it decides, if the source is listed
abbrev pub ListsCopy : Spans → List Arrival → Copied → Option Pending → Option Pending → List Listed → List Listed → Type 0
ListsCopy spans xs x was None before after = after ≡ before
ListsCopy spans xs x was (Some new) before after =
    MatchBool new.is_listed ((old : Pending) × IsWas was old × ListsArrival spans (stretches xs) x old new before after) (after ≡ before)

-- what is listed at the end of a source's arrivals, by what was pending of it: all that waits, if it is listed
abbrev pub ListsLast : Spans → Mac → List Arrival → Option Pending → List Listed → List Listed → Type 0
ListsLast spans src xs None before after = after ≡ before
ListsLast spans src xs (Some p) before after = ListsEnd spans p src (stretches (taken_if p.is_listed xs)) before after

-- at most what is pending of one source is another than before; the sources, their order and which are listed stay
pub record ChangesAtMost (src : Mac) (old new : List (Mac × Pending)) : Type 0 where
  pub order : keys_of new ≡ keys_of old
  pub others : (m : Mac) → mac_eq m src ≡ false → lookup (mac_eq m) new ≡ lookup (mac_eq m) old
  pub are_listed : (first : ℕ) → AreListedFrom first 0 old → AreListedFrom first 0 new

-- what is pending of a source took its next arrival
pub record NotesAt (spans : Spans) (x : Copied) (old new : List (Mac × Pending)) (before after : List Listed) : Type 0 where
  pub was : Pending
  pub is : Pending
  pub found : lookup (mac_eq x.src) old ≡ Some was
  pub written : new ≡ set_value (mac_eq x.src) old is
  pub notes : NotesNext spans x was is before after

-- all that was pending of a source was listed
pub record EndsSource (spans : Spans) (src : Mac) (old new : List (Mac × Pending)) (before after : List Listed) : Type 0 where
  pub was : Pending
  pub is : Pending
  pub found : lookup (mac_eq src) old ≡ Some was
  pub written : new ≡ set_value (mac_eq src) old is
  pub ends : EndsListing spans src was is before after
