-- Values that are forgotten when their address is silent, and what a table knows of their times.
use Rattle.std.specs.Prelude.{◌≡◌, ℕ, ◌-◌, ◌<◌, ◌≤◌, Bool, true, nat_lt, List, length, filter, if◌then◌else◌}
use Rattle.sr_frame.specs.declared.fields.Mac.{Mac}
use Rattle.sr_slots.specs.Calls.{least_rank}
use Rattle.sr_aged_slots.specs.declared.aged.Aged.{Aged}

-- a time less than `span` ago; a later time counts as now
abbrev pub is_recent : ℕ → ℕ → ℕ → Bool
is_recent span now time = nat_lt (now - time) span

-- of whatever has a time, what is not forgotten
module _ {X : Type 0} (time : X → ℕ) where
  abbrev pub live_by : ℕ → ℕ → List (Mac × X) → List (Mac × X)
  live_by span now es = filter (λ e. is_recent span now (time e.1)) es

  -- a table of `most` lets its forgotten ones go
  abbrev pub room_by : ℕ → ℕ → ℕ → List (Mac × X) → List (Mac × X)
  room_by span most now es = if nat_lt (length es) most then es else live_by span now es

module _ {V : Type 0} where
  -- the values that are not forgotten
  abbrev pub live_at : ℕ → ℕ → List (Mac × Aged V) → List (Mac × Aged V)
  live_at span now es = live_by (λ v. v.time) span now es

  -- the values of a table, of which a full one lets the forgotten ones go
  abbrev pub with_room : ℕ → ℕ → ℕ → List (Mac × Aged V) → List (Mac × Aged V)
  with_room span most now es = room_by (λ v. v.time) span most now es

  -- the oldest time, or the latest of all times where there is no value
  abbrev pub oldest_of : List (Mac × Aged V) → ℕ
  oldest_of es = least_rank (λ v. v.time) es

  -- at most so many values; none is older than this time, and where that is exact one is just as old
  pub record IsBounded (span most : ℕ) (es : List (Mac × Aged V)) (oldest : ℕ) (is_exact : Bool) : Type 0 where
    pub some_span : 0 < span
    pub few : length es ≤ most
    pub none_older : oldest ≤ oldest_of es
    pub some_as_old : is_exact ≡ true → oldest_of es ≡ oldest
