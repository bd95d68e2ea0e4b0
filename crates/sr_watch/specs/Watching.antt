-- What is kept of many sources.
use Rattle.std.specs.Prelude.{◌≡◌, ℕ, ◌≤◌, Bool, List, [], ◌∷◌, ◌++◌, length, filter, Option, Some, None, is_some, if◌then◌else◌}
use Rattle.std.specs.List.{list_any}
use Rattle.std.specs.Map.{lookup, set_value}
use Rattle.sr_frame.specs.declared.fields.Mac.{Mac}
use Rattle.sr_frame.specs.Addresses.{mac_eq}
use Rattle.sr_audit.specs.declared.arrival.Arrival.{Arrival}
use Rattle.sr_audit.specs.Audits.{Sent, of}
use Rattle.sr_audit.specs.Limits.{exact_arrivals}
use Rattle.sr_audit.specs.Shown.{bounded_sum}
use Rattle.sr_audit.specs.Stretches.{stretches, current}
use Rattle.sr_audit.specs.Waiting.{waits_of}
use Rattle.sr_watch.specs.declared.alarm.Alarm.{Alarm}
use Rattle.sr_watch.specs.declared.alarm.SourceAlarm.{SourceAlarm}
use Rattle.sr_watch.specs.declared.report.SourceLine.{SourceLine}
use Rattle.sr_watch.specs.declared.settings.Settings.{Settings}
use Rattle.sr_watch.specs.declared.tracked.Tracked.{Tracked}
use Rattle.sr_watch.specs.Changed.{changes_between, sum_of, total_of, as_changes}
use Rattle.sr_watch.specs.Counted.{counted_of, lasts_of}
use Rattle.sr_watch.specs.Tracking.{Watched, ChecksAlarm}

-- the lines of one source, newest first
abbrev pub lines_about : Mac → List SourceLine → List SourceLine
lines_about m [] = []
lines_about m (line ∷ before) = if mac_eq m line.source then line ∷ lines_about m before else lines_about m before

-- what is kept of a source says of its arrivals that were noted, and its lines; of one without an entry there is neither
abbrev pub IsWatchedFor : List Arrival → List SourceLine → Option Tracked → Type 0
IsWatchedFor xs lines None = (xs ≡ []) × (lines ≡ [])
IsWatchedFor xs lines (Some t) = Watched xs lines t

-- these arrivals were noted and these lines were told, newest first: each source says of its own
pub record Watches (xs : List Sent) (lines : List SourceLine) (entries : List (Mac × Tracked)) : Type 0 where
  pub each : (m : Mac) → IsWatchedFor (of m xs) (lines_about m lines) (lookup (mac_eq m) entries)

-- a source has an entry
abbrev pub is_tabled : List (Mac × Tracked) → Mac → Bool
is_tabled entries m = is_some (lookup (mac_eq m) entries)

-- the sources that have an entry, in the order of first hearing, with a source that gets one where it has none
abbrev pub with_entry_of : Mac → List Mac → List Mac
with_entry_of m tabled = if list_any (mac_eq m) tabled then tabled else tabled ++ m ∷ []

-- those, behind an arrival of a source that then has an entry, or none
abbrev pub tabled_with : Bool → Mac → List Mac → List Mac
tabled_with known m tabled = if known then with_entry_of m tabled else tabled

-- how many arrivals are left out, with one more of a source that has an entry or not
abbrev pub left_out_with : Bool → ℕ → ℕ
left_out_with known count = if known then count else bounded_sum count 1

-- the arrivals and the lines of some sources
abbrev pub those_sent : (Mac → Bool) → List Sent → List Sent
those_sent stays xs = filter (λ x. stays x.0) xs

abbrev pub lines_by : (Mac → Bool) → List SourceLine → List SourceLine
lines_by stays lines = filter (λ line. stays line.source) lines

-- a line of a source tells what no line of it before told, of all of its arrivals that were noted, up to a mark: and all lines of the
-- source together are what an audit has of these arrivals
pub record TellsSource (mark : ℕ) (src : Mac) (old new : List (Mac × Tracked)) (line : SourceLine) : Type 0 where
  pub source : line.source ≡ src
  pub total : (xs : List Sent) (lines : List SourceLine) → length (of src xs) ≤ exact_arrivals → Watches xs lines old →
      line.total ≡ counted_of mark (of src xs)
  pub last : (xs : List Sent) (lines : List SourceLine) → Watches xs lines old → line.last ≡ lasts_of (of src xs)
  pub waiting : (xs : List Sent) (lines : List SourceLine) → length (of src xs) ≤ exact_arrivals → Watches xs lines old →
      line.waiting ≡ waits_of mark (current (stretches (of src xs)))
  pub since : (xs : List Sent) (lines : List SourceLine) → Watches xs lines old →
      line.interval ≡ changes_between (total_of (lines_about src lines)) line.total
  pub together : (xs : List Sent) (lines : List SourceLine) → length (of src xs) ≤ exact_arrivals → Watches xs lines old →
      sum_of (lines_about src (line ∷ lines)) ≡ as_changes (counted_of mark (of src xs))
  pub keeps : (xs : List Sent) (lines : List SourceLine) → Watches xs lines old → Watches xs (line ∷ lines) new

-- an alarm of a source was checked
pub record ChecksOf (alarm : SourceAlarm) (mark : ℕ) (settings : Settings) (src : Mac)
    (old new : List (Mac × Tracked)) (told : Option Alarm) : Type 0 where
  pub was : Tracked
  pub is : Tracked
  pub found : lookup (mac_eq src) old ≡ Some was
  pub checks : ChecksAlarm alarm mark settings was is told
  pub written : new ≡ set_value (mac_eq src) old is
  pub keeps : (xs : List Sent) (lines : List SourceLine) → Watches xs lines old → Watches xs lines new
