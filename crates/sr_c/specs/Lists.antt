-- What a C program is told in an array of its own.
use Rattle.std.specs.Prelude.{◌≡◌, ◌⊎◌, ◌≤◌, ℕ, ◌+◌, min, List, ◌++◌, length, take, drop, map, nat_le, if◌then◌else◌}
use Rattle.sr_dup_snapshots.specs.Snapshots.{IsSnapshot}
use Rattle.sr_endpoint.specs.AlarmLogs.{Log, Looks, after_look, kept_from, missed_from}
use Rattle.sr_node.specs.Limits.{greatest_count}
use Rattle.sr_endpoint.specs.declared.endpoint.Endpoint.{Endpoint}
use Rattle.sr_endpoint.specs.Endpoints.{state_by}
use Rattle.sr_c.specs.declared.entries.AlarmEntry.{AlarmEntry}
use Rattle.sr_c.specs.declared.entries.CursorEntry.{CursorEntry}
use Rattle.sr_c.specs.Codes.{no_memory}
use Rattle.sr_c.specs.Entries.{alarm_entry}

-- as many of a list as there is room for, in place of the first of an array
abbrev pub put_front : {E : Type 0} → List E → List E → List E
put_front told old = take (min (length told) (length old)) told ++ drop (min (length told) (length old)) old

-- a list is put at the front of an array, as far as there is room, and its length into a count
abbrev pub PutsList : {E : Type 0} → List E → ℕ → List E → List E → ℕ → Type 0
PutsList told code old new count = (code ≡ 0) × (new ≡ put_front told old) × (count ≡ length told)

-- so; or an allocation failed, and array and count stay
abbrev pub PutsListOrNoMemory : {E : Type 0} → List E → ℕ → List E → List E → ℕ → ℕ → Type 0
PutsListOrNoMemory told code old new before count =
    PutsList told code old new count ⊎ ((code ≡ no_memory) × (new ≡ old) × (count ≡ before))

-- all of a list in place of the first of an array, where there is room for all
abbrev pub put_whole : List ℕ → List ℕ → List ℕ
put_whole told old = if nat_le (length told) (length old) then told ++ drop (length told) old else old

-- the snapshot of a node is put at the front of a buffer, where there is room for it, and its length into a count; or an allocation
-- failed, and both stay
abbrev pub WritesSnapshot : Endpoint → ℕ → List ℕ → List ℕ → ℕ → ℕ → Type 0
WritesSnapshot e code old new before count =
    ((octets : List ℕ) × IsSnapshot (state_by e).core.width octets (state_by e).core.sources
    × (code ≡ 0) × (new ≡ put_whole octets old) × (count ≡ length octets))
    ⊎ ((code ≡ no_memory) × (new ≡ old) × (count ≡ before))

-- the cursor after so many alarms from its number on were told
abbrev pub moved_on : Log → ℕ → ℕ → CursorEntry
moved_on log number room = let told = min (length (kept_from log number)) room in record {
  number = min (number + missed_from log number + told) greatest_count;
  missed = missed_from log number;
  count = told;
}

-- the alarms from a number on, as entries
abbrev pub kept_entries : Log → ℕ → List AlarmEntry
kept_entries log number = map alarm_entry (kept_from log number)

-- the alarms from a number on are put at the front of an array, as far as there is room; or an allocation failed, and
-- array and cursor stay
abbrev pub TellsAlarmsSince : Endpoint → Endpoint → ℕ → CursorEntry → CursorEntry → List AlarmEntry → List AlarmEntry → Type 0
TellsAlarmsSince e f code at moved old new =
    ((code ≡ 0) × (f.log ≡ after_look e.log (state_by e).core.nodes.alarms)
    × (new ≡ put_front (kept_entries f.log at.number) old) × (moved ≡ moved_on f.log at.number (length old)))
    ⊎ ((code ≡ no_memory) × (new ≡ old) × (moved ≡ at) × Looks (state_by e).core.nodes.alarms e.log f.log)
