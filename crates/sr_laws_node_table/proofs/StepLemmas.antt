-- Step by step, a table is what the hearings say.
use Rattle.std.proofs.Common.{◌≡◌, ℕ, ◌<◌, ◌≤◌, Bool, true, false, cond, not, ◌&&◌, nat_lt, List, [], ◌∷◌, ◌++◌, length, filter, Option, None, Some, refl, sym, ap, ◌∙◌, subst, append-nil, arith}
use Rattle.std.specs.Prelude.{nat_le}
use Rattle.std.specs.List.{flat_map, IsDistinct, AllByRecursion}
use Rattle.std.specs.Map.{lookup, set_value}
use Rattle.std.proofs.lemmas.Bool.{ltb-true, false_from_ne_true}
use Rattle.std.proofs.lemmas.List.{length-append, map-append}
use Rattle.std.proofs.lemmas.List.Elements.{filter_agree}
use Rattle.circular_buffer.specs.Buffer.{keep_last}
use Rattle.sr_frame.specs.declared.fields.Mac.{Mac}
use Rattle.sr_frame.specs.declared.ports.Port.{Port}
use Rattle.sr_frame.specs.Addresses.{mac_eq}
use Rattle.sr_node_table.specs.declared.alarm.Alarm.{Alarm}
use Rattle.sr_node_table.specs.Nodes.{Hearing, Entry, Table, is_live, live_at, with_room, entry_begun, entry_after, downs_of, downs_at, raised, kept_by, answer_to, after_hearing}
use Rattle.sr_node_table.specs.Watching.{after_prune, late_at, alarms_at}
use Rattle.sr_node_table.specs.Hearings.{is_heard, Event, Hears, Prunes, table_after, AreUpTo, is_kept}
use Rattle.sr_laws_node_table.specs.Kept.{of_address, is_live_by, addresses, others_live, finds_room, kept_in, kept_of}
use Rattle.sr_laws_node_table.specs.Entered.{has_entry, is_filled, makes_entry, removal_in, makers_in, entered}
use Rattle.sr_laws_node_table.specs.Raised.{down_alarm, prune_alarms, raised_in}
use Rattle.sr_laws_node_table.proofs.AddressListLemmas.{has, has-filter, distinct_none, distinct_filter, distinct_push, all_pass, all_weaker}
use Rattle.sr_laws_node_table.proofs.EntryLemmas.{with_each, length-with_each, lookup-with_each, with_each-other, set-with_each, filter-with_each}
use Rattle.sr_laws_node_table.proofs.HeardLemmas.{AreBefore, before-filter, heard_before, entry_by, begun-entry_by, after-entry_by}
use Rattle.sr_laws_node_table.proofs.LateLemmas.{late_by, late_then}
use Rattle.sr_laws_node_table.proofs.AlarmLemmas.{last_again, shown_by, shown_live, downs_are, alarms_are, late_are}
use Rattle.sr_laws_node_table.proofs.StandingLemmas.{AreMade, entered_by, entered_have, entered_live, entered_again, entered_new, entered_removing, length-filter_le, addresses_first, addresses_more, of_other, of_own, kept_before, removal_le}
use Rattle.sr_laws_node_table.proofs.RoomLemmas.{count_entered, count_others, others_all, lt_or, after_is, kept_is}

-- a table has the entries, the late ports and the alarms that these hearings, removals and alarms tell
pub record Matches (hs : List Hearing) (removal : ℕ) (makers : List Hearing) (told : List Alarm) (found : Mac → Option Port) (t : Table) : Type 0 where
  pub entries : t.entries ≡ with_each (shown_by hs) (entered_by hs removal makers)
  pub distinct : IsDistinct mac_eq (entered_by hs removal makers)
  pub made : AreMade hs removal makers
  pub few : length (entered_by hs removal makers) ≤ 1024
  pub late : (m : Mac) → lookup (mac_eq m) t.late ≡ found m
  pub alarms : t.alarms ≡ keep_last 64 told

pub all_entered : (hs makers : List Hearing) (removal : ℕ) → AllByRecursion (λ m. is_live_by hs removal m ≡ true) (entered_by hs removal makers)
all_entered hs makers removal = all_pass (is_live_by hs removal) (addresses makers)

more_raised : (t : Table) (alarms more : List Alarm) (new : List Alarm) → t.alarms ≡ keep_last 64 alarms → new ≡ more → raised t.alarms new ≡ keep_last 64 (alarms ++ more)
more_raised t alarms more new was is = (λ j. keep_last 64 (was j ++ is j)) ∙ last_again 64 alarms more

-- the entries of live addresses stay where they were
module _ (hs makers : List Hearing) (removal now : ℕ) (order : AreBefore now hs) (le : removal ≤ now) where
  abbrev ks : List Mac
  ks = entered_by hs removal makers

  live_entries : live_at now (with_each (shown_by hs) ks) ≡ with_each (shown_by hs) (filter (is_live_by hs now) ks)
  live_entries = filter-with_each (shown_by hs) (is_live now) (is_live_by hs now) ks
      (all_weaker (λ m. is_live_by hs removal m ≡ true) (λ m. is_live now (shown_by hs m) ≡ is_live_by hs now m) (λ m e. shown_live hs now removal order now m e) ks (all_entered hs makers removal))

-- a prune
prunes : (events : List Event) (now removal : ℕ) (makers : List Hearing) (alarms : List Alarm) (t : Table)
    → AreBefore now (kept_in events) → removal ≤ now → Matches (kept_in events) removal makers alarms (λ m. late_then m events) t
    → Matches (kept_in events) now makers (alarms ++ flat_map (prune_alarms now events) (entered_by (kept_in events) removal makers)) (λ m. late_by (kept_of m events) now) (after_prune t now)
prunes events now removal makers alarms t order le was =
    let hs = kept_in events in
    let ks = entered_by hs removal makers in
    let is : entered_by hs now makers ≡ filter (is_live_by hs now) ks = entered_live hs makers removal now le in
    record {
      entries = ap (live_at now) was.entries ∙ live_entries hs makers removal now order le ∙ ap (with_each (shown_by hs)) (sym is);
      distinct = subst (IsDistinct mac_eq) (sym is) (distinct_filter (is_live_by hs now) ks was.distinct);
      made = λ m e. was.made m (heard_before (of_address m hs) removal now le e);
      few = omega (arith, ap length is, length-filter_le (is_live_by hs now) ks, was.few);
      late = λ m. ap (λ es. lookup (mac_eq m) (late_at now es)) was.entries ∙ late_are events now removal order ks (entered_have hs makers removal was.made) (all_entered hs makers removal) le m;
      alarms = more_raised t alarms (flat_map (prune_alarms now events) ks) _ was.alarms
          (ap (λ es. alarms_at t.late now es) was.entries ∙ alarms_are events now removal order t.late was.late ks (all_entered hs makers removal));
    }

module _ (h : Hearing) (hs makers : List Hearing) (removal : ℕ) (alarms : List Alarm) (late : Mac → Option Port) (t : Table) (order : AreBefore h.time hs) (le : removal ≤ h.time)
    (was : Matches hs removal makers alarms late t) where
  abbrev at : List Mac
  at = entered_by hs removal makers

  -- what is heard of others stays
  others_shown : (k : Mac) → mac_eq h.mac k ≡ false → shown_by hs k ≡ shown_by (h ∷ hs) k
  others_shown k e = ap entry_by (sym (of_other h hs k e))

  order_own : AreBefore h.time (of_address h.mac hs)
  order_own = before-filter (λ x. mac_eq x.mac h.mac) h.time hs order

  -- a hearing that finds no room
  refused : Matches hs removal makers (alarms ++ []) late t
  refused = record { entries = was.entries; distinct = was.distinct; made = was.made; few = was.few; late = was.late; alarms = was.alarms ∙ ap (keep_last 64) (sym (append-nil alarms)) }

  -- one of an address that has an entry
  again : has_entry hs removal h.mac ≡ true → Matches (h ∷ hs) removal makers (alarms ++ []) late (kept_by (Some (shown_by hs h.mac)) t h)
  again e =
      let is : entered_by (h ∷ hs) removal makers ≡ at = filter_agree (has_entry (h ∷ hs) removal) (has_entry hs removal) (entered_again h hs makers removal e) (addresses makers) in
      let next : entry_after (shown_by hs h.mac) h.port h.told h.time ≡ shown_by (h ∷ hs) h.mac = after-entry_by h (of_address h.mac hs) removal order_own e ∙ ap entry_by (sym (of_own h hs)) in
      record {
        entries = (λ j. set_value (mac_eq h.mac) (was.entries j) (next j)) ∙ set-with_each (shown_by hs) (shown_by (h ∷ hs)) h.mac others_shown at was.distinct ∙ ap (with_each (shown_by (h ∷ hs))) (sym is);
        distinct = subst (IsDistinct mac_eq) (sym is) was.distinct;
        made = λ m l. was.made m (sym (entered_again h hs makers removal e m) ∙ l);
        few = omega (arith, ap length is, was.few);
        late = was.late;
        alarms = was.alarms ∙ ap (keep_last 64) (sym (append-nil alarms));
      }

  module _ (none : has_entry hs removal h.mac ≡ false) where
    silent : is_heard (of_address h.mac hs) h.time ≡ false
    silent = false_from_ne_true (is_heard (of_address h.mac hs) h.time) (λ l. let bad : true ≡ false = sym (heard_before (of_address h.mac hs) removal h.time le l) ∙ none in absurd cc)

    begun : entry_begun h.port h.told h.time ≡ shown_by (h ∷ hs) h.mac
    begun = begun-entry_by h (of_address h.mac hs) silent ∙ ap entry_by (sym (of_own h hs))

    absent : has at h.mac ≡ false
    absent = entered_have hs makers removal was.made h.mac ∙ none

    -- the new entry behind those that stay
    pushed : (stay : List Mac) (new : List (Mac × Entry)) → has stay h.mac ≡ false → new ≡ with_each (shown_by hs) stay
        → new ++ (h.mac, entry_begun h.port h.told h.time) ∷ [] ≡ with_each (shown_by (h ∷ hs)) (stay ++ h.mac ∷ [])
    pushed stay new gone is =
        (λ j. (is ∙ with_each-other (shown_by hs) (shown_by (h ∷ hs)) h.mac others_shown stay gone) j ++ (h.mac, begun j) ∷ [])
        ∙ sym (map-append (λ k. (k, shown_by (h ∷ hs) k)) stay (h.mac ∷ []))

    made_more : (later : ℕ) → removal ≤ later → AreMade (h ∷ hs) later (h ∷ makers)
    made_more later up m e = by (mac_eq h.mac m) refl
      where
        by : (b : Bool) → mac_eq h.mac m ≡ b → has (addresses (h ∷ makers)) m ≡ true
        by true t = addresses_first h makers m t
        by false t = addresses_more h makers m (was.made m (heard_before (of_address m hs) removal later up (ap (λ l. is_heard l later) (sym (of_other h hs m t)) ∙ e)))

    entries_many : length t.entries ≡ length at
    entries_many = ap length was.entries ∙ length-with_each (shown_by hs) at

    -- one that makes an entry where there is room
    begins : nat_lt (length at) 1024 ≡ true → Matches (h ∷ hs) removal (h ∷ makers) (alarms ++ []) late (kept_by None t h)
    begins room =
        let lt : length at < 1024 = ltb-true (length at) 1024 room in
        let is : entered_by (h ∷ hs) removal (h ∷ makers) ≡ at ++ h.mac ∷ [] = entered_new h hs makers removal none le in
        let there : nat_lt (length t.entries) 1024 ≡ true = ap (λ n. nat_lt n 1024) entries_many ∙ room in
        record {
          entries = pushed at (with_room h.time t.entries) absent (ap (λ b. cond b t.entries (live_at h.time t.entries)) there ∙ was.entries) ∙ ap (with_each (shown_by (h ∷ hs))) (sym is);
          distinct = subst (IsDistinct mac_eq) (sym is) (distinct_push at h.mac was.distinct absent);
          made = made_more removal (omega arith);
          few = omega (arith, ap length is, length-append at (h.mac ∷ []), lt);
          late = was.late;
          alarms = more_raised t alarms [] (downs_of h.time t.entries) was.alarms (ap (λ b. cond b [] (downs_at h.time t.entries)) there);
        }

    -- one that makes an entry where the table is full
    removing : (downs : List Alarm) → downs_at h.time t.entries ≡ downs → nat_lt (length at) 1024 ≡ false → finds_room hs h ≡ true → Matches (h ∷ hs) h.time (h ∷ makers) (alarms ++ downs) late (kept_by None t h)
    removing downs down full room =
        let stay = filter (is_live_by hs h.time) at in
        let gone : has stay h.mac ≡ false = has-filter (is_live_by hs h.time) h.mac at ∙ ap (λ b. b && has at h.mac) silent in
        let few : length (others_live hs h.time h.mac) < 1024 = ltb-true (length (others_live hs h.time h.mac)) 1024 room in
        let others : length (others_live hs h.time h.mac) ≡ length stay =
        count_others hs removal at was.distinct (entered_have hs makers removal was.made) h.mac h.time le ∙ ap length (others_all (is_live_by hs h.time) h.mac at absent) in
        let is : entered_by (h ∷ hs) h.time (h ∷ makers) ≡ stay ++ h.mac ∷ [] = entered_removing h hs makers removal none le in
        let there : nat_lt (length t.entries) 1024 ≡ false = ap (λ n. nat_lt n 1024) entries_many ∙ full in
        record {
          entries = pushed stay (with_room h.time t.entries) gone
              (ap (λ b. cond b t.entries (live_at h.time t.entries)) there ∙ ap (live_at h.time) was.entries ∙ live_entries hs makers removal h.time order le) ∙ ap (with_each (shown_by (h ∷ hs))) (sym is);
          distinct = subst (IsDistinct mac_eq) (sym is) (distinct_push stay h.mac (distinct_filter (is_live_by hs h.time) at was.distinct) gone);
          made = made_more h.time le;
          few = omega (arith, ap length is, length-append stay (h.mac ∷ []), few, others);
          late = was.late;
          alarms = more_raised t alarms downs (downs_of h.time t.entries) was.alarms (ap (λ b. cond b [] (downs_at h.time t.entries)) there ∙ down);
        }

  -- any hearing, by whether it finds room, whether its address has an entry, and whether 1024 have one
  hears_by : (downs : List Alarm) → downs_at h.time t.entries ≡ downs
      → (room : Bool) → finds_room hs h ≡ room → (entry : Bool) → has_entry hs removal h.mac ≡ entry → (full : Bool) → is_filled hs removal ≡ full
      → Matches (cond room (h ∷ hs) hs) (cond ((room && not entry) && full) h.time removal) (cond (room && not entry) (h ∷ makers) makers) (alarms ++ cond ((room && not entry) && full) downs []) late
      (cond room (kept_by (cond entry (Some (shown_by hs h.mac)) None) t h) t)
  hears_by downs down false r entry e full f = refused
  hears_by downs down true r true e full f = again e
  hears_by downs down true r false e full f = by full f
    where
      count : nat_lt (length at) 1024 ≡ not (is_filled hs removal)
      count = lt_or (length at) ∙ ap (λ n. not (nat_le 1024 n)) (sym (count_entered hs removal at was.distinct (entered_have hs makers removal was.made)))

      by : (b : Bool) → is_filled hs removal ≡ b
          → Matches (h ∷ hs) (cond b h.time removal) (h ∷ makers) (alarms ++ cond b downs []) late (kept_by None t h)
      by true f = removing e downs down (count ∙ ap not f) r
      by false f = begins e (count ∙ ap not f)

  pub hears : (downs : List Alarm) → downs_at h.time t.entries ≡ downs
      → Matches (cond (finds_room hs h) (h ∷ hs) hs) (cond (makes_entry h hs removal && is_filled hs removal) h.time removal) (cond (makes_entry h hs removal) (h ∷ makers) makers)
      (alarms ++ cond (makes_entry h hs removal && is_filled hs removal) downs []) late (after_hearing t h)
  hears downs down =
      let found : lookup (mac_eq h.mac) t.entries ≡ cond (has_entry hs removal h.mac) (Some (shown_by hs h.mac)) None =
      ap (lookup (mac_eq h.mac)) was.entries ∙ lookup-with_each (shown_by hs) h.mac at ∙ ap (λ b. cond b (Some (shown_by hs h.mac)) None) (entered_have hs makers removal was.made h.mac) in
      let kept : is_kept (answer_to t h) ≡ finds_room hs h = kept_is hs removal at was.distinct (entered_have hs makers removal was.made) (all_entered hs makers removal) was.few t was.entries h order le in
      let after : after_hearing t h ≡ cond (finds_room hs h) (kept_by (cond (has_entry hs removal h.mac) (Some (shown_by hs h.mac)) None) t h) t =
      after_is (answer_to t h) t h ∙ (λ j. cond (kept j) (kept_by (found j) t h) t) in
      subst (Matches (cond (finds_room hs h) (h ∷ hs) hs) (cond (makes_entry h hs removal && is_filled hs removal) h.time removal) (cond (makes_entry h hs removal) (h ∷ makers) makers)
      (alarms ++ cond (makes_entry h hs removal && is_filled hs removal) downs []) late) (sym after)
      (hears_by downs down (finds_room hs h) refl (has_entry hs removal h.mac) refl (is_filled hs removal) refl)

-- a run matches its hearings
pub matches : (events : List Event) (now : ℕ) → AreUpTo now events → Matches (kept_in events) (removal_in events) (makers_in events) (raised_in events) (λ m. late_then m events) (table_after events)
matches [] now up = record { entries = refl; distinct = distinct_none; made = λ m e. absurd cc; few = omega arith; late = λ m. refl; alarms = refl }
matches (Prunes at ∷ events) now up =
    prunes events at (removal_in events) (makers_in events) (raised_in events) (table_after events) (kept_before events at up.1) (removal_le events at up.1) (matches events at up.1)
matches (Hears h ∷ events) now up =
    let was = matches events h.time up.1 in
    let order = kept_before events h.time up.1 in
    hears h (kept_in events) (makers_in events) (removal_in events) (raised_in events) (λ m. late_then m events) (table_after events) order (removal_le events h.time up.1) was
    (flat_map (down_alarm h.time events) (entered events))
    (ap (downs_at h.time) was.entries ∙ downs_are events h.time (removal_in events) order (entered events) (all_entered (kept_in events) (makers_in events) (removal_in events)))
