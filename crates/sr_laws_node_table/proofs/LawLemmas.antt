-- The laws, of the steps.
use Rattle.std.proofs.Common.{◌≡◌, ℕ, Bool, true, false, cond, ◌&&◌, nat_lt, List, [], ◌∷◌, ◌++◌, length, map, Option, None, Some, is_some, refl, sym, ap, ◌∙◌, arith}
use Rattle.std.specs.List.{filter_map}
use Rattle.std.specs.Map.{lookup}
use Rattle.std.proofs.lemmas.Bool.{false_from_ne_true}
use Rattle.circular_buffer.specs.Buffer.{keep_last}
use Rattle.sr_frame.specs.declared.learn_outcome.LearnOutcome.{LearnOutcome}
use Rattle.sr_frame.specs.declared.learn_outcome.LearnOutcome.TheVariants.{New, Known, Full}
use Rattle.sr_frame.specs.declared.fields.Mac.{Mac}
use Rattle.sr_frame.specs.Addresses.{mac_eq}
use Rattle.sr_node_table.specs.Nodes.{Hearing, Entry, with_room, answer_of, answer_to}
use Rattle.sr_node_table.specs.Stating.{live_mac}
use Rattle.sr_node_table.specs.Hearings.{time_of, is_heard, status_by, Event, Hears, Prunes, table_after, is_kept, AreUpTo, StatusIsOfHearings, HasIsOfHearings}
use Rattle.sr_laws_node_table.specs.Kept.{of_address, is_live_by, finds_room, kept_in, kept_of}
use Rattle.sr_laws_node_table.specs.Entered.{removal_in, makers_in, entered, has_entry_in}
use Rattle.sr_laws_node_table.specs.Raised.{raised_by, raised_in}
use Rattle.sr_laws_node_table.specs.TableLaws.{AnswersAreOfKept, EachEventAddsItsAlarms, EntriesAreDistinct, answer_by, FullWhereOthersAreLive, HearingsAreKept, StatusIsOfKept, ListIsOfKept, EntriesAreOfKept, EntryIsOfKept, AlarmsAreTheLatest}
use Rattle.sr_laws_node_table.proofs.AddressListLemmas.{has, all_weaker}
use Rattle.sr_laws_node_table.proofs.EntryLemmas.{firsts-with_each, lookup-with_each, kept-with_each}
use Rattle.sr_laws_node_table.proofs.HeardLemmas.{heard_before}
use Rattle.sr_laws_node_table.proofs.AlarmLemmas.{last_again, shown_by, shown_live}
use Rattle.sr_laws_node_table.proofs.StandingLemmas.{entered_have, kept_before, removal_le}
use Rattle.sr_laws_node_table.proofs.RoomLemmas.{full_is, is_full_where, kept_is}
use Rattle.sr_laws_node_table.proofs.StepLemmas.{all_entered, matches}

-- the addresses with an entry are those that are told
pub entered_are : (events : List Event) (now : ℕ) → AreUpTo now events → (m : Mac) → has (entered events) m ≡ has_entry_in events m
entered_are events now up m = entered_have (kept_in events) (makers_in events) (removal_in events) (matches events now up).made m

pub full_where_others_are_live : FullWhereOthersAreLive
full_where_others_are_live events h up =
    let was = matches events h.time up in
    let order = kept_before events h.time up in
    let le = removal_le events h.time up in
    let all = all_entered (kept_in events) (makers_in events) (removal_in events) in (
      λ e. full_is (kept_in events) (removal_in events) (entered events) was.distinct (entered_are events h.time up) all was.few (table_after events) was.entries h order le e,
      λ e. is_full_where (kept_in events) (removal_in events) (entered events) was.distinct (entered_are events h.time up) all was.few (table_after events) was.entries h order le e,
    )

kept_where : (events : List Event) (h : Hearing) → AreUpTo h.time events → is_kept (answer_to (table_after events) h) ≡ finds_room (kept_in events) h
kept_where events h up =
    let was = matches events h.time up in
    kept_is (kept_in events) (removal_in events) (entered events) was.distinct (entered_are events h.time up) (all_entered (kept_in events) (makers_in events) (removal_in events)) was.few (table_after events) was.entries h
    (kept_before events h.time up) (removal_le events h.time up)

-- what an address with an entry is answered, and one without
known_or_learned : (live room : Bool) (a : LearnOutcome) → a ≡ cond live Known New → is_kept a ≡ room → a ≡ cond live Known (cond room New Full)
known_or_learned true room a e k = e
known_or_learned false room a e k = e ∙ ap (λ b. cond b New Full) (sym (ap is_kept e) ∙ k)

learned_or_full : (b live room : Bool) (a : LearnOutcome) → a ≡ cond b New Full → is_kept a ≡ room → live ≡ false → a ≡ cond live Known (cond room New Full)
learned_or_full b live room a e k silent = e ∙ ap (λ x. cond x New Full) (sym (kept b) ∙ sym (ap is_kept e) ∙ k) ∙ sym (ap (λ x. cond x Known (cond room New Full)) silent)
  where
    kept : (x : Bool) → is_kept (cond x New Full) ≡ x
    kept true = refl
    kept false = refl

pub answers_are_of_kept : AnswersAreOfKept
answers_are_of_kept events h up = by (has_entry_in events h.mac) refl
  where
    found : lookup (mac_eq h.mac) (table_after events).entries ≡ cond (has_entry_in events h.mac) (Some (shown_by (kept_in events) h.mac)) None
    found =
        ap (lookup (mac_eq h.mac)) (matches events h.time up).entries
        ∙ lookup-with_each (shown_by (kept_in events)) h.mac (entered events)
        ∙ ap (λ b. cond b (Some (shown_by (kept_in events) h.mac)) None) (entered_are events h.time up h.mac)

    answered : (o : Option Entry) → lookup (mac_eq h.mac) (table_after events).entries ≡ o → answer_to (table_after events) h ≡ answer_of o (table_after events).entries h.time
    answered o e = ap (λ x. answer_of x (table_after events).entries h.time) e

    silent : has_entry_in events h.mac ≡ false → is_live_by (kept_in events) h.time h.mac ≡ false
    silent none = false_from_ne_true (is_live_by (kept_in events) h.time h.mac)
        (λ l. let bad : true ≡ false = sym (heard_before (of_address h.mac (kept_in events)) (removal_in events) h.time (removal_le events h.time up) l) ∙ none in absurd cc)

    by : (b : Bool) → has_entry_in events h.mac ≡ b → answer_to (table_after events) h ≡ answer_by (kept_in events) h
    by true e = known_or_learned (is_live_by (kept_in events) h.time h.mac) (finds_room (kept_in events) h) (answer_to (table_after events) h)
        (answered (Some (shown_by (kept_in events) h.mac)) (found ∙ ap (λ b. cond b (Some (shown_by (kept_in events) h.mac)) None) e)
        ∙ ap (λ b. cond b Known New) (shown_live (kept_in events) h.time (removal_in events) (kept_before events h.time up) h.time h.mac e)) (kept_where events h up)
    by false e = learned_or_full (nat_lt (length (with_room h.time (table_after events).entries)) 1024) (is_live_by (kept_in events) h.time h.mac) (finds_room (kept_in events) h)
        (answer_to (table_after events) h) (answered None (found ∙ ap (λ b. cond b (Some (shown_by (kept_in events) h.mac)) None) e)) (kept_where events h up) (silent e)

pub hearings_are_kept : HearingsAreKept
hearings_are_kept [] now mac up = refl
hearings_are_kept (Prunes at ∷ events) now mac up = hearings_are_kept events at mac up.1
hearings_are_kept (Hears h ∷ events) now mac up =
    (λ j. cond (mac_eq h.mac mac && kept_where events h up.1 j) (h ∷ hearings_are_kept events h.time mac up.1 j) (hearings_are_kept events h.time mac up.1 j))
    ∙ by (finds_room (kept_in events) h) (mac_eq h.mac mac) refl
  where
    by : (room own : Bool) → mac_eq h.mac mac ≡ own → cond (own && room) (h ∷ kept_of mac events) (kept_of mac events) ≡ of_address mac (cond room (h ∷ kept_in events) (kept_in events))
    by true true e = sym (ap (λ b. cond b (h ∷ kept_of mac events) (kept_of mac events)) e)
    by true false e = sym (ap (λ b. cond b (h ∷ kept_of mac events) (kept_of mac events)) e)
    by false true e = refl
    by false false e = refl

pub status_is_of_kept : StatusIsOfHearings → HasIsOfHearings → StatusIsOfKept
status_is_of_kept status has events now mac up = (
  has events now mac up ∙ ap (λ hs. is_heard hs now) (hearings_are_kept events now mac up),
  status events now mac up ∙ ap (λ hs. status_by hs mac now) (hearings_are_kept events now mac up),
)

pub list_is_of_kept : ListIsOfKept
list_is_of_kept events now up =
    let was = matches events now up in
    let hs = kept_in events in
    ap (filter_map (live_mac now)) was.entries
    ∙ kept-with_each (shown_by hs) (live_mac now) (is_live_by hs now) (entered events)
    (all_weaker (λ m. is_live_by hs (removal_in events) m ≡ true) (λ m. live_mac now (m, shown_by hs m) ≡ cond (is_live_by hs now m) (Some m) None)
    (λ m e. ap (λ b. cond b (Some m) None) (shown_live hs now (removal_in events) (kept_before events now up) now m e)) (entered events) (all_entered hs (makers_in events) (removal_in events)))

pub entries_are_of_kept : EntriesAreOfKept
entries_are_of_kept events now up = ap (map (λ e. e.0)) (matches events now up).entries ∙ firsts-with_each (shown_by (kept_in events)) (entered events)

pub entries_are_distinct : EntriesAreDistinct
entries_are_distinct events now up = (matches events now up).distinct

pub entry_is_of_kept : EntryIsOfKept
entry_is_of_kept events now mac up =
    ap (λ es. is_some (lookup (mac_eq mac) es)) (matches events now up).entries
    ∙ ap is_some (lookup-with_each (shown_by (kept_in events)) mac (entered events))
    ∙ by (has (entered events) mac)
    ∙ entered_are events now up mac
  where
    by : (b : Bool) → is_some (cond b (Some (shown_by (kept_in events) mac)) None) ≡ b
    by true = refl
    by false = refl

pub alarms_are_the_latest : AlarmsAreTheLatest
alarms_are_the_latest events now up = (matches events now up).alarms

pub each_event_adds_its_alarms : EachEventAddsItsAlarms
each_event_adds_its_alarms e events up =
    alarms_are_the_latest (e ∷ events) (time_of e) (omega arith, up)
    ∙ sym (last_again 64 (raised_in events) (raised_by e events))
    ∙ ap (λ alarms. keep_last 64 (alarms ++ raised_by e events)) (sym (alarms_are_the_latest events (time_of e) up))
