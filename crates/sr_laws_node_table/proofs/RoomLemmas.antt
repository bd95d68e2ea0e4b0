-- Where a table is full, and where a hearing finds room.
use Rattle.std.proofs.Common.{◌≡◌, ℕ, ◌<◌, ◌≤◌, Bool, true, false, cond, not, ◌&&◌, nat_lt, List, length, filter, refl, sym, ap, ◌∙◌, arith}
use Rattle.std.specs.Prelude.{nat_le}
use Rattle.std.specs.List.{IsDistinct, AllByRecursion}
use Rattle.std.specs.Map.{lookup}
use Rattle.std.proofs.lemmas.Bool.{ltb-false, lt-ltb, le-ltb, leb-true, leb-false, and_parts, true_from_ne_false}
use Rattle.sr_frame.specs.declared.fields.Mac.{Mac}
use Rattle.sr_frame.specs.declared.learn_outcome.LearnOutcome.{LearnOutcome}
use Rattle.sr_frame.specs.declared.learn_outcome.LearnOutcome.TheVariants.{New, Known, Full}
use Rattle.sr_frame.specs.Addresses.{mac_eq}
use Rattle.sr_aged_slots.specs.FullLemmas.{full_where, kept_again, new_is_kept}
use Rattle.sr_node_table.specs.Nodes.{Hearing, Table, is_live, live_others, answer_of, answer_to, kept_by, after_answer}
use Rattle.sr_node_table.specs.Hearings.{is_kept}
use Rattle.sr_laws_node_table.specs.Kept.{is_live_by, addresses, others_live, finds_room}
use Rattle.sr_laws_node_table.specs.Entered.{has_entry}
use Rattle.sr_laws_node_table.proofs.AddressListLemmas.{has, has-filter, distinct_filter, same_length, all_weaker, filter-filter, without_none}
use Rattle.std.proofs.lemmas.List.Elements.{filter_agree}
use Rattle.sr_laws_node_table.proofs.EntryLemmas.{with_each, length-with_each, filter-with_both}
use Rattle.sr_laws_node_table.proofs.HeardLemmas.{AreBefore, heard_before}
use Rattle.sr_laws_node_table.proofs.AlarmLemmas.{shown_by, shown_live}
use Rattle.sr_laws_node_table.proofs.StandingLemmas.{and_implied, length-filter_le, addresses_distinct, addresses_have}

module _ (hs : List Hearing) (removal : ℕ) (ks : List Mac) (distinct : IsDistinct mac_eq ks) (have : (m : Mac) → has ks m ≡ has_entry hs removal m) where
  -- as many addresses have an entry as there are entries
  pub count_entered : length (filter (has_entry hs removal) (addresses hs)) ≡ length ks
  count_entered = same_length (filter (has_entry hs removal) (addresses hs)) ks (distinct_filter (has_entry hs removal) (addresses hs) (addresses_distinct hs)) distinct
      (λ m. has-filter (has_entry hs removal) m (addresses hs) ∙ and_implied (has_entry hs removal m) (has (addresses hs) m) (addresses_have m removal hs) ∙ sym (have m))

  module _ (mac : Mac) (now : ℕ) (le : removal ≤ now) where
    abbrev is_other : Mac → Bool
    is_other m = is_live_by hs now m && not (mac_eq mac m)

    other_live : (m : Mac) → is_other m ≡ true → is_live_by hs now m ≡ true
    other_live m e = (and_parts (is_live_by hs now m) (not (mac_eq mac m)) e).0

    -- as many others are live as entries of others are
    pub count_others : length (others_live hs now mac) ≡ length (filter is_other ks)
    count_others = same_length (filter is_other (addresses hs)) (filter is_other ks) (distinct_filter is_other (addresses hs) (addresses_distinct hs)) (distinct_filter is_other ks distinct)
        (λ m. has-filter is_other m (addresses hs) ∙ and_implied (is_other m) (has (addresses hs) m) (λ e. addresses_have m now hs (other_live m e))
        ∙ sym (has-filter is_other m ks ∙ and_implied (is_other m) (has ks m) (λ e. have m ∙ heard_before_of m (other_live m e))))
      where
        heard_before_of : (m : Mac) → is_live_by hs now m ≡ true → has_entry hs removal m ≡ true
        heard_before_of m l = heard_before (filter (λ h. mac_eq h.mac m) hs) removal now le l

    pub count_live_others : AreBefore now hs → AllByRecursion (λ m. has_entry hs removal m ≡ true) ks → length (live_others mac now (with_each (shown_by hs) ks)) ≡ length (others_live hs now mac)
    count_live_others order all =
        ap length (filter-with_both (shown_by hs) (λ e. is_live now e.1 && not (mac_eq mac e.0)) is_other ks
        (all_weaker (λ m. has_entry hs removal m ≡ true) (λ m. (is_live now (shown_by hs m) && not (mac_eq mac m)) ≡ is_other m)
        (λ m e. ap (λ b. b && not (mac_eq mac m)) (shown_live hs now removal order now m e)) ks all))
        ∙ length-with_each (shown_by hs) (filter is_other ks)
        ∙ sym count_others

-- a list without an address that it does not have
pub others_all : (p : Mac → Bool) (mac : Mac) (ks : List Mac) → has ks mac ≡ false → filter (λ m. p m && not (mac_eq mac m)) ks ≡ filter p ks
others_all p mac ks none = turned ks ∙ sym (filter-filter p (λ m. not (mac_eq mac m)) ks) ∙ ap (filter p) (without_none mac ks none)
  where
    swap : (a b : Bool) → (a && b) ≡ (b && a)
    swap true true = refl
    swap true false = refl
    swap false true = refl
    swap false false = refl

    turned : (js : List Mac) → filter (λ m. p m && not (mac_eq mac m)) js ≡ filter (λ m. not (mac_eq mac m) && p m) js
    turned js = filter_agree (λ m. p m && not (mac_eq mac m)) (λ m. not (mac_eq mac m) && p m) (λ m. swap (p m) (not (mac_eq mac m))) js

-- at most 1024, or fewer
pub lt_or : (n : ℕ) → nat_lt n 1024 ≡ not (nat_le 1024 n)
lt_or n = by (nat_le 1024 n) refl
  where
    by : (b : Bool) → nat_le 1024 n ≡ b → nat_lt n 1024 ≡ not b
    by true e = let l : 1024 ≤ n = leb-true 1024 n e in le-ltb n 1024 l
    by false e = let l : n < 1024 = leb-false 1024 n e in lt-ltb n 1024 l

-- what a table answers and what it is then
kept_unless_full : (a : LearnOutcome) (n : ℕ) → n ≤ 1024 → (a ≡ Full → n ≡ 1024) → (n ≡ 1024 → a ≡ Full) → is_kept a ≡ nat_lt n 1024
kept_unless_full Full n le to from = let e : n ≡ 1024 = to refl in sym (le-ltb n 1024 (omega arith))
kept_unless_full New n le to from = sym (true_from_ne_false (nat_lt n 1024) (λ f. let k : 1024 ≤ n = ltb-false n 1024 f in let e : New ≡ Full = from (omega arith) in absurd cc))
kept_unless_full Known n le to from = sym (true_from_ne_false (nat_lt n 1024) (λ f. let k : 1024 ≤ n = ltb-false n 1024 f in let e : Known ≡ Full = from (omega arith) in absurd cc))

pub after_is : (a : LearnOutcome) (t : Table) (h : Hearing) → after_answer a t h ≡ cond (is_kept a) (kept_by (lookup (mac_eq h.mac) t.entries) t h) t
after_is Full t h = refl
after_is New t h = refl
after_is Known t h = refl

module _ (hs : List Hearing) (removal : ℕ) (ks : List Mac) (distinct : IsDistinct mac_eq ks) (have : (m : Mac) → has ks m ≡ has_entry hs removal m) (all : AllByRecursion (λ m. has_entry hs removal m ≡ true) ks)
    (few : length ks ≤ 1024) (t : Table) (entries : t.entries ≡ with_each (shown_by hs) ks) (h : Hearing) (order : AreBefore h.time hs) (le : removal ≤ h.time) where
  abbrev others : ℕ
  others = length (others_live hs h.time h.mac)

  entries_few : length t.entries ≤ 1024
  entries_few = omega (arith, ap length entries, length-with_each (shown_by hs) ks)

  others_are : length (live_others h.mac h.time t.entries) ≡ others
  others_are = ap (λ es. length (live_others h.mac h.time es)) entries ∙ count_live_others hs removal ks distinct have h.mac h.time le order all

  both : (answer_to t h ≡ Full → length (live_others h.mac h.time t.entries) ≡ 1024) × (length (live_others h.mac h.time t.entries) ≡ 1024 → answer_to t h ≡ Full)
  both =
      full_where (λ e. e.time) 60000 1024 h.mac h.time t.entries (λ o. answer_of o t.entries h.time) New Full new_is_kept
      (λ e. kept_again (is_live h.time e)) refl entries_few

  pub full_is : answer_to t h ≡ Full → others ≡ 1024
  full_is e = sym others_are ∙ both.0 e

  pub is_full_where : others ≡ 1024 → answer_to t h ≡ Full
  is_full_where e = both.1 (others_are ∙ e)

  pub kept_is : is_kept (answer_to t h) ≡ finds_room hs h
  kept_is = kept_unless_full (answer_to t h) others at_most full_is is_full_where
    where
      at_most : others ≤ 1024
      at_most = omega (arith, count_others hs removal ks distinct have h.mac h.time le, length-filter_le (λ m. is_live_by hs h.time m && not (mac_eq h.mac m)) ks, few)
