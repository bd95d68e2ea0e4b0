-- What a table raises is what the hearings say.
use Rattle.std.proofs.Common.{◌≡◌, ℕ, ◌+◌, ◌-◌, ◌≤◌, Bool, true, false, cond, not, ◌&&◌, ◌||◌, List, [], ◌∷◌, ◌++◌, length, drop, Option, None, Some, refl, sym, ap, ◌∙◌, arith}
use Rattle.std.specs.List.{cons_option, filter_map, flat_map, AllByRecursion}
use Rattle.std.specs.Map.{lookup}
use Rattle.std.proofs.lemmas.Bool.{false_from_ne_true}
use Rattle.std.proofs.lemmas.List.{length-append, length-drop, drop-drop, drop-append-le}
use Rattle.circular_buffer.specs.Buffer.{keep_last}
use Rattle.sr_frame.specs.declared.fields.Mac.{Mac}
use Rattle.sr_frame.specs.declared.ports.Port.{Port}
use Rattle.sr_frame.specs.declared.ports.Port.TheVariants.{A, B}
use Rattle.sr_frame.specs.Addresses.{mac_eq}
use Rattle.sr_frame.specs.AddressLemmas.{mac_same}
use Rattle.sr_node_table.specs.declared.alarm.Alarm.{Alarm}
use Rattle.sr_node_table.specs.declared.alarm.Alarm.TheVariants.{RingError, NodeDown}
use Rattle.sr_node_table.specs.Nodes.{Hearing, Entry, is_live, down_of, downs_at}
use Rattle.sr_node_table.specs.Watching.{late_port, was_late, ring_error, alarm_of, alarms_at, found_late, late_at}
use Rattle.sr_node_table.specs.Hearings.{Event}
use Rattle.sr_laws_node_table.specs.Kept.{of_address, is_live_by, kept_in, kept_of}
use Rattle.sr_laws_node_table.specs.Lateness.{is_late, was_late_at_prune}
use Rattle.sr_laws_node_table.specs.Raised.{alarm_if, down_alarm, prune_alarms}
use Rattle.sr_laws_node_table.proofs.AddressListLemmas.{has, all_weaker}
use Rattle.sr_laws_node_table.proofs.EntryLemmas.{with_each, gathered-with_each}
use Rattle.sr_laws_node_table.proofs.HeardLemmas.{AreBefore, before-filter, heard_before, entry_by, live-entry_by}
use Rattle.sr_laws_node_table.proofs.LateLemmas.{late_by, late-entry_by, late_is_heard, late_none, one_is_late, late_then, was_late_a, was_late_b}

-- the last ones of the last ones and more are the last ones
pub last_again : {X : Type 0} (n : ℕ) (xs ys : List X) → keep_last n (keep_last n xs ++ ys) ≡ keep_last n (xs ++ ys)
last_again n xs ys =
    let k = length xs - n in
    let le : k ≤ length xs = omega arith in
    let split : drop k xs ++ ys ≡ drop k (xs ++ ys) = sym (drop-append-le k xs ys le) in
    let sum : k + (length (drop k xs ++ ys) - n) ≡ length (xs ++ ys) - n =
    omega (arith, length-append (drop k xs) ys, length-drop k xs, length-append xs ys) in
    ap (drop (length (drop k xs ++ ys) - n)) split ∙ drop-drop (length (drop k xs ++ ys) - n) k (xs ++ ys) ∙ ap (λ m. drop m (xs ++ ys)) sum

-- the entry of an address by these hearings
abbrev pub shown_by : List Hearing → Mac → Entry
shown_by hs m = entry_by (of_address m hs)

module _ (hs : List Hearing) (now removal : ℕ) (order : AreBefore now hs) where
  order_of : (m : Mac) → AreBefore now (of_address m hs)
  order_of m = before-filter (λ h. mac_eq h.mac m) now hs order

  -- an address with an entry is live where its entry is
  pub shown_live : (u : ℕ) (m : Mac) → is_live_by hs removal m ≡ true → is_live u (shown_by hs m) ≡ is_live_by hs u m
  shown_live u m e = live-entry_by (of_address m hs) u removal now (order_of m) e

  pub shown_late : (u : ℕ) (m : Mac) → is_live_by hs removal m ≡ true → late_port u (shown_by hs m) ≡ late_by (of_address m hs) u
  shown_late u m e = late-entry_by (of_address m hs) u removal now (order_of m) e

-- one more alarm, or none
down_cons : (b : Bool) (alarm : Alarm) (ys : List Alarm) → cons_option (cond b None (Some alarm)) ys ≡ alarm_if (not b) alarm ++ ys
down_cons true alarm ys = refl
down_cons false alarm ys = refl

module _ (events : List Event) (now removal : ℕ) (order : AreBefore now (kept_in events)) where
  abbrev HasEntry : Mac → Type 0
  HasEntry m = is_live_by (kept_in events) removal m ≡ true

  abbrev shown : Mac → Entry
  shown m = shown_by (kept_in events) m

  -- the alarms of addresses that are down
  pub downs_are : (ks : List Mac) → AllByRecursion HasEntry ks → downs_at now (with_each shown ks) ≡ flat_map (down_alarm now events) ks
  downs_are ks have =
      gathered-with_each shown (λ e. down_of e.0 e.1 now) (down_alarm now events) ks
      (all_weaker HasEntry (λ m. (ys : List Alarm) → cons_option (down_of m (shown m) now) ys ≡ down_alarm now events m ++ ys)
      (λ m e ys. ap (λ b. cons_option (cond b None (Some (NodeDown m now))) ys) (shown_live (kept_in events) now removal order now m e) ∙ down_cons (is_live_by (kept_in events) now m) (NodeDown m now) ys) ks have)

  -- what is raised of one address, by what was late, whether it is live, and which of its ports is late
  one_alarm : (m : Mac) (before : Option Port) (was_a was_b : Bool) → was_late before A ≡ was_a → was_late before B ≡ was_b
      → (live a b : Bool) → (a ≡ true → live ≡ true) → (b ≡ true → live ≡ true) → (a ≡ true → b ≡ false) → (ys : List Alarm)
      → cons_option (cond live (ring_error before (cond a (Some A) (cond b (Some B) None)) m now) (cond live None (Some (NodeDown m now)))) ys
      ≡ (alarm_if (a && not was_a) (RingError m A now) ++ (alarm_if (b && not was_b) (RingError m B now) ++ alarm_if (not live) (NodeDown m now))) ++ ys
  one_alarm m before was_a was_b at_a at_b true true true la lb one ys = let bad : true ≡ false = one refl in cc
  one_alarm m before true was_b at_a at_b true true false la lb one ys = ap (λ x. cons_option (cond x None (Some (RingError m A now))) ys) at_a
  one_alarm m before false was_b at_a at_b true true false la lb one ys = ap (λ x. cons_option (cond x None (Some (RingError m A now))) ys) at_a
  one_alarm m before was_a true at_a at_b true false true la lb one ys = ap (λ x. cons_option (cond x None (Some (RingError m B now))) ys) at_b
  one_alarm m before was_a false at_a at_b true false true la lb one ys = ap (λ x. cons_option (cond x None (Some (RingError m B now))) ys) at_b
  one_alarm m before was_a was_b at_a at_b true false false la lb one ys = refl
  one_alarm m before was_a was_b at_a at_b false true b la lb one ys = let bad : false ≡ true = la refl in cc
  one_alarm m before was_a was_b at_a at_b false false true la lb one ys = let bad : false ≡ true = lb refl in cc
  one_alarm m before was_a was_b at_a at_b false false false la lb one ys = refl

  abbrev alarm_in : Option Port → Option Port → Mac → Bool → Option Alarm
  alarm_in before o m live = cond live (ring_error before o m now) (cond live None (Some (NodeDown m now)))

  -- what a prune raises, where these ports were late at the one before
  pub alarms_are : (late : List (Mac × Port)) → ((m : Mac) → lookup (mac_eq m) late ≡ late_then m events) → (ks : List Mac) → AllByRecursion HasEntry ks
      → alarms_at late now (with_each shown ks) ≡ flat_map (prune_alarms now events) ks
  alarms_are late then ks have =
      gathered-with_each shown (λ e. alarm_of (lookup (mac_eq e.0) late) (late_port now e.1) e.0 e.1 now) (prune_alarms now events) ks
      (all_weaker HasEntry
      (λ m. (ys : List Alarm) → cons_option (alarm_of (lookup (mac_eq m) late) (late_port now (shown m)) m (shown m) now) ys ≡ prune_alarms now events m ++ ys)
      (λ m e ys.
      (λ j. cons_option (alarm_in (then m j) (shown_late (kept_in events) now removal order now m e j) m (shown_live (kept_in events) now removal order now m e j)) ys)
      ∙ one_alarm m (late_then m events) (was_late_at_prune A m events) (was_late_at_prune B m events) (was_late_a m events) (was_late_b m events)
      (is_live_by (kept_in events) now m) (is_late A (kept_of m events) now) (is_late B (kept_of m events) now)
      (late_is_heard A (kept_of m events) now) (late_is_heard B (kept_of m events) now) (one_is_late (kept_of m events) now) ys) ks have)

  -- the ports that a prune finds late
  abbrev late_of : Mac → Option Port
  late_of k = late_by (kept_of k events) now

  abbrev found : List Mac → List (Mac × Port)
  found ks = filter_map (λ k. found_late k (late_of k)) ks

  found_are : (ks : List Mac) → AllByRecursion HasEntry ks → late_at now (with_each shown ks) ≡ found ks
  found_are [] h = refl
  found_are (k ∷ ks) h =
      ap (λ o. cons_option (found_late k o) (late_at now (with_each shown ks))) (shown_late (kept_in events) now removal order now k h.0)
      ∙ ap (cons_option (found_late k (late_of k))) (found_are ks h.1)

  none_either : (b : Bool) → cond {A = Option Port} b None None ≡ None
  none_either true = refl
  none_either false = refl

  lookup-found : (m : Mac) (ks : List Mac) → lookup (mac_eq m) (found ks) ≡ cond (has ks m) (late_of m) None
  lookup-found m [] = refl
  lookup-found m (k ∷ ks) = step (late_of k) refl (mac_eq m k) refl (lookup-found m ks)
    where
      step : (o : Option Port) → late_of k ≡ o → (b : Bool) → mac_eq m k ≡ b → lookup (mac_eq m) (found ks) ≡ cond (has ks m) (late_of m) None
          → lookup (mac_eq m) (cons_option (found_late k o) (found ks)) ≡ cond (b || has ks m) (late_of m) None
      step None e true t ih =
          let nothing : late_of m ≡ None = ap late_of (mac_same m k t) ∙ e in
          ih ∙ ap (λ x. cond (has ks m) x None) nothing ∙ none_either (has ks m) ∙ sym nothing
      step (Some p) e true t ih = ap (λ b. cond b (Some p) (lookup (mac_eq m) (found ks))) t ∙ sym (ap late_of (mac_same m k t) ∙ e)
      step None e false t ih = ih
      step (Some p) e false t ih = ap (λ b. cond b (Some p) (lookup (mac_eq m) (found ks))) t ∙ ih

  pub late_are : (ks : List Mac) → ((m : Mac) → has ks m ≡ is_live_by (kept_in events) removal m) → AllByRecursion HasEntry ks → removal ≤ now → (m : Mac)
      → lookup (mac_eq m) (late_at now (with_each shown ks)) ≡ late_of m
  late_are ks have all le m = ap (lookup (mac_eq m)) (found_are ks all) ∙ lookup-found m ks ∙ by (is_live_by (kept_in events) removal m) refl
    where
      silent : is_live_by (kept_in events) removal m ≡ false → is_live_by (kept_in events) now m ≡ false
      silent e = false_from_ne_true (is_live_by (kept_in events) now m) (λ l. let bad : true ≡ false = sym (heard_before (kept_of m events) removal now le l) ∙ e in absurd cc)

      by : (b : Bool) → is_live_by (kept_in events) removal m ≡ b → cond (has ks m) (late_of m) None ≡ late_of m
      by true e = ap (λ b. cond b (late_of m) None) (have m ∙ e)
      by false e = ap (λ b. cond b (late_of m) None) (have m ∙ e) ∙ sym (late_none (kept_of m events) now (silent e))
