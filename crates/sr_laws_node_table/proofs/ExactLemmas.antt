-- Exactly which alarms an event raises.
use Rattle.std.proofs.Common.{◌≡◌, ℕ, ◌<◌, Bool, true, false, cond, not, ◌||◌, List, [], ◌∷◌, ◌++◌, refl, sym, ap, ◌∙◌, subst, arith, ◌⊎◌, inl, inr}
use Rattle.std.specs.Prelude.{Contains}
use Rattle.std.specs.List.{flat_map}
use Rattle.std.proofs.lemmas.Bool.{and_parts, and_from, not-true, not_from_false}
use Rattle.std.proofs.lemmas.List.Elements.{Contains-append_left, Contains-append_right, Contains-append_cases, Contains-push, Contains-push_cases}
use Rattle.sr_frame.specs.declared.fields.Mac.{Mac}
use Rattle.sr_frame.specs.declared.ports.Port.{Port}
use Rattle.sr_frame.specs.declared.ports.Port.TheVariants.{H, A, B, C}
use Rattle.sr_frame.specs.Addresses.{mac_eq}
use Rattle.sr_frame.specs.AddressLemmas.{mac_same, mac_refl}
use Rattle.sr_node_table.specs.declared.alarm.Alarm.{Alarm}
use Rattle.sr_node_table.specs.declared.alarm.Alarm.TheVariants.{RingError, NodeDown}
use Rattle.sr_node_table.specs.Nodes.{Hearing}
use Rattle.sr_node_table.specs.Hearings.{is_heard, Event, Hears, Prunes, time_of, AreUpTo}
use Rattle.sr_laws_node_table.specs.Kept.{is_live_by, finds_room, kept_in, kept_of}
use Rattle.sr_laws_node_table.specs.Entered.{has_entry, is_filled, makes_entry, removes, removal_in, entered, has_entry_in}
use Rattle.sr_laws_node_table.specs.Lateness.{is_late, was_late_at_prune, is_newly_late}
use Rattle.sr_laws_node_table.specs.Raised.{alarm_if, down_alarm, ring_alarm, prune_alarms, raised_by}
use Rattle.sr_laws_node_table.specs.TableLaws.{TellsOfPort, Removes, RingErrorsAreExact, NodeDownsAreExact}
use Rattle.sr_laws_node_table.proofs.AddressListLemmas.{has}
use Rattle.sr_laws_node_table.proofs.HeardLemmas.{heard_before}
use Rattle.sr_laws_node_table.proofs.LateLemmas.{late_is_heard}
use Rattle.sr_laws_node_table.proofs.StandingLemmas.{removal_le, live_more, of_other}
use Rattle.sr_laws_node_table.proofs.LawLemmas.{entered_are}

none_contains : {X : Type 0} (x : X) → Contains [] x → ⊥
none_contains x c = let l : c.0 < 0 = c.1 in absurd (omega arith)

-- what is in the lists of some addresses is in the list of one of them
in_flat : (f : Mac → List Alarm) (x : Alarm) (ks : List Mac) → Contains (flat_map f ks) x → (k : Mac) × (has ks k ≡ true) × Contains (f k) x
in_flat f x [] c = absurd (none_contains x c)
in_flat f x (k ∷ ks) c = by (Contains-append_cases (f k) (flat_map f ks) x c) (in_flat f x ks)
  where
    or_true : (b : Bool) → (b || true) ≡ true
    or_true true = refl
    or_true false = refl

    by : Contains (f k) x ⊎ Contains (flat_map f ks) x → (Contains (flat_map f ks) x → (j : Mac) × (has ks j ≡ true) × Contains (f j) x)
        → (j : Mac) × (has (k ∷ ks) j ≡ true) × Contains (f j) x
    by (inl here) ih = (k, ap (λ b. b || has ks k) (mac_refl k), here)
    by (inr there) ih = let r = ih there in (r.0, ap (λ b. mac_eq r.0 k || b) r.1 ∙ or_true (mac_eq r.0 k), r.2)

flat_has : (f : Mac → List Alarm) (x : Alarm) (m : Mac) (ks : List Mac) → has ks m ≡ true → Contains (f m) x → Contains (flat_map f ks) x
flat_has f x m [] e c = cc
flat_has f x m (k ∷ ks) e c = by (mac_eq m k) refl e (flat_has f x m ks)
  where
    by : (b : Bool) → mac_eq m k ≡ b → (b || has ks m) ≡ true → (has ks m ≡ true → Contains (f m) x → Contains (flat_map f ks) x) → Contains (f k ++ flat_map f ks) x
    by true t e ih = Contains-append_left (f k) (flat_map f ks) x (subst (λ j. Contains (f j) x) (mac_same m k t) c)
    by false t e ih = Contains-append_right (f k) (flat_map f ks) x (ih e c)

-- an alarm that is raised under a condition
in_if : (b : Bool) (alarm x : Alarm) → Contains (alarm_if b alarm) x → (b ≡ true) × (alarm ≡ x)
in_if true alarm x c = (refl, by (Contains-push_cases [] alarm x c))
  where
    by : Contains [] x ⊎ (alarm ≡ x) → alarm ≡ x
    by (inl none) = absurd (none_contains x none)
    by (inr same) = same
in_if false alarm x c = absurd (none_contains x c)

if_has : (b : Bool) (alarm : Alarm) → b ≡ true → Contains (alarm_if b alarm) alarm
if_has true alarm e = Contains-push [] alarm
if_has false alarm e = cc

-- what an alarm of an event says
abbrev Says : Event → List Event → Alarm → Type 0
Says e events (RingError mac port at) = TellsOfPort e events mac port at
Says e events (NodeDown mac at) = Removes e events mac at

module _ (events : List Event) (now : ℕ) (up : AreUpTo now events) where
  abbrev HasEntry : Mac → Type 0
  HasEntry m = has (entered events) m ≡ true

  entry_of : (m : Mac) → has (entered events) m ≡ true → has_entry_in events m ≡ true
  entry_of m e = sym (entered_are events now up m) ∙ e

  says_late : (port : Port) (m : Mac) (x : Alarm) → Contains (ring_alarm port now events m) x → Says (Prunes now) events x
  says_late port m x c =
      let i = in_if (is_newly_late port m now events) (RingError m port now) x c in
      let parts = and_parts (is_late port (kept_of m events) now) (not (was_late_at_prune port m events)) i.0 in
      subst (Says (Prunes now) events) i.1 (record { prune = refl; late = parts.0; before = not-true (was_late_at_prune port m events) parts.1 })

  silent_of : (m : Mac) (x : Alarm) → Contains (down_alarm now events m) x → (is_live_by (kept_in events) now m ≡ false) × (NodeDown m now ≡ x)
  silent_of m x c = let i = in_if (not (is_live_by (kept_in events) now m)) (NodeDown m now) x c in (not-true (is_live_by (kept_in events) now m) i.0, i.1)

  says_prune : (m : Mac) (x : Alarm) → has (entered events) m ≡ true → Contains (prune_alarms now events m) x → Says (Prunes now) events x
  says_prune m x there c = by (Contains-append_cases (ring_alarm A now events m) (ring_alarm B now events m ++ down_alarm now events m) x c)
    where
      down : Contains (down_alarm now events m) x → Says (Prunes now) events x
      down c = let i = silent_of m x c in subst (Says (Prunes now) events) i.1 (record { time = refl; before = entry_of m there; after = i.0 })

      later : Contains (ring_alarm B now events m) x ⊎ Contains (down_alarm now events m) x → Says (Prunes now) events x
      later (inl c) = says_late B m x c
      later (inr c) = down c

      by : Contains (ring_alarm A now events m) x ⊎ Contains (ring_alarm B now events m ++ down_alarm now events m) x → Says (Prunes now) events x
      by (inl c) = says_late A m x c
      by (inr c) = later (Contains-append_cases (ring_alarm B now events m) (down_alarm now events m) x c)

-- a hearing that removes has the table with it as one more
module _ (h : Hearing) (events : List Event) (up : AreUpTo h.time events) where
  abbrev hs : List Hearing
  hs = kept_in events

  abbrev removal : ℕ
  removal = removal_in events

  removes_parts : removes (Hears h) hs removal ≡ true → (finds_room hs h ≡ true) × (has_entry hs removal h.mac ≡ false)
  removes_parts e =
      let makes = (and_parts (makes_entry h hs removal) (is_filled hs removal) e).0 in
      let parts = and_parts (finds_room hs h) (not (has_entry hs removal h.mac)) makes in
      (parts.0, not-true (has_entry hs removal h.mac) parts.1)

  -- its entries are those that are live then
  entry_then : removes (Hears h) hs removal ≡ true → (m : Mac) → has_entry_in (Hears h ∷ events) m ≡ is_live_by (h ∷ hs) h.time m
  entry_then e m = (λ j. is_live_by (cond ((removes_parts e).0 j) (h ∷ hs) hs) (cond (e j) h.time removal) m)

  others_then : (m : Mac) → has_entry hs removal m ≡ true → has_entry hs removal h.mac ≡ false → is_live_by (h ∷ hs) h.time m ≡ is_live_by hs h.time m
  others_then m there none = by (mac_eq h.mac m) refl
    where
      by : (b : Bool) → mac_eq h.mac m ≡ b → is_live_by (h ∷ hs) h.time m ≡ is_live_by hs h.time m
      by true t = let bad : true ≡ false = sym there ∙ ap (has_entry hs removal) (sym (mac_same h.mac m t)) ∙ none in cc
      by false t = ap (λ l. is_heard l h.time) (of_other h hs m t)

  says_hears : (x : Alarm) → Contains (raised_by (Hears h) events) x → Says (Hears h) events x
  says_hears x c = by (removes (Hears h) hs removal) refl c
    where
      down : removes (Hears h) hs removal ≡ true → (m : Mac) → has (entered events) m ≡ true → Contains (down_alarm h.time events m) x → Says (Hears h) events x
      down e m there c =
          let i = silent_of events h.time up m x c in
          let had = entry_of events h.time up m there in
          subst (Says (Hears h) events) i.1 (record { time = refl; before = had; after = entry_then e m ∙ others_then m had (removes_parts e).1 ∙ i.0 })

      by : (b : Bool) → removes (Hears h) hs removal ≡ b → Contains (cond b (flat_map (down_alarm h.time events) (entered events)) []) x → Says (Hears h) events x
      by true e c = let i = in_flat (down_alarm h.time events) x (entered events) c in down e i.0 i.1 i.2
      by false e c = absurd (none_contains x c)

  downs_have : (m : Mac) → has_entry_in events m ≡ true → has_entry_in (Hears h ∷ events) m ≡ false → Contains (raised_by (Hears h) events) (NodeDown m h.time)
  downs_have m had gone = by (removes (Hears h) hs removal) refl
    where
      still : (room : Bool) → is_live_by (cond room (h ∷ hs) hs) removal m ≡ true
      still true = live_more h hs removal m had
      still false = had

      silent : removes (Hears h) hs removal ≡ true → is_live_by hs h.time m ≡ false
      silent e = sym (others_then m had (removes_parts e).1) ∙ sym (entry_then e m) ∙ gone

      by : (b : Bool) → removes (Hears h) hs removal ≡ b → Contains (cond b (flat_map (down_alarm h.time events) (entered events)) []) (NodeDown m h.time)
      by true e = flat_has (down_alarm h.time events) (NodeDown m h.time) m (entered events) (entered_are events h.time up m ∙ had)
          (if_has (not (is_live_by hs h.time m)) (NodeDown m h.time) (not_from_false (is_live_by hs h.time m) (silent e)))
      by false e =
          let bad : true ≡ false = sym (still (finds_room hs h)) ∙ (λ j. is_live_by (cond (finds_room hs h) (h ∷ hs) hs) (cond (sym e j) h.time removal) m) ∙ gone in
          absurd cc

says : (e : Event) (events : List Event) → AreUpTo (time_of e) events → (x : Alarm) → Contains (raised_by e events) x → Says e events x
says (Prunes now) events up x c = let i = in_flat (prune_alarms now events) x (entered events) c in says_prune events now up i.0 x i.1 i.2
says (Hears h) events up x c = says_hears h events up x c

-- only ring ports are late
not_late_h : (hs : List Hearing) (now : ℕ) → is_late H hs now ≡ false
not_late_h [] now = refl
not_late_h (x ∷ xs) now = refl

not_late_c : (hs : List Hearing) (now : ℕ) → is_late C hs now ≡ false
not_late_c [] now = refl
not_late_c (x ∷ xs) now = refl

module _ (events : List Event) (mac : Mac) (at : ℕ) (up : AreUpTo at events) where
  abbrev Raised : Port → Type 0
  Raised port = Contains (raised_by (Prunes at) events) (RingError mac port at)

  there : (port : Port) → is_late port (kept_of mac events) at ≡ true → has (entered events) mac ≡ true
  there port late = entered_are events at up mac ∙ heard_before (kept_of mac events) (removal_in events) at (removal_le events at up) (late_is_heard port (kept_of mac events) at late)

  newly : (port : Port) → is_late port (kept_of mac events) at ≡ true → was_late_at_prune port mac events ≡ false → Contains (ring_alarm port at events mac) (RingError mac port at)
  newly port late before = if_has (is_newly_late port mac at events) (RingError mac port at)
      (and_from (is_late port (kept_of mac events) at) (not (was_late_at_prune port mac events)) late (not_from_false (was_late_at_prune port mac events) before))

  ports_have : (port : Port) → is_late port (kept_of mac events) at ≡ true → was_late_at_prune port mac events ≡ false → Raised port
  ports_have H late before = let bad : true ≡ false = sym late ∙ not_late_h (kept_of mac events) at in absurd cc
  ports_have C late before = let bad : true ≡ false = sym late ∙ not_late_c (kept_of mac events) at in absurd cc
  ports_have A late before = flat_has (prune_alarms at events) (RingError mac A at) mac (entered events) (there A late)
      (Contains-append_left (ring_alarm A at events mac) (ring_alarm B at events mac ++ down_alarm at events mac) (RingError mac A at) (newly A late before))
  ports_have B late before = flat_has (prune_alarms at events) (RingError mac B at) mac (entered events) (there B late)
      (Contains-append_right (ring_alarm A at events mac) (ring_alarm B at events mac ++ down_alarm at events mac) (RingError mac B at)
      (Contains-append_left (ring_alarm B at events mac) (down_alarm at events mac) (RingError mac B at) (newly B late before)))

  prunes_have : has_entry_in events mac ≡ true → is_live_by (kept_in events) at mac ≡ false → Contains (raised_by (Prunes at) events) (NodeDown mac at)
  prunes_have had gone = flat_has (prune_alarms at events) (NodeDown mac at) mac (entered events) (entered_are events at up mac ∙ had)
      (Contains-append_right (ring_alarm A at events mac) (ring_alarm B at events mac ++ down_alarm at events mac) (NodeDown mac at)
      (Contains-append_right (ring_alarm B at events mac) (down_alarm at events mac) (NodeDown mac at)
      (if_has (not (is_live_by (kept_in events) at mac)) (NodeDown mac at) (not_from_false (is_live_by (kept_in events) at mac) gone))))

pub ring_errors_are_exact : RingErrorsAreExact
ring_errors_are_exact e events mac port at up = (
  λ c. says e events up (RingError mac port at) c,
  λ t. subst (λ x. Contains (raised_by x events) (RingError mac port at)) (sym t.prune)
      (ports_have events mac at (subst (λ x. AreUpTo (time_of x) events) t.prune up) port t.late t.before),
)

pub node_downs_are_exact : NodeDownsAreExact
node_downs_are_exact e events mac at up = (λ c. says e events up (NodeDown mac at) c, λ r. subst (λ n. Contains (raised_by e events) (NodeDown mac n)) r.time (by e up r.before r.after))
  where
    by : (x : Event) → AreUpTo (time_of x) events → has_entry_in events mac ≡ true → has_entry_in (x ∷ events) mac ≡ false → Contains (raised_by x events) (NodeDown mac (time_of x))
    by (Prunes now) up had gone = prunes_have events mac now up had gone
    by (Hears h) up had gone = downs_have h events up mac had gone
