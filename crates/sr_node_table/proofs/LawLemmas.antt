-- The status of an address is that of its hearings.
use Rattle.std.proofs.Common.{◌≡◌, ℕ, ◌-◌, ◌<◌, ◌≤◌, max, Bool, true, false, cond, ◌&&◌, ◌||◌, nat_lt, List, [], ◌∷◌, length, Option, None, Some, is_some, refl, sym, ap, ◌∙◌, subst, arith}
use Rattle.std.specs.List.{IsDistinct}
use Rattle.std.specs.Map.{lookup, keys_of}
use Rattle.std.proofs.lemmas.Bool.{ltb-true, lt-ltb}
use Rattle.sr_frame.specs.declared.fields.Mac.{Mac}
use Rattle.sr_frame.specs.declared.ports.Port.{Port}
use Rattle.sr_frame.specs.declared.ports.Port.TheVariants.{H, A, B, C}
use Rattle.sr_frame.specs.declared.learn_outcome.LearnOutcome.{LearnOutcome}
use Rattle.sr_frame.specs.declared.learn_outcome.LearnOutcome.TheVariants.{New, Known, Full}
use Rattle.sr_frame.specs.Addresses.{mac_eq}
use Rattle.sr_frame.specs.AddressLemmas.{mac_same}
use Rattle.sr_slots.specs.Calls.{passing}
use Rattle.sr_slots.specs.EntryLemmas.{lookup-set, distinct-set, lookup-push, distinct-push, lookup-passing, distinct-passing}
use Rattle.sr_aged_slots.specs.Ages.{is_recent}
use Rattle.sr_aged_slots.specs.AgeLemmas.{through_cond, passing_before}
use Rattle.sr_node_table.specs.Nodes.{Hearing, Entry, Table, is_live, live_at, with_room, node_after, entry_begun, entry_after, answer_to, kept_by, after_answer, after_hearing}
use Rattle.sr_node_table.specs.Watching.{after_prune}
use Rattle.sr_node_table.specs.Stating.{live_entry, status_if, status_of}
use Rattle.sr_node_table.specs.Hearings.{is_heard, life_of, node_in, Event, Hears, Prunes, table_after, is_kept, hearings_of, AreUpTo, StatusIsOfHearings, HasIsOfHearings}

-- the entry after a hearing, by the live entry before it
abbrev next_by : Option Entry → Hearing → Entry
next_by (Some e) h = record { value = node_after e.value h.port h.told h.time; time = max e.time h.time }
next_by None h = entry_begun h.port h.told h.time

next_at : (e : Entry) (h : Hearing) → entry_after e h.port h.told h.time ≡ next_by (passing (is_live h.time) (Some e)) h
next_at e h = by (is_live h.time e)
  where
    by : (b : Bool) → cond b (next_by (Some e) h) (entry_begun h.port h.told h.time) ≡ next_by (cond b (Some e) None) h
    by true = refl
    by false = refl

module _ (t : Table) (unique : IsDistinct mac_eq (keys_of t.entries)) where
  abbrev live : ℕ → Mac → Option Entry
  live u m = live_entry t m u

  -- a prune leaves what is live from then on
  prune_unique : (now : ℕ) → IsDistinct mac_eq (keys_of (after_prune t now).entries)
  prune_unique now = distinct-passing (is_live now) t.entries unique

  prune_live : (now u : ℕ) (q : Mac) → now ≤ u → live_entry (after_prune t now) q u ≡ live u q
  prune_live now u q le = ap (passing (is_live u)) (lookup-passing (is_live now) q t.entries unique) ∙ passing_before (λ e. e.time) 60000 now u le (lookup (mac_eq q) t.entries)

  module _ (h : Hearing) where
    -- what stays where a new node comes
    room_unique : IsDistinct mac_eq (keys_of (with_room h.time t.entries))
    room_unique = by (nat_lt (length t.entries) 1024)
      where
        by : (b : Bool) → IsDistinct mac_eq (keys_of (cond b t.entries (live_at h.time t.entries)))
        by true = unique
        by false = distinct-passing (is_live h.time) t.entries unique

    room_live : (q : Mac) (u : ℕ) → h.time ≤ u → passing (is_live u) (lookup (mac_eq q) (with_room h.time t.entries)) ≡ live u q
    room_live q u le = by (nat_lt (length t.entries) 1024)
      where
        by : (b : Bool) → passing (is_live u) (lookup (mac_eq q) (cond b t.entries (live_at h.time t.entries))) ≡ live u q
        by true = refl
        by false = prune_live h.time u q le

    room_none : lookup (mac_eq h.mac) t.entries ≡ None → lookup (mac_eq h.mac) (with_room h.time t.entries) ≡ None
    room_none at = by (nat_lt (length t.entries) 1024)
      where
        by : (b : Bool) → lookup (mac_eq h.mac) (cond b t.entries (live_at h.time t.entries)) ≡ None
        by true = at
        by false = lookup-passing (is_live h.time) h.mac t.entries unique ∙ ap (passing (is_live h.time)) at

    -- a hearing that is kept leaves the others, and this address with its entry anew
    record Leaves (next : Entry) (new : Table) : Type 0 where
      pub apart : IsDistinct mac_eq (keys_of new.entries)
      pub live : (u : ℕ) → h.time ≤ u → (q : Mac) → live_entry new q u ≡ cond (mac_eq h.mac q) (passing (is_live u) (Some next)) (live_entry t q u)

    leaves_at : (o : Option Entry) → lookup (mac_eq h.mac) t.entries ≡ o → Leaves (next_by (passing (is_live h.time) o) h) (kept_by o t h)
    leaves_at None at =
        let w = entry_begun h.port h.told h.time in
        let r = with_room h.time t.entries in
        record {
          apart = distinct-push h.mac w r room_unique (room_none at);
          live = λ u le q.
              ap (passing (is_live u)) (lookup-push h.mac q w r (room_none at)) ∙ through_cond (is_live u) (mac_eq h.mac q) w (lookup (mac_eq q) r)
              ∙ ap (λ o. cond (mac_eq h.mac q) (passing (is_live u) (Some w)) o) (room_live q u le);
        }
    leaves_at (Some e) at =
        let w = entry_after e h.port h.told h.time in
        subst (λ x. Leaves x (kept_by (Some e) t h)) (next_at e h) (record {
          apart = distinct-set h.mac w t.entries unique;
          live = λ u le q. ap (passing (is_live u)) (lookup-set h.mac q w t.entries (ap is_some at)) ∙ through_cond (is_live u) (mac_eq h.mac q) w (lookup (mac_eq q) t.entries);
        })

    leaves : Leaves (next_by (live h.time h.mac) h) (kept_by (lookup (mac_eq h.mac) t.entries) t h)
    leaves = leaves_at (lookup (mac_eq h.mac) t.entries) refl

-- the latest time of any hearing
abbrev last_heard : List Hearing → ℕ
last_heard [] = 0
last_heard (h ∷ hs) = max (last_heard hs) h.time

-- the entry that hearings make
abbrev entry_of : List Hearing → Entry
entry_of hs = record { value = node_in (life_of hs); time = last_heard hs }

abbrev expected : List Hearing → ℕ → Option Entry
expected hs u = cond (is_heard hs u) (Some (entry_of hs)) None

heard_last : (hs : List Hearing) (u : ℕ) → is_heard hs u ≡ true → u - last_heard hs < 60000
heard_last [] u h = cc
heard_last (x ∷ hs) u h = by (is_recent 60000 u x.time) refl h (heard_last hs u)
  where
    by : (b : Bool) → is_recent 60000 u x.time ≡ b → (b || is_heard hs u) ≡ true → (is_heard hs u ≡ true → u - last_heard hs < 60000) → u - max (last_heard hs) x.time < 60000
    by true r h ih = let l : u - x.time < 60000 = ltb-true (u - x.time) 60000 r in omega arith
    by false r h ih = omega (arith, ih h)

-- with one more hearing, not before the others
module _ (h : Hearing) (hs : List Hearing) (later : last_heard hs ≤ h.time) where
  node_more : (life : List Hearing) → node_after (node_in life) h.port h.told h.time ≡ node_in (h ∷ life)
  node_more life = by h.port
    where
      by : (p : Port) → node_after (node_in life) p h.told h.time ≡ node_in ((record h { port = p }) ∷ life)
      by H = refl
      by A = refl
      by B = refl
      by C = refl

  next_is : next_by (expected hs h.time) h ≡ entry_of (h ∷ hs)
  next_is = by (is_heard hs h.time)
    where
      time : max (last_heard hs) h.time ≡ h.time
      time = omega arith

      by : (b : Bool) → next_by (cond b (Some (entry_of hs)) None) h ≡ record { value = node_in (cond b (h ∷ life_of hs) (h ∷ [])); time = max (last_heard hs) h.time }
      by true = λ j. record { value = node_more (life_of hs) j; time = max (last_heard hs) h.time }
      by false = λ j. record { value = node_more [] j; time = sym time j }

  live_is : (u : ℕ) → is_live u (entry_of (h ∷ hs)) ≡ is_heard (h ∷ hs) u
  live_is u = ap (is_recent 60000 u) time ∙ by (is_recent 60000 u h.time) refl (is_heard hs u) refl
    where
      time : max (last_heard hs) h.time ≡ h.time
      time = omega arith

      by : (b : Bool) → is_recent 60000 u h.time ≡ b → (c : Bool) → is_heard hs u ≡ c → b ≡ (b || c)
      by true r c k = refl
      by false r false k = refl
      by false r true k =
          let l : u - last_heard hs < 60000 = heard_last hs u k in
          let bad : true ≡ false = sym (lt-ltb (u - h.time) 60000 (omega arith)) ∙ r in
          cc

  expected_more : (u : ℕ) → passing (is_live u) (Some (next_by (expected hs h.time) h)) ≡ expected (h ∷ hs) u
  expected_more u = ap (λ e. passing (is_live u) (Some e)) next_is ∙ ap (λ b. cond b (Some (entry_of (h ∷ hs))) None) (live_is u)

-- no hearing is after the last event
heard_up_to : (events : List Event) (now : ℕ) (m : Mac) → AreUpTo now events → last_heard (hearings_of m events) ≤ now
heard_up_to [] now m up = omega arith
heard_up_to (Prunes at ∷ events) now m up = let l : last_heard (hearings_of m events) ≤ at = heard_up_to events at m up.1 in let le : at ≤ now = up.0 in omega arith
heard_up_to (Hears h ∷ events) now m up = by (mac_eq h.mac m && is_kept (answer_to (table_after events) h)) (heard_up_to events h.time m up.1) up.0
  where
    by : (b : Bool) → last_heard (hearings_of m events) ≤ h.time → h.time ≤ now → last_heard (cond b (h ∷ hearings_of m events) (hearings_of m events)) ≤ now
    by true l le = omega arith
    by false l le = omega arith

-- what holds after events
record Holds (events : List Event) (now : ℕ) (t : Table) : Type 0 where
  pub unique : IsDistinct mac_eq (keys_of t.entries)
  pub live : (u : ℕ) → now ≤ u → (m : Mac) → live_entry t m u ≡ expected (hearings_of m events) u

module _ (h : Hearing) (events : List Event) (up : AreUpTo h.time events) (was : Holds events h.time (table_after events)) where
  abbrev before : Table
  before = table_after events

  kept_live : (u : ℕ) → h.time ≤ u → (m : Mac)
      → live_entry (kept_by (lookup (mac_eq h.mac) before.entries) before h) m u ≡ expected (cond (mac_eq h.mac m && true) (h ∷ hearings_of m events) (hearings_of m events)) u
  kept_live u le m = (leaves before was.unique h).live u le m ∙ by (mac_eq h.mac m) refl
    where
      by : (b : Bool) → mac_eq h.mac m ≡ b
          → cond b (passing (is_live u) (Some (next_by (live_entry before h.mac h.time) h))) (live_entry before m u) ≡ expected (cond (b && true) (h ∷ hearings_of m events) (hearings_of m events)) u
      by true t =
          ap (λ o. passing (is_live u) (Some (next_by o h))) (was.live h.time (omega arith) h.mac)
          ∙ expected_more h (hearings_of h.mac events) (heard_up_to events h.time h.mac up) u
          ∙ ap (λ k. expected (h ∷ hearings_of k events) u) (mac_same h.mac m t)
      by false t = was.live u le m

  unkept_live : (u : ℕ) → h.time ≤ u → (m : Mac) → live_entry before m u ≡ expected (cond (mac_eq h.mac m && false) (h ∷ hearings_of m events) (hearings_of m events)) u
  unkept_live u le m = was.live u le m ∙ by (mac_eq h.mac m)
    where
      by : (b : Bool) → expected (hearings_of m events) u ≡ expected (cond (b && false) (h ∷ hearings_of m events) (hearings_of m events)) u
      by true = refl
      by false = refl

  heard_by : (a : LearnOutcome) → (u : ℕ) → h.time ≤ u → (m : Mac)
      → live_entry (after_answer a before h) m u ≡ expected (cond (mac_eq h.mac m && is_kept a) (h ∷ hearings_of m events) (hearings_of m events)) u
  heard_by Full u le m = unkept_live u le m
  heard_by New u le m = kept_live u le m
  heard_by Known u le m = kept_live u le m

  heard_unique : (a : LearnOutcome) → IsDistinct mac_eq (keys_of (after_answer a before h).entries)
  heard_unique Full = was.unique
  heard_unique New = (leaves before was.unique h).apart
  heard_unique Known = (leaves before was.unique h).apart

  hears : Holds (Hears h ∷ events) h.time (after_hearing before h)
  hears = record { unique = heard_unique (answer_to before h); live = heard_by (answer_to before h) }

holds_later : (events : List Event) (now later : ℕ) (t : Table) → now ≤ later → Holds events now t → Holds events later t
holds_later events now later t le h = record { unique = h.unique; live = λ u l. h.live u (omega arith) }

holds : (events : List Event) (now : ℕ) → AreUpTo now events → Holds events now (table_after events)
unfolding IsDistinct
holds [] now up = record { unique = tt; live = λ u le m. refl }
holds (Hears h ∷ events) now up = holds_later (Hears h ∷ events) h.time now (table_after (Hears h ∷ events)) up.0 (hears h events up.1 (holds events h.time up.1))
holds (Prunes at ∷ events) now up =
    let was = holds events at up.1 in
    let t = table_after events in
    holds_later (Prunes at ∷ events) at now (after_prune t at) up.0 (record {
      unique = prune_unique t was.unique at;
      live = λ u le m. prune_live t was.unique at u m le ∙ was.live u le m;
    })

pub status_is_of_hearings_lem : StatusIsOfHearings
status_is_of_hearings_lem events now mac up = ap (λ o. status_if o mac now) ((holds events now up).live now (omega arith) mac) ∙ by (is_heard (hearings_of mac events) now)
  where
    hs : List Hearing
    hs = hearings_of mac events

    by : (b : Bool) → status_if (cond b (Some (entry_of (hearings_of mac events))) None) mac now ≡ cond b (Some (status_of mac (node_in (life_of (hearings_of mac events))) now)) None
    by true = refl
    by false = refl

pub has_is_of_hearings_lem : HasIsOfHearings
has_is_of_hearings_lem events now mac up = ap is_some ((holds events now up).live now (omega arith) mac) ∙ by (is_heard (hearings_of mac events) now)
  where
    by : (b : Bool) → is_some (cond b (Some (entry_of (hearings_of mac events))) None) ≡ b
    by true = refl
    by false = refl
