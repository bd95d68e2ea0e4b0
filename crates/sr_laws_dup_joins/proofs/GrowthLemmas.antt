-- What a table that came about by a tree tells of each source.
use Rattle.std.proofs.Common.{◌≡◌, ℕ, ◌-◌, ◌<◌, ◌≤◌, max, Bool, true, false, cond, not, nat_lt, ◌&&◌, List, [], ◌∷◌, ◌++◌, length, Option, None, Some, is_some, refl, sym, ap, ◌∙◌, subst, arith, append-nil}
use Rattle.std.specs.List.{IsDistinct, AllByRecursion}
use Rattle.std.specs.Map.{lookup, set_value, keys_of}
use Rattle.std.proofs.lemmas.Bool.{ltb-true, lt-ltb}
use Rattle.sr_frame.specs.declared.fields.Mac.{Mac}
use Rattle.sr_frame.specs.Addresses.{mac_eq}
use Rattle.sr_frame.specs.AddressLemmas.{mac_same, mac_refl, mac_symm}
use Rattle.sr_sequence.specs.Numbers.{wire}
use Rattle.sr_slots.specs.Calls.{passing}
use Rattle.sr_slots.specs.EntryLemmas.{lookup-set, distinct-set, lookup-push, distinct-push, lookup-passing, distinct-passing}
use Rattle.sr_dup_window.specs.declared.lane_sets.Lane.{Lane}
use Rattle.sr_dup_window.specs.declared.lane_sets.Lanes.{Lanes}
use Rattle.sr_dup_window.specs.LaneSets.{has, is_empty}
use Rattle.sr_dup_window.specs.LaneLemmas.{has-lanes_where}
use Rattle.sr_dup_window.specs.Windows.{window_noted, fresh_lanes}
use Rattle.sr_dup_window.specs.WindowLemmas.{begun-stands, noted-stands, merged-stands, fresh-lanes-by-family}
use Rattle.sr_dup_window.specs.Bins.{IsWidth}
use Rattle.sr_dup_window.specs.Families.{singleton, join, greater}
use Rattle.sr_dup_table.specs.Limits.{most_sources}
use Rattle.sr_dup_table.specs.Sources.{Remembered, Sources, is_recent, is_live, live_at, with_room, begun_at, heard_next, answer_of, after_of}
use Rattle.sr_dup_table.specs.Joins.{joined, joined_heard, IsJoin, lacking_in}
use Rattle.sr_laws_dup.specs.TableRuns.{Noting}
use Rattle.sr_laws_dup_joins.specs.Growths.{Growth, empty, started, arrived, aged, merged, Grew, newest, remembered, epoch, numbers, latest, IsNearAll, AreClose, AreInOrder, AreSteady}
use Rattle.sr_laws_dup_joins.specs.GrowthLaws.{Tells, TablesStand, AnswersByTheUnion}
use Rattle.sr_laws_dup_joins.proofs.ListLemmas.{stands-like, one-number, more-numbers, both-numbers, newest-both}
use Rattle.sr_laws_dup_joins.proofs.StartLemmas.{start_tells}

-- what is live later was live before
live-before : (at now : ℕ) (h : Remembered) → at ≤ now → is_live now h ≡ true → is_live at h ≡ true
live-before at now h le live = let l : now - h.time < 400 = ltb-true (now - h.time) 400 live in lt-ltb (at - h.time) 400 (omega arith)

pub passing-again : (at now : ℕ) (o : Option Remembered) → at ≤ now → passing (is_live now) (passing (is_live at) o) ≡ passing (is_live now) o
passing-again at now None le = refl
passing-again at now (Some h) le = by (is_live at h) refl (is_live now h) refl
  where
    by : (a : Bool) → is_live at h ≡ a → (b : Bool) → is_live now h ≡ b → passing (is_live now) (cond a (Some h) None) ≡ cond (is_live now h) (Some h) None
    by true p b q = refl
    by false p true q = let bad : true ≡ false = sym (live-before at now h le q) ∙ p in cc
    by false p false q = sym (ap (λ c. cond c (Some h) None) q)

-- what is told stays told as time passes
remembered-tells : (w : ℕ) (src : Mac) (now : ℕ) (xs : List Noting) (o : Option Remembered) → Tells w src xs o → Tells w src (remembered now xs) (passing (is_live now) o)
remembered-tells w src now xs None none = by (is_recent now (newest xs))
  where
    by : (b : Bool) → cond b xs [] ≡ []
    by true = none
    by false = refl
remembered-tells w src now xs (Some h) told = by (is_live now h) refl (ap (is_recent now) told.0)
  where
    by : (b : Bool) → is_live now h ≡ b → is_recent now (newest xs) ≡ is_live now h → Tells w src (cond (is_recent now (newest xs)) xs []) (cond (is_live now h) (Some h) None)
    by true p e = rw (e, p) told
    by false p e = rw (e, p) refl

-- the record of a source after one more arrival, by what is live of it
abbrev next-of : ℕ → Option Remembered → Noting → Remembered
next-of w None x = begun_at w (wire x.arrival.number) x.lanes x.arrival.time
next-of w (Some h) x = record { seen = window_noted w h.seen (wire x.arrival.number) x.lanes; time = max h.time x.arrival.time }

next-tells : (w : ℕ) → IsWidth w → (x : Noting) (xs : List Noting) (o : Option Remembered) → is_empty x.lanes ≡ false → IsNearAll w (numbers x.arrival.src xs) x.arrival.number
    → Tells w x.arrival.src xs o → Tells w x.arrival.src (x ∷ xs) (Some (next-of w o x))
next-tells w width x xs None some near none =
    let P : List Noting → Type 0 = λ ys. Tells w x.arrival.src (x ∷ ys) (Some (next-of w None x)) in
    let n = x.arrival.number in
    subst P (sym none) (
      omega arith,
      n,
      stands-like w (next-of w None x).seen (singleton x.lanes n) (numbers x.arrival.src (x ∷ [])) n (one-number x)
          (begun-stands w x.lanes n (wire n) width some refl),
    )
next-tells w width x xs (Some h) some near told =
    let n = x.arrival.number in (
      omega (arith, told.0),
      greater told.1 n,
      stands-like w (next-of w (Some h) x).seen (join (numbers x.arrival.src xs) (singleton x.lanes n)) (numbers x.arrival.src (x ∷ xs)) (greater told.1 n)
          (more-numbers x xs)
          (noted-stands w h.seen (numbers x.arrival.src xs) told.1 n (wire n) x.lanes width some told.2 (near told.1 told.2.top) refl),
    )

next-heard : (w : ℕ) (h : Remembered) (x : Noting) → heard_next w h (wire x.arrival.number) x.lanes x.arrival.time ≡ next-of w (passing (is_live x.arrival.time) (Some h)) x
next-heard w h x = by (is_live x.arrival.time h)
  where
    by : (b : Bool)
        → cond b (record { seen = window_noted w h.seen (wire x.arrival.number) x.lanes; time = max h.time x.arrival.time })
        (begun_at w (wire x.arrival.number) x.lanes x.arrival.time) ≡ next-of w (cond b (Some h) None) x
    by true = refl
    by false = refl

-- what both tell of a source is told of its join
both-tell : (w : ℕ) → IsWidth w → (src : Mac) (xs ys : List Noting) (a b : Option Remembered) → AreClose (numbers src xs) (numbers src ys) → Tells w src xs a → Tells w src ys b
    → Tells w src (xs ++ ys) (joined w a b)
both-tell w width src xs ys None None close one other = rw (one, other) refl
both-tell w width src xs ys None (Some b) close one other = rw one other
both-tell w width src xs ys (Some a) None close one other =
    let P : List Noting → Type 0 = λ zs. Tells w src zs (Some a) in subst P (sym (ap (λ zs. xs ++ zs) other ∙ append-nil xs)) one
both-tell w width src xs ys (Some a) (Some b) close one other = (
  omega (arith, newest-both xs ys, one.0, other.0),
  greater one.1 other.1,
  stands-like w (joined_heard w a b).seen (join (numbers src xs) (numbers src ys)) (numbers src (xs ++ ys)) (greater one.1 other.1) (both-numbers src xs ys)
      (merged-stands w a.seen b.seen (numbers src xs) (numbers src ys) one.1 other.1 width one.2 other.2
      (close one.1 other.1 one.2.top other.2.top)),
)

-- no two sources of a join are one
lacking-apart : (m : Mac) (one other : Sources) → is_some (lookup (mac_eq m) one) ≡ true
    → AllByRecursion (λ y. mac_eq m y ≡ false) (keys_of (lacking_in one other))
lacking-apart m one [] there = tt
lacking-apart m one (e ∷ other) there = by (is_some (lookup (mac_eq e.0) one)) refl (mac_eq m e.0) refl (lacking-apart m one other there)
  where
    by : (a : Bool) → is_some (lookup (mac_eq e.0) one) ≡ a → (b : Bool) → mac_eq m e.0 ≡ b
        → AllByRecursion (λ y. mac_eq m y ≡ false) (keys_of (lacking_in one other))
        → AllByRecursion (λ y. mac_eq m y ≡ false) (keys_of (cond (not a) (e ∷ lacking_in one other) (lacking_in one other)))
    by true p b q rest = rest
    by false p false q rest = (q, rest)
    by false p true q rest = let bad : true ≡ false = sym there ∙ ap (λ k. is_some (lookup (mac_eq k) one)) (mac_same m e.0 q) ∙ p in cc

apart-lacking : (m : Mac) (one t : Sources) → AllByRecursion (λ y. mac_eq m y ≡ false) (keys_of t)
    → AllByRecursion (λ y. mac_eq m y ≡ false) (keys_of (lacking_in one t))
apart-lacking m one [] h = tt
apart-lacking m one (f ∷ t) h = by (is_some (lookup (mac_eq f.0) one)) (apart-lacking m one t h.1)
  where
    by : (b : Bool) → AllByRecursion (λ y. mac_eq m y ≡ false) (keys_of (lacking_in one t))
        → AllByRecursion (λ y. mac_eq m y ≡ false) (keys_of (cond (not b) (f ∷ lacking_in one t) (lacking_in one t)))
    by true rest = rest
    by false rest = (h.0, rest)

lacking-distinct : (one other : Sources) → IsDistinct mac_eq (keys_of other) → IsDistinct mac_eq (keys_of (lacking_in one other))
unfolding IsDistinct
lacking-distinct one [] unique = tt
lacking-distinct one (e ∷ other) unique = by (is_some (lookup (mac_eq e.0) one)) (lacking-distinct one other unique.1)
  where
    by : (a : Bool) → IsDistinct mac_eq (keys_of (lacking_in one other))
        → IsDistinct mac_eq (keys_of (cond (not a) (e ∷ lacking_in one other) (lacking_in one other)))
    by true rest = rest
    by false rest = (apart-lacking e.0 one other unique.0, rest)

distinct-both : (ks ls : List Mac) → IsDistinct mac_eq ks → IsDistinct mac_eq ls
    → AllByRecursion (λ k. AllByRecursion (λ y. mac_eq k y ≡ false) ls) ks → IsDistinct mac_eq (ks ++ ls)
unfolding IsDistinct
distinct-both [] ls one other apart = other
distinct-both (k ∷ ks) ls one other apart = (with_rest ks one.0, distinct-both ks ls one.1 other apart.1)
  where
    with_rest : (ms : List Mac) → AllByRecursion (λ y. mac_eq k y ≡ false) ms → AllByRecursion (λ y. mac_eq k y ≡ false) (ms ++ ls)
    with_rest [] h = apart.0
    with_rest (m ∷ ms) h = (h.0, with_rest ms h.1)

each-found : (s : Sources) → AllByRecursion (λ k. is_some (lookup (mac_eq k) s) ≡ true) (keys_of s)
each-found [] = tt
each-found (e ∷ s) = (ap (λ b. is_some (cond b (Some e.1) (lookup (mac_eq e.0) s))) (mac_refl e.0), more (keys_of s) (each-found s))
  where
    more : (ks : List Mac) → AllByRecursion (λ k. is_some (lookup (mac_eq k) s) ≡ true) ks → AllByRecursion (λ k. is_some (lookup (mac_eq k) (e ∷ s)) ≡ true) ks
    more [] h = tt
    more (k ∷ ks) h = (by (mac_eq k e.0), more ks h.1)
      where
        by : (b : Bool) → is_some (cond b (Some e.1) (lookup (mac_eq k) s)) ≡ true
        by true = refl
        by false = h.0

join-distinct : (w : ℕ) (one other both : Sources) → IsJoin w one other both → IsDistinct mac_eq (keys_of one) → IsDistinct mac_eq (keys_of other)
    → IsDistinct mac_eq (keys_of both)
join-distinct w one other both joins first second =
    subst (IsDistinct mac_eq) (sym joins.order)
    (distinct-both (keys_of one) (keys_of (lacking_in one other)) first (lacking-distinct one other second) (all (keys_of one) (each-found one)))
  where
    all : (ks : List Mac) → AllByRecursion (λ k. is_some (lookup (mac_eq k) one) ≡ true) ks
        → AllByRecursion (λ k. AllByRecursion (λ y. mac_eq k y ≡ false) (keys_of (lacking_in one other))) ks
    all [] h = tt
    all (k ∷ ks) h = (lacking-apart k one other h.0, all ks h.1)

-- a table tells of each source what the tree does, from the last turn on
pub record Kept (w : ℕ) (t : Growth) (s : Sources) : Type 0 where
  pub keys : IsDistinct mac_eq (keys_of s)
  pub tells : (src : Mac) (now : ℕ) → latest t ≤ now → Tells w src (epoch src now t) (passing (is_live now) (lookup (mac_eq src) s))

none-twice : IsDistinct mac_eq []
unfolding IsDistinct
none-twice = tt

module _ (w : ℕ) (width : IsWidth w) (t : Growth) (x : Noting) (old : Sources) (earlier : Kept w t old) (le : latest t ≤ x.arrival.time) where
  -- after an arrival its source has a new record, and the others are live as they were
  kept-after : (new : Sources) (h : Remembered) → IsDistinct mac_eq (keys_of new) → Tells w x.arrival.src (x ∷ epoch x.arrival.src x.arrival.time t) (Some h)
      → ((q : Mac) (u : ℕ) → x.arrival.time ≤ u
      → passing (is_live u) (lookup (mac_eq q) new) ≡ cond (mac_eq x.arrival.src q) (passing (is_live u) (Some h)) (passing (is_live u) (lookup (mac_eq q) old)))
      → Kept w (arrived t x) new
  kept-after new h keys told live = record { keys = keys; tells = λ q u later. by q u later (mac_eq x.arrival.src q) refl }
    where
      own : (u : ℕ) → x.arrival.time ≤ u → Tells w x.arrival.src (epoch x.arrival.src u (arrived t x)) (passing (is_live u) (lookup (mac_eq x.arrival.src) new))
      own u later = rw (live x.arrival.src u later, mac_refl x.arrival.src) (remembered-tells w x.arrival.src u (x ∷ epoch x.arrival.src x.arrival.time t) (Some h) told)

      by : (q : Mac) (u : ℕ) → x.arrival.time ≤ u → (b : Bool) → mac_eq x.arrival.src q ≡ b → Tells w q (epoch q u (arrived t x)) (passing (is_live u) (lookup (mac_eq q) new))
      by q u later true p =
          let P : Mac → Type 0 = λ m. Tells w m (epoch m u (arrived t x)) (passing (is_live u) (lookup (mac_eq m) new)) in
          subst P (mac_same x.arrival.src q p) (own u later)
      by q u later false p =
          let other : mac_eq q x.arrival.src ≡ false = mac_symm q x.arrival.src ∙ p in
          rw (live q u later, p, other) (earlier.tells q u (omega arith))

  -- the sources that stay where a new one comes
  room : Sources
  room = with_room x.arrival.time old

  room-keys : IsDistinct mac_eq (keys_of (with_room x.arrival.time old))
  room-keys = by (nat_lt (length old) most_sources)
    where
      by : (b : Bool) → IsDistinct mac_eq (keys_of (cond b old (live_at x.arrival.time old)))
      by true = earlier.keys
      by false = distinct-passing (is_live x.arrival.time) old earlier.keys

  room-live : (q : Mac) (u : ℕ) → x.arrival.time ≤ u
      → passing (is_live u) (lookup (mac_eq q) (with_room x.arrival.time old)) ≡ passing (is_live u) (lookup (mac_eq q) old)
  room-live q u later = by (nat_lt (length old) most_sources)
    where
      by : (b : Bool) → passing (is_live u) (lookup (mac_eq q) (cond b old (live_at x.arrival.time old))) ≡ passing (is_live u) (lookup (mac_eq q) old)
      by true = refl
      by false = ap (passing (is_live u)) (lookup-passing (is_live x.arrival.time) q old earlier.keys) ∙ passing-again x.arrival.time u (lookup (mac_eq q) old) later

  room-none : lookup (mac_eq x.arrival.src) old ≡ None → lookup (mac_eq x.arrival.src) (with_room x.arrival.time old) ≡ None
  room-none none = by (nat_lt (length old) most_sources)
    where
      by : (b : Bool) → lookup (mac_eq x.arrival.src) (cond b old (live_at x.arrival.time old)) ≡ None
      by true = none
      by false = lookup-passing (is_live x.arrival.time) x.arrival.src old earlier.keys ∙ ap (passing (is_live x.arrival.time)) none

  through-cond : (u : ℕ) (b : Bool) (h : Remembered) (o : Option Remembered) → passing (is_live u) (cond b (Some h) o) ≡ cond b (passing (is_live u) (Some h)) (passing (is_live u) o)
  through-cond u true h o = refl
  through-cond u false h o = refl

  arrived-kept : (o : Option Remembered) → lookup (mac_eq x.arrival.src) old ≡ o → is_empty x.lanes ≡ false
      → IsNearAll w (numbers x.arrival.src (epoch x.arrival.src x.arrival.time t)) x.arrival.number
      → Kept w (arrived t x) (after_of w o old x.arrival.src (wire x.arrival.number) x.lanes x.arrival.time)
  arrived-kept None at some near =
      let xs = epoch x.arrival.src x.arrival.time t in
      let r = with_room x.arrival.time old in
      let h = begun_at w (wire x.arrival.number) x.lanes x.arrival.time in
      let none = room-none at in
      let was : Tells w x.arrival.src xs None = rw at at (earlier.tells x.arrival.src x.arrival.time le) in
      kept-after (r ++ (x.arrival.src, h) ∷ []) h (distinct-push x.arrival.src h r room-keys none) (next-tells w width x xs None some near was)
      (λ q u later.
      ap (passing (is_live u)) (lookup-push x.arrival.src q h r none)
      ∙ through-cond u (mac_eq x.arrival.src q) h (lookup (mac_eq q) r)
      ∙ ap (λ o. cond (mac_eq x.arrival.src q) (passing (is_live u) (Some h)) o) (room-live q u later))
  arrived-kept (Some g) at some near =
      let xs = epoch x.arrival.src x.arrival.time t in
      let h = heard_next w g (wire x.arrival.number) x.lanes x.arrival.time in
      let o = passing (is_live x.arrival.time) (Some g) in
      let was : Tells w x.arrival.src xs o = subst (λ p. Tells w x.arrival.src xs (passing (is_live x.arrival.time) p)) at (earlier.tells x.arrival.src x.arrival.time le) in
      kept-after (set_value (mac_eq x.arrival.src) old h) h (distinct-set x.arrival.src h old earlier.keys)
      (subst (λ h. Tells w x.arrival.src (x ∷ xs) (Some h)) (sym (next-heard w g x)) (next-tells w width x xs o some near was))
      (λ q u later.
      ap (passing (is_live u)) (lookup-set x.arrival.src q h old (ap is_some at))
      ∙ through-cond u (mac_eq x.arrival.src q) h (lookup (mac_eq q) old))

-- what is live, looked up
pub live-is : (now : ℕ) (s : Sources) (src : Mac) → IsDistinct mac_eq (keys_of s) → lookup (mac_eq src) (live_at now s) ≡ passing (is_live now) (lookup (mac_eq src) s)
live-is now s src keys = lookup-passing (is_live now) src s keys

pub kept : (w : ℕ) → IsWidth w → (t : Growth) (s : Sources) → Grew w t s → AreInOrder t → AreSteady w t → Kept w t s
kept w width empty s grew order steady =
    let P : Sources → Type 0 = λ z. Kept w empty z in subst P (sym grew) (record { keys = none-twice; tells = λ src now le. refl })
kept w width (started from top start) s grew order steady =
    let P : Sources → Type 0 = λ z. Kept w (started from top start) z in
    subst P (sym grew.1) (record { keys = grew.0.keys; tells = λ src now le. start_tells w width from top start grew.0 src now le })
kept w width (arrived t x) s grew order steady =
    let P : Sources → Type 0 = λ z. Kept w (arrived t x) z in
    let old = grew.0 in
    subst P (sym grew.3.2)
    (arrived-kept w width t x old (kept w width t old grew.2 order.0 steady.0) order.1 (lookup (mac_eq x.arrival.src) old) refl grew.3.0 steady.1)
kept w width (aged t now) s grew order steady =
    let P : Sources → Type 0 = λ z. Kept w (aged t now) z in
    let old = grew.0 in
    let k = kept w width t old grew.1 order.0 steady in
    subst P (sym grew.2) (record {
      keys = distinct-passing (is_live now) old k.keys;
      tells = λ src u le.
          let Q : Option Remembered → Type 0 = λ o. Tells w src (epoch src u t) o in
          subst Q (sym (ap (passing (is_live u)) (live-is now old src k.keys) ∙ passing-again now u (lookup (mac_eq src) old) le))
          (k.tells src u (omega (arith, order.1)));
    })
kept w width (merged t u now) s grew order steady =
    let one = grew.0 in
    let other = grew.1 in
    let a = kept w width t one grew.2 order.0 steady.0 in
    let b = kept w width u other grew.3 order.1 steady.1 in
    record {
      keys = join-distinct w (live_at now one) (live_at now other) s grew.4 (distinct-passing (is_live now) one a.keys)
          (distinct-passing (is_live now) other b.keys);
      tells = λ src v le.
          let xs = epoch src now t in
          let ys = epoch src now u in
          let o = lookup (mac_eq src) (live_at now one) in
          let p = lookup (mac_eq src) (live_at now other) in
          let Q : Option Remembered → Type 0 = λ r. Tells w src (epoch src v (merged t u now)) (passing (is_live v) r) in
          let first : Tells w src xs o = rw (live-is now one src a.keys) (a.tells src now order.2) in
          let second : Tells w src ys p = rw (live-is now other src b.keys) (b.tells src now order.3) in
          subst Q (sym (grew.4.each src))
          (remembered-tells w src v (xs ++ ys) (joined w o p) (both-tell w width src xs ys o p (steady.2 src) first second));
    }

pub tables_stand : TablesStand
tables_stand w width t s src now grew steady le =
    let k = kept w width t s grew steady.0 steady.1 in
    let Q : Option Remembered → Type 0 = λ o. Tells w src (epoch src now t) o in
    subst Q (sym (live-is now s src k.keys)) (k.tells src now le)

-- an arrival of a source that is not live is new on all asked lanes
module _ (w : ℕ) (width : IsWidth w) (x : Noting) (fresh : Lanes) (lane : Lane) where
  and-not-false : (b : Bool) → b ≡ (b && true)
  and-not-false true = refl
  and-not-false false = refl

  all-new : (xs : List Noting) → xs ≡ [] → x.lanes ≡ fresh → has fresh lane ≡ (has x.lanes lane && not (numbers x.arrival.src xs lane x.arrival.number))
  all-new xs none same =
      ap (λ ls. has ls lane) (sym same) ∙ and-not-false (has x.lanes lane)
      ∙ ap (λ ys. has x.lanes lane && not (numbers x.arrival.src ys lane x.arrival.number)) (sym none)

  new-by-union : (xs : List Noting) (s : Sources) (o : Option Remembered) → Tells w x.arrival.src xs (passing (is_live x.arrival.time) o)
      → IsNearAll w (numbers x.arrival.src xs) x.arrival.number
      → answer_of w o s (wire x.arrival.number) x.lanes x.arrival.time ≡ Some fresh
      → has fresh lane ≡ (has x.lanes lane && not (numbers x.arrival.src xs lane x.arrival.number))
  new-by-union xs s None told near is = by (nat_lt (length (with_room x.arrival.time s)) most_sources) is
    where
      by : (b : Bool) → cond b (Some x.lanes) None ≡ Some fresh → has fresh lane ≡ (has x.lanes lane && not (numbers x.arrival.src xs lane x.arrival.number))
      by true e = let same : x.lanes ≡ fresh = cc in all-new xs told same
      by false e = cc
  new-by-union xs s (Some h) told near is = by (is_live x.arrival.time h) told is
    where
      by : (b : Bool) → Tells w x.arrival.src xs (cond b (Some h) None) → Some (cond b (fresh_lanes w h.seen (wire x.arrival.number) x.lanes) x.lanes) ≡ Some fresh
          → has fresh lane ≡ (has x.lanes lane && not (numbers x.arrival.src xs lane x.arrival.number))
      by false none e = let same : x.lanes ≡ fresh = cc in all-new xs none same
      by true k e =
          let n = x.arrival.number in
          let f = numbers x.arrival.src xs in
          let same : fresh_lanes w h.seen (wire n) x.lanes ≡ fresh = cc in
          ap (λ ls. has ls lane) (sym same)
          ∙ ap (λ ls. has ls lane) (fresh-lanes-by-family w h.seen f k.1 n (wire n) x.lanes width k.2 (near k.1 k.2.top) refl)
          ∙ has-lanes_where (λ l. has x.lanes l && not (f l n)) lane

pub answers_by_the_union : AnswersByTheUnion
answers_by_the_union w width t s x fresh lane grew steady is =
    let k = kept w width t s grew steady.0.0 steady.1.0 in
    new-by-union w width x fresh lane (epoch x.arrival.src x.arrival.time t) s (lookup (mac_eq x.arrival.src) s)
    (k.tells x.arrival.src x.arrival.time steady.0.1) steady.1.1 is
