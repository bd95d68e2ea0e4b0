-- What a steady run leaves in the table: of each source that is not forgotten, its epoch.
use Rattle.std.proofs.Common.{
  ◌≡◌,
  ℕ,
  ◌-◌,
  ◌≤◌,
  Bool,
  true,
  false,
  cond,
  ◌&&◌,
  not,
  List,
  [],
  ◌∷◌,
  ◌++◌,
  length,
  Option,
  None,
  Some,
  ℤ,
  arith,
  refl,
  sym,
  ap,
  ◌∙◌,
  subst,
  inl,
  inr,
}
use Rattle.std.specs.Prelude.{max, nat_lt}
use Rattle.std.specs.List.{IsDistinct}
use Rattle.std.specs.Map.{lookup, set_value, keys_of}
use Rattle.std.proofs.lemmas.Bool.{cases_Bool, le-ltb}
use Rattle.std.proofs.lemmas.Map.{lookup-set_value, keys-set_value}
use Rattle.std.proofs.lemmas.Map.Entries.{option_filter}
use Rattle.std.proofs.lemmas.Map.Keys.{IsDistinct-push}
use Rattle.std.proofs.lemmas.Map.Made.{IsDistinct-keys_filter}
use Rattle.sr_frame.specs.declared.fields.Mac.{Mac}
use Rattle.sr_sequence.specs.Numbers.{wire}
use Rattle.sr_dup_window.specs.declared.lane_sets.Lane.{Lane}
use Rattle.sr_dup_window.specs.declared.lane_sets.Lanes.{Lanes}
use Rattle.sr_dup_window.specs.LaneSets.{has, none, is_empty}
use Rattle.sr_dup_window.specs.LaneLemmas.{has-lanes_where, has-none, has-difference}
use Rattle.sr_sequence.specs.Places.{steps}
use Rattle.sr_dup_window.specs.Families.{StandsFor}
use Rattle.sr_dup_window.specs.Windows.{Window, window_begun, window_noted, fresh_lanes, lanes_of}
use Rattle.sr_dup_window.specs.WindowLemmas.{begun-stands, noted-stands, fresh-lanes-by-family}
use Rattle.sr_frame.specs.Addresses.{mac_eq}
use Rattle.sr_frame.specs.AddressLemmas.{mac_same, mac_refl, mac_laws}
use Rattle.sr_dup_window.specs.Bins.{IsWidth}
use Rattle.sr_dup_table.specs.Limits.{most_sources, forget_time}
use Rattle.sr_dup_table.specs.Sources.{Remembered, Sources, is_live, live_at, with_room, begun_at, heard_next, answer_of, after_of}
use Rattle.sr_laws_dup.specs.TableRuns.{
  Noting,
  was_noted,
  IsNearAll,
  TableTurn,
  arrived,
  aged,
  notings_of,
  arrivals_of,
  latest,
  TableRun,
  IsNext,
  AreSteady,
  AreInOrder,
  EachPairIsNewOnce,
  BeyondIsNew,
}
use Rattle.sr_laws_dup.specs.EpochLemmas.{
  noted_epoch,
  top_of,
  arrivals-epoch,
  noted_in_epoch,
  family_of,
  now_is_live,
  family_of_epoch,
  lookup_pushed,
  keys_pushed,
  absent_key,
  lookup_live,
  lookup_with_room,
  keys_with_room,
  absent_with_room,
  itself,
  none_twice,
}

module _ (W : ℕ) (width : IsWidth W) where
  -- a number near some notings
  abbrev pub IsNearNoted : List Noting → ℤ → Type 0
  IsNearNoted xs number = IsNearAll W (arrivals_of xs) number

  -- what the entry of a source says of the arrivals so far
  pub record KeepsEpoch (src : Mac) (xs : List Noting) (last : ℕ) (h : Remembered) : Type 0 where
    pub time : h.time ≤ last
    pub stands : StandsFor W h.seen (family_of (noted_epoch src h.time xs)) (top_of (noted_epoch src h.time xs))
    pub later : (now : ℕ) → h.time ≤ now → noted_epoch src now xs ≡ cond (nat_lt (now - h.time) forget_time) (noted_epoch src h.time xs) []

  -- no entry: the source has no epoch from now on
  abbrev pub Keeps : Mac → List Noting → ℕ → Option Remembered → Type 0
  Keeps src xs last None = (now : ℕ) → last ≤ now → noted_epoch src now xs ≡ []
  Keeps src xs last (Some h) = KeepsEpoch src xs last h

  -- a table after the arrivals: each source by its own, and none twice
  pub record Kept (xs : List Noting) (last : ℕ) (s : Sources) : Type 0 where
    pub each : (src : Mac) → Keeps src xs last (lookup (mac_eq src) s)
    pub keys : IsDistinct mac_eq (keys_of s)

  -- what is kept of a source stays kept as time passes, and past arrivals of others
  keeps_later : (q : Mac) (xs : List Noting) (last now : ℕ) (o : Option Remembered) → last ≤ now → Keeps q xs last o → Keeps q xs now o
  keeps_later q xs last now None le k = λ later h. k later (omega (arith, le, h))
  keeps_later q xs last now (Some h) le k = record { time = omega (arith, k.time, le); stands = k.stands; later = k.later }

  pub keeps_past : (q : Mac) (x : Noting) (xs : List Noting) (last : ℕ) (o : Option Remembered) → mac_eq q x.arrival.src ≡ false →
      Keeps q xs last o →
      Keeps q (x ∷ xs) last o
  keeps_past q x xs last None other k = λ now h. rw other (k now h)
  keeps_past q x xs last (Some h) other k = record { time = k.time; stands = rw other k.stands; later = λ now g. rw other (k.later now g) }

  -- a forgotten entry may go
  keeps_filtered : (q : Mac) (xs : List Noting) (last now : ℕ) (o : Option Remembered) → last ≤ now → Keeps q xs last o →
      Keeps q xs now (option_filter (is_live now) o)
  keeps_filtered q xs last now None le k = keeps_later q xs last now None le k
  keeps_filtered q xs last now (Some h) le k =
      elim (cases_Bool (is_live now h)) [
        | inl live ↦ rw live (keeps_later q xs last now (Some h) le k)
        | inr old ↦ rw old (λ later g. k.later later (omega (arith, k.time, le, g)) ∙ ap (λ b. cond b (noted_epoch q h.time xs) [])
            (stays_old now later h.time g old))
      ]
    where
      stays_old : (now later time : ℕ) → now ≤ later → nat_lt (now - time) forget_time ≡ false → nat_lt (later - time) forget_time ≡ false
      stays_old now later time le old = grind (arith, le)

  -- what is kept of the source that arrived
  keeps_own : (q : Mac) (x : Noting) (xs : List Noting) (h : Remembered) → mac_eq q x.arrival.src ≡ true → h.time ≡ x.arrival.time →
      StandsFor W h.seen (family_of (x ∷ noted_epoch q x.arrival.time xs)) (top_of (x ∷ noted_epoch q x.arrival.time xs)) →
      KeepsEpoch q (x ∷ xs) x.arrival.time h
  keeps_own q x xs h own at stands =
      let now_is : noted_epoch q x.arrival.time (x ∷ xs) ≡ x ∷ noted_epoch q x.arrival.time xs =
      rw (own, now_is_live x.arrival.time) refl in
      record {
        time = omega (arith, at);
        stands = rw (at, now_is) stands;
        later = λ now g. rw (at, now_is, own) refl;
      }

  -- a window after an arrival in its epoch
  live_stands : (w : Window) (es : List Noting) (x : Noting) → StandsFor W w (family_of es) (top_of es) → IsNearNoted es x.arrival.number
      → is_empty x.lanes ≡ false →
      StandsFor W (window_noted W w (wire x.arrival.number) x.lanes) (family_of (x ∷ es)) (top_of (x ∷ es))
  live_stands w [] x stands near some = let no : false ≡ true = stands.top.member.1 in absurd cc
  live_stands w (y ∷ ys) x stands near some = noted-stands W w (family_of (y ∷ ys)) (top_of (y ∷ ys)) x.arrival.number
      (wire x.arrival.number) x.lanes width some stands near refl

  -- a window that begins
  begun_stands : (es : List Noting) (x : Noting) → es ≡ [] → is_empty x.lanes ≡ false →
      StandsFor W (window_begun W (wire x.arrival.number) x.lanes) (family_of (x ∷ es)) (top_of (x ∷ es))
  begun_stands es x none some = rw none (begun-stands W x.lanes x.arrival.number (wire x.arrival.number) width some refl)

  -- what is new of a number that a window lacks
  live_fresh : (w : Window) (es : List Noting) (x : Noting) (lane : Lane) → StandsFor W w (family_of es) (top_of es) →
      IsNearNoted es x.arrival.number →
      has (fresh_lanes W w (wire x.arrival.number) x.lanes) lane ≡ (has x.lanes lane && not (family_of es lane x.arrival.number))
  live_fresh w [] x lane stands near = let no : false ≡ true = stands.top.member.1 in absurd cc
  live_fresh w (y ∷ ys) x lane stands near =
      ap (λ ls. has ls lane) (fresh-lanes-by-family W w (family_of (y ∷ ys)) (top_of (y ∷ ys)) x.arrival.number (wire x.arrival.number)
      x.lanes width stands near refl)
      ∙ has-lanes_where (λ l. has x.lanes l && not (family_of (y ∷ ys) l x.arrival.number)) lane

  -- the others of a table that makes room
  keeps_with_room : (q : Mac) (xs : List Noting) (last now : ℕ) (s : Sources) → Kept xs last s → last ≤ now →
      Keeps q xs now (lookup (mac_eq q) (with_room now s))
  keeps_with_room q xs last now s kept le =
      elim (cases_Bool (nat_lt (length s) most_sources)) [
        | inl room ↦ rw (lookup_with_room q s now kept.keys, room) (keeps_later q xs last now (lookup (mac_eq q) s) le (kept.each q))
        | inr full ↦ rw (lookup_with_room q s now kept.keys, full) (keeps_filtered q xs last now (lookup (mac_eq q) s) le (kept.each q))
      ]

  -- a source that is not there begins its record at the end
  pushed_keeps : (x : Noting) (xs : List Noting) (last : ℕ) (s : Sources) → Kept xs last s → last ≤ x.arrival.time →
      is_empty x.lanes ≡ false
      → lookup (mac_eq x.arrival.src) s ≡ None →
      Kept (x ∷ xs) x.arrival.time
      (with_room x.arrival.time s ++ (x.arrival.src, begun_at W (wire x.arrival.number) x.lanes x.arrival.time) ∷ [])
  pushed_keeps x xs last s kept le some lacks =
      let r = with_room x.arrival.time s in
      let h = begun_at W (wire x.arrival.number) x.lanes x.arrival.time in
      let absent : lookup (mac_eq x.arrival.src) r ≡ None = absent_with_room x.arrival.src s x.arrival.time kept.keys lacks in
      let before : Keeps x.arrival.src xs last (lookup (mac_eq x.arrival.src) s) = kept.each x.arrival.src in
      let none : noted_epoch x.arrival.src x.arrival.time xs ≡ [] = (rw lacks at before) x.arrival.time le in
      let own : KeepsEpoch x.arrival.src (x ∷ xs) x.arrival.time h = keeps_own x.arrival.src x xs h (mac_refl x.arrival.src) refl
      (begun_stands (noted_epoch x.arrival.src x.arrival.time xs) x none some) in
      let found : lookup (mac_eq x.arrival.src) (r ++ (x.arrival.src, h) ∷ [])
      ≡ Some h = rw (lookup_pushed x.arrival.src r x.arrival.src h, absent, mac_refl x.arrival.src) refl in
      let here : Keeps x.arrival.src (x ∷ xs) x.arrival.time (lookup (mac_eq x.arrival.src) (r ++ (x.arrival.src, h) ∷ [])) =
      rw found own in
      record {
        each = λ q. elim (cases_Bool (mac_eq q x.arrival.src)) [
          | inl same ↦ let P : Mac →
              Type 0 = λ m. Keeps m (x ∷ xs) x.arrival.time (lookup (mac_eq m) (r ++ (x.arrival.src, h) ∷ [])) in subst P
              (sym (mac_same q x.arrival.src same)) here
          | inr other ↦
              let stays : lookup (mac_eq q) (r ++ (x.arrival.src, h) ∷ [])
              ≡ lookup (mac_eq q) r = rw (lookup_pushed q r x.arrival.src h, other) (itself (lookup (mac_eq q) r)) in
              rw stays (keeps_past q x xs x.arrival.time (lookup (mac_eq q) r) other (keeps_with_room q xs last x.arrival.time s kept le))
        ];
        keys = rw (keys_pushed r x.arrival.src h)
            (IsDistinct-push mac_laws (keys_of r) x.arrival.src (keys_with_room s x.arrival.time kept.keys)
            (absent_key x.arrival.src r absent));
      }

  -- a source that is there
  set_keeps : (x : Noting) (xs : List Noting) (last : ℕ) (s : Sources) (h : Remembered) → Kept xs last s → last ≤ x.arrival.time →
      is_empty x.lanes ≡ false → lookup (mac_eq x.arrival.src) s ≡ Some h →
      IsNearNoted (noted_epoch x.arrival.src x.arrival.time xs) x.arrival.number →
      Kept (x ∷ xs) x.arrival.time (set_value (mac_eq x.arrival.src) s (heard_next W h (wire x.arrival.number) x.lanes x.arrival.time))
  set_keeps x xs last s h kept le some there near =
      let next = heard_next W h (wire x.arrival.number) x.lanes x.arrival.time in
      let t = set_value (mac_eq x.arrival.src) s next in
      let before : Keeps x.arrival.src xs last (lookup (mac_eq x.arrival.src) s) = kept.each x.arrival.src in
      let was : KeepsEpoch x.arrival.src xs last h = rw there at before in
      let found : (q : Mac) → lookup (mac_eq q) t ≡ cond (mac_eq x.arrival.src q) (Some next) (lookup (mac_eq q) s) =
      λ q. lookup-set_value mac_laws (mac_eq x.arrival.src) (λ a b e. mac_laws.congr x.arrival.src a b e) q next s (rw there refl) in
      let own : KeepsEpoch x.arrival.src (x ∷ xs) x.arrival.time next = next_keeps x xs last h was le some near in
      let here : Keeps x.arrival.src (x ∷ xs) x.arrival.time (lookup (mac_eq x.arrival.src) t) = rw
      (found x.arrival.src, mac_refl x.arrival.src) own in
      record {
        each = λ q. elim (cases_Bool (mac_eq q x.arrival.src)) [
          | inl same ↦ let P : Mac →
              Type 0 = λ m. Keeps m (x ∷ xs) x.arrival.time (lookup (mac_eq m) t) in subst P (sym (mac_same q x.arrival.src same)) here
          | inr other ↦
              let stays : lookup (mac_eq q) t ≡ lookup (mac_eq q) s = rw (found q, mac_laws.symm x.arrival.src q, other) refl in
              rw stays (keeps_past q x xs x.arrival.time (lookup (mac_eq q) s) other
              (keeps_later q xs last x.arrival.time (lookup (mac_eq q) s) le (kept.each q)))
        ];
        keys = rw (keys-set_value (mac_eq x.arrival.src) s next) kept.keys;
      }
    where
      next_keeps : (x : Noting) (xs : List Noting) (last : ℕ) (h : Remembered) → KeepsEpoch x.arrival.src xs last h
          → last ≤ x.arrival.time →
          is_empty x.lanes ≡ false → IsNearNoted (noted_epoch x.arrival.src x.arrival.time xs) x.arrival.number →
          KeepsEpoch x.arrival.src (x ∷ xs) x.arrival.time (heard_next W h (wire x.arrival.number) x.lanes x.arrival.time)
      next_keeps x xs last h was le some near =
          let since : h.time ≤ x.arrival.time = omega (arith, was.time, le) in
          let later_is = was.later x.arrival.time since in
          elim (cases_Bool (is_live x.arrival.time h)) [
            | inl live ↦
                let same : noted_epoch x.arrival.src x.arrival.time xs ≡ noted_epoch x.arrival.src h.time xs = later_is ∙ ap
                (λ b. cond b (noted_epoch x.arrival.src h.time xs) []) live in
                let stands : StandsFor W h.seen (family_of (noted_epoch x.arrival.src x.arrival.time xs))
                (top_of (noted_epoch x.arrival.src x.arrival.time xs)) = rw same was.stands in
                rw live (keeps_own x.arrival.src x xs
                (record { seen = window_noted W h.seen (wire x.arrival.number) x.lanes; time = max h.time x.arrival.time })
                (mac_refl x.arrival.src) (omega (arith, since))
                (live_stands h.seen (noted_epoch x.arrival.src x.arrival.time xs) x stands near some))
            | inr old ↦
                let none : noted_epoch x.arrival.src x.arrival.time xs
                ≡ [] = later_is ∙ ap (λ b. cond b (noted_epoch x.arrival.src h.time xs) []) old in
                rw old (keeps_own x.arrival.src x xs (begun_at W (wire x.arrival.number) x.lanes x.arrival.time)
                (mac_refl x.arrival.src) refl
                (begun_stands (noted_epoch x.arrival.src x.arrival.time xs) x none some))
          ]

  -- an arrival that is answered
  arrived_keeps : (x : Noting) (fresh : Lanes) (xs : List Noting) (last : ℕ) (s : Sources) (o : Option Remembered) → Kept xs last s →
      last ≤ x.arrival.time → is_empty x.lanes ≡ false → IsNearNoted (noted_epoch x.arrival.src x.arrival.time xs) x.arrival.number →
      lookup (mac_eq x.arrival.src) s ≡ o →
      Kept (x ∷ xs) x.arrival.time (after_of W o s x.arrival.src (wire x.arrival.number) x.lanes x.arrival.time)
  arrived_keeps x fresh xs last s None kept le some near there = pushed_keeps x xs last s kept le some there
  arrived_keeps x fresh xs last s (Some h) kept le some near there = set_keeps x xs last s h kept le some there near

  -- a table that ages
  aged_keeps : (xs : List Noting) (last now : ℕ) (s : Sources) → Kept xs last s → last ≤ now → Kept xs now (live_at now s)
  aged_keeps xs last now s kept le = record {
    each = λ q. rw (lookup_live q s now kept.keys) (keeps_filtered q xs last now (lookup (mac_eq q) s) le (kept.each q));
    keys = IsDistinct-keys_filter mac_eq (λ e. is_live now e.1) s kept.keys;
  }

  -- a number that is near the epoch's arrivals is near its notings
  near_noted : (x : Noting) (xs : List Noting) → IsNext W (arrivals_of xs) x.arrival →
      IsNearNoted (noted_epoch x.arrival.src x.arrival.time xs) x.arrival.number
  near_noted x xs next = subst (λ ys. IsNearAll W ys x.arrival.number) (sym (arrivals-epoch x.arrival.src x.arrival.time xs)) next.0

  -- a steady run keeps each source's epoch, where its start did
  run_keeps : (from : ℕ) (base : List Noting) (start : Sources) → Kept base from start → (turns : List TableTurn) (t : Sources) →
      TableRun W start turns t → AreInOrder from turns → AreSteady W (arrivals_of (notings_of base turns)) →
      Kept (notings_of base turns) (latest from turns) t
  run_keeps from base start begun [] t run order steady = rw run begun
  run_keeps from base start begun (arrived x fresh ∷ before) t run order steady =
      let s = run.0 in
      let xs = notings_of base before in
      let kept = run_keeps from base start begun before s run.1 order.0 steady.0 in
      let near : IsNearNoted (noted_epoch x.arrival.src x.arrival.time xs) x.arrival.number = near_noted x xs steady.1 in
      rw run.2.2 (arrived_keeps x fresh xs (latest from before) s (lookup (mac_eq x.arrival.src) s) kept order.1 run.2.0 near refl)
  run_keeps from base start begun (aged now ∷ before) t run order steady =
      let s = run.0 in
      let kept = run_keeps from base start begun before s run.1 order.0 steady in
      rw run.2 (aged_keeps (notings_of base before) (latest from before) now s kept order.1)

  -- a source with no epoch: all asked lanes are new
  begun_new : (x : Noting) (xs : List Noting) (lane : Lane) → noted_epoch x.arrival.src x.arrival.time xs ≡ [] →
      IsNext W (arrivals_of xs) x.arrival → has x.lanes lane ≡ (has x.lanes lane && not (was_noted x.arrival.src x.arrival.number lane xs))
  begun_new x xs lane none next =
      let a = x.arrival in
      rw (noted_in_epoch a.src a.time a.number lane xs next.1, none) (and_true (has x.lanes lane))
    where
      and_true : (b : Bool) → b ≡ (b && true)
      and_true true = refl
      and_true false = refl

  -- a source with an epoch: those that it lacks
  live_new : (x : Noting) (xs : List Noting) (w : Window) (lane : Lane) →
      StandsFor W w (family_of (noted_epoch x.arrival.src x.arrival.time xs)) (top_of (noted_epoch x.arrival.src x.arrival.time xs)) →
      IsNext W (arrivals_of xs) x.arrival →
      has (fresh_lanes W w (wire x.arrival.number) x.lanes) lane
      ≡ (has x.lanes lane && not (was_noted x.arrival.src x.arrival.number lane xs))
  live_new x xs w lane stands next =
      let a = x.arrival in
      live_fresh w (noted_epoch a.src a.time xs) x lane stands (near_noted x xs next)
      ∙ ap (λ b. has x.lanes lane && not b)
      (family_of_epoch a.src a.time a.number lane xs ∙ sym (noted_in_epoch a.src a.time a.number lane xs next.1))

  -- what a table that keeps the epochs answers
  answers_new : (x : Noting) (fresh : Lanes) (xs : List Noting) (last : ℕ) (s : Sources) (o : Option Remembered) (lane : Lane) →
      Keeps x.arrival.src xs last o → last ≤ x.arrival.time → IsNext W (arrivals_of xs) x.arrival →
      answer_of W o s (wire x.arrival.number) x.lanes x.arrival.time ≡ Some fresh →
      has fresh lane ≡ (has x.lanes lane && not (was_noted x.arrival.src x.arrival.number lane xs))
  answers_new x fresh xs last s None lane k le next is =
      elim (cases_Bool (nat_lt (length (with_room x.arrival.time s)) most_sources)) [
        | inl room ↦
            let same : x.lanes ≡ fresh = let e : Some x.lanes ≡ Some fresh = rw room at is in cc in
            ap (λ ls. has ls lane) (sym same) ∙ begun_new x xs lane (k x.arrival.time le) next
        | inr full ↦ let e : None ≡ Some fresh = rw full at is in absurd cc
      ]
  answers_new x fresh xs last s (Some h) lane k le next is =
      let later_is = k.later x.arrival.time (omega (arith, k.time, le)) in
      elim (cases_Bool (is_live x.arrival.time h)) [
        | inl live ↦
            let same : fresh_lanes W h.seen (wire x.arrival.number) x.lanes
            ≡ fresh = let e : Some (fresh_lanes W h.seen (wire x.arrival.number) x.lanes) ≡ Some fresh = rw live at is in cc in
            let now_is : noted_epoch x.arrival.src x.arrival.time xs ≡ noted_epoch x.arrival.src h.time xs = later_is ∙ ap
            (λ b. cond b (noted_epoch x.arrival.src h.time xs) []) live in
            let stands : StandsFor W h.seen (family_of (noted_epoch x.arrival.src x.arrival.time xs))
            (top_of (noted_epoch x.arrival.src x.arrival.time xs)) = rw now_is k.stands in
            ap (λ ls. has ls lane) (sym same) ∙ live_new x xs h.seen lane stands next
        | inr old ↦
            let same : x.lanes ≡ fresh = let e : Some x.lanes ≡ Some fresh = rw old at is in cc in
            let none : noted_epoch x.arrival.src x.arrival.time xs ≡ [] = later_is
            ∙ ap (λ b. cond b (noted_epoch x.arrival.src h.time xs) [])
            old in
            ap (λ ls. has ls lane) (sym same) ∙ begun_new x xs lane none next
      ]

  -- the law, from any start that keeps its epochs
  pub new_once_from : (from : ℕ) (base : List Noting) (start : Sources) → Kept base from start →
      (x : Noting) (fresh : Lanes) (before : List TableTurn) (t : Sources) (lane : Lane) → TableRun W start (arrived x fresh ∷ before) t →
      AreInOrder from (arrived x fresh ∷ before) → AreSteady W (arrivals_of (notings_of base (arrived x fresh ∷ before))) →
      has fresh lane ≡ (has x.lanes lane && not (was_noted x.arrival.src x.arrival.number lane (notings_of base before)))
  new_once_from from base start begun x fresh before t lane run order steady =
      let s = run.0 in
      let kept = run_keeps from base start begun before s run.1 order.0 steady.0 in
      answers_new x fresh (notings_of base before) (latest from before) s (lookup (mac_eq x.arrival.src) s) lane (kept.each x.arrival.src)
      order.1
      steady.1 run.2.1

  pub none_kept : Kept [] 0 []
  none_kept = record { each = λ q now le. refl; keys = none_twice }

-- the law from the empty table
pub each_pair_is_new_once : EachPairIsNewOnce
each_pair_is_new_once w width x fresh before t lane run steady =
    new_once_from w width 0 [] [] (none_kept w width) x fresh before t lane run steady.0 steady.1

-- outside the window a record has no lane
all_fresh : (w : ℕ) (seen : Window) (seq : ℕ) (lanes : Lanes) (lane : Lane) → w ≤ steps seq seen.reference →
    has (fresh_lanes w seen seq lanes) lane ≡ has lanes lane
all_fresh w seen seq lanes lane far =
    let ahead : lanes_of w seen seq ≡ none = rw (le-ltb (steps seq seen.reference) w far) refl in
    has-difference lanes (lanes_of w seen seq) lane
    ∙ ap (λ ls. has lanes lane && not (has ls lane)) ahead
    ∙ ap (λ b. has lanes lane && not b) (has-none lane)
    ∙ and_true (has lanes lane)
  where
    and_true : (b : Bool) → (b && true) ≡ b
    and_true true = refl
    and_true false = refl

pub beyond_is_new : BeyondIsNew
beyond_is_new w s src seq lanes fresh now h lane there (inl old) is =
    let e : Some lanes ≡ Some fresh = rw (there, old) at is in
    let same : lanes ≡ fresh = cc in
    ap (λ ls. has ls lane) (sym same)
beyond_is_new w s src seq lanes fresh now h lane there (inr far) is =
    elim (cases_Bool (is_live now h)) [
      | inl live ↦
          let e : Some (fresh_lanes w h.seen seq lanes) ≡ Some fresh = rw (there, live) at is in
          let same : fresh_lanes w h.seen seq lanes ≡ fresh = cc in
          ap (λ ls. has ls lane) (sym same) ∙ all_fresh w h.seen seq lanes lane far
      | inr old ↦
          let e : Some lanes ≡ Some fresh = rw (there, old) at is in
          let same : lanes ≡ fresh = cc in
          ap (λ ls. has ls lane) (sym same)
    ]
