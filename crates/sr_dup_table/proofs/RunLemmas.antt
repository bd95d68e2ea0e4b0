-- Two tables with the same live sources answer alike from then on.
use Rattle.std.proofs.Common.{◌≡◌, ℕ, suc, ◌+◌, ◌-◌, ◌<◌, ◌≤◌, max, Bool, true, false, cond, nat_lt, List, [], ◌∷◌, ◌++◌, length, Option, None, Some, is_some, refl, sym, ap, ◌∙◌, subst, arith}
use Rattle.std.specs.Map.{lookup, set_value}
use Rattle.std.proofs.lemmas.Bool.{ltb-true, lt-ltb}
use Rattle.std.proofs.lemmas.List.{length-append}
use Rattle.std.proofs.lemmas.Map.{length-set_value}
use Rattle.sr_frame.specs.declared.fields.Mac.{Mac}
use Rattle.sr_frame.specs.Addresses.{mac_eq}
use Rattle.sr_slots.specs.Calls.{passing}
use Rattle.sr_slots.specs.EntryLemmas.{one_if, lookup-set, distinct-set, lookup-push, distinct-push, lookup-passing, distinct-passing, length-passing-set, length-passing-push}
use Rattle.sr_aged_slots.specs.AgeLemmas.{through_cond, passing_before, live_again}
use Rattle.sr_dup_window.specs.declared.lane_sets.Lanes.{Lanes}
use Rattle.sr_dup_window.specs.Windows.{window_noted, fresh_lanes}
use Rattle.sr_dup_table.specs.Sources.{Remembered, Sources, IsTable, is_live, live_at, with_room, begun_at, heard_next, answer_of, arrive_answer, after_of, after_arrive}
use Rattle.sr_dup_table.specs.Ageing.{TableArrival, answer_to, left_by, answers, AreFrom, AgeingKeepsAnswers}
use Rattle.sr_dup_table.proofs.SourceLemmas.{length-live_le}

-- the record of a source, if it is live
abbrev live_record : ℕ → Sources → Mac → Option Remembered
live_record now s src = passing (is_live now) (lookup (mac_eq src) s)

-- what a table answers, by that record and the number of the live ones alone
abbrev answer_by : ℕ → Option Remembered → ℕ → ℕ → Lanes → Option Lanes
answer_by w (Some h) n seq lanes = Some (fresh_lanes w h.seen seq lanes)
answer_by w None n seq lanes = cond (nat_lt n 1024) (Some lanes) None

-- the record after it
abbrev next_by : ℕ → Option Remembered → ℕ → Lanes → ℕ → Remembered
next_by w (Some h) seq lanes now = record { seen = window_noted w h.seen seq lanes; time = max h.time now }
next_by w None seq lanes now = begun_at w seq lanes now

-- a source with a forgotten record is one more than the live ones
forgotten_more : (m : Mac) (now : ℕ) (h : Remembered) (s : Sources) → lookup (mac_eq m) s ≡ Some h → is_live now h ≡ false → length (live_at now s) < length s
forgotten_more m now h [] there dead = cc
forgotten_more m now h (e ∷ s) there dead = by (mac_eq m e.0) there (is_live now e.1) refl (λ t. forgotten_more m now h s t dead)
  where
    by : (t : Bool) → cond t (Some e.1) (lookup (mac_eq m) s) ≡ Some h → (b : Bool) → is_live now e.1 ≡ b → (lookup (mac_eq m) s ≡ Some h → length (live_at now s) < length s)
        → length (cond b (e ∷ live_at now s) (live_at now s)) < suc (length s)
    by true v true p ih = let k : e.1 ≡ h = cc in let bad : true ≡ false = sym p ∙ ap (is_live now) k ∙ dead in cc
    by true v false p ih = omega (arith, length-live_le now s)
    by false v true p ih = omega (arith, ih v)
    by false v false p ih = omega (arith, ih v)

-- room is made for a new source exactly where fewer than 1024 are live
room_is : (now : ℕ) (s : Sources) → nat_lt (length (with_room now s)) 1024 ≡ nat_lt (length (live_at now s)) 1024
room_is now s = by (nat_lt (length s) 1024) refl
  where
    by : (b : Bool) → nat_lt (length s) 1024 ≡ b → nat_lt (length (cond b s (live_at now s))) 1024 ≡ nat_lt (length (live_at now s)) 1024
    by true t = let l : length s < 1024 = ltb-true (length s) 1024 t in t ∙ sym (lt-ltb (length (live_at now s)) 1024 (omega (arith, length-live_le now s)))
    by false t = refl

module _ (w : ℕ) (s : Sources) (m : Mac) (seq : ℕ) (lanes : Lanes) (now : ℕ) (table : IsTable s) where
  -- the answer
  answer_at : (o : Option Remembered) → lookup (mac_eq m) s ≡ o → answer_of w o s seq lanes now ≡ answer_by w (passing (is_live now) o) (length (live_at now s)) seq lanes
  answer_at None at = ap (λ b. cond b (Some lanes) None) (room_is now s)
  answer_at (Some h) at = by (is_live now h) refl
    where
      by : (b : Bool) → is_live now h ≡ b → Some (cond b (fresh_lanes w h.seen seq lanes) lanes) ≡ answer_by w (cond b (Some h) None) (length (live_at now s)) seq lanes
      by true p = refl
      by false p = sym (ap (λ b. cond b (Some lanes) None) (lt-ltb (length (live_at now s)) 1024 (omega (arith, forgotten_more m now h s at p, table.few))))

  answer_is : arrive_answer w s m seq lanes now ≡ answer_by w (live_record now s m) (length (live_at now s)) seq lanes
  answer_is = answer_at (lookup (mac_eq m) s) refl

  -- the record after it
  next_at : (h : Remembered) → heard_next w h seq lanes now ≡ next_by w (passing (is_live now) (Some h)) seq lanes now
  next_at h = by (is_live now h)
    where
      by : (b : Bool) → cond b (next_by w (Some h) seq lanes now) (begun_at w seq lanes now) ≡ next_by w (cond b (Some h) None) seq lanes now
      by true = refl
      by false = refl

  -- what was answered leaves a table, with this source's record anew and all others as they were
  record Leaves (next : Remembered) (new : Sources) : Type 0 where
    pub kept : IsTable new
    pub live : (u : ℕ) → now ≤ u → (q : Mac) → live_record u new q ≡ cond (mac_eq m q) (passing (is_live u) (Some next)) (live_record u s q)
    pub count : (u : ℕ) → now ≤ u → length (live_at u new) + one_if (is_some (live_record u s m)) ≡ length (live_at u s) + one_if (is_live u next)

  is_some_passing : (u : ℕ) (h : Remembered) → is_some (passing (is_live u) (Some h)) ≡ is_live u h
  is_some_passing u h = by (is_live u h)
    where
      by : (b : Bool) → is_some (cond b (Some h) None) ≡ b
      by true = refl
      by false = refl

  leaves_again : (h v : Remembered) → lookup (mac_eq m) s ≡ Some h → Leaves v (set_value (mac_eq m) s v)
  leaves_again h v at = record {
    kept = record { unique = distinct-set m v s table.unique; few = omega (arith, length-set_value (mac_eq m) s v, table.few) };
    live = λ u le q. ap (passing (is_live u)) (lookup-set m q v s (ap is_some at)) ∙ through_cond (is_live u) (mac_eq m q) v (lookup (mac_eq q) s);
    count = λ u le.
        let is : one_if (is_some (live_record u s m)) ≡ one_if (is_live u h) = ap (λ o. one_if (is_some (passing (is_live u) o))) at ∙ ap one_if (is_some_passing u h) in
        omega (arith, is, length-passing-set (is_live u) m h v s at);
  }

  -- the sources that stay where a new one comes
  room_table : IsTable (with_room now s)
  room_table = by (nat_lt (length s) 1024)
    where
      by : (b : Bool) → IsTable (cond b s (live_at now s))
      by true = table
      by false = record { unique = distinct-passing (is_live now) s table.unique; few = omega (arith, length-live_le now s, table.few) }

  room_lookup : (q : Mac) (u : ℕ) → now ≤ u → live_record u (with_room now s) q ≡ live_record u s q
  room_lookup q u le = by (nat_lt (length s) 1024)
    where
      by : (b : Bool) → live_record u (cond b s (live_at now s)) q ≡ live_record u s q
      by true = refl
      by false = ap (passing (is_live u)) (lookup-passing (is_live now) q s table.unique) ∙ passing_before (λ h. h.time) 400 now u le (lookup (mac_eq q) s)

  room_none : lookup (mac_eq m) s ≡ None → lookup (mac_eq m) (with_room now s) ≡ None
  room_none at = by (nat_lt (length s) 1024)
    where
      by : (b : Bool) → lookup (mac_eq m) (cond b s (live_at now s)) ≡ None
      by true = at
      by false = lookup-passing (is_live now) m s table.unique ∙ ap (passing (is_live now)) at

  room_live : (u : ℕ) → now ≤ u → live_at u (with_room now s) ≡ live_at u s
  room_live u le = by (nat_lt (length s) 1024)
    where
      by : (b : Bool) → live_at u (cond b s (live_at now s)) ≡ live_at u s
      by true = refl
      by false = live_again (λ h. h.time) 400 now u le s

  leaves_new : (v : Remembered) → lookup (mac_eq m) s ≡ None → nat_lt (length (with_room now s)) 1024 ≡ true → Leaves v (with_room now s ++ (m, v) ∷ [])
  leaves_new v at room =
      let r = with_room now s in
      let few : length r < 1024 = ltb-true (length r) 1024 room in
      record {
        kept = record { unique = distinct-push m v r room_table.unique (room_none at); few = omega (arith, length-append r ((m, v) ∷ [])) };
        live = λ u le q.
            ap (passing (is_live u)) (lookup-push m q v r (room_none at)) ∙ through_cond (is_live u) (mac_eq m q) v (lookup (mac_eq q) r)
            ∙ ap (λ o. cond (mac_eq m q) (passing (is_live u) (Some v)) o) (room_lookup q u le);
        count = λ u le.
            let is : one_if (is_some (live_record u s m)) ≡ 0 = ap (λ o. one_if (is_some (passing (is_live u) o))) at in
            omega (arith, is, length-passing-push (is_live u) m v r, ap length (room_live u le));
      }

  answered : (b : Bool) (fresh : Lanes) → cond b (Some lanes) None ≡ Some fresh → b ≡ true
  answered true fresh h = refl
  answered false fresh h = cc

  leaves_at : (o : Option Remembered) → lookup (mac_eq m) s ≡ o → (fresh : Lanes) → answer_of w o s seq lanes now ≡ Some fresh → Leaves (next_by w (passing (is_live now) o) seq lanes now) (after_of w o s m seq lanes now)
  leaves_at None at fresh said = leaves_new (begun_at w seq lanes now) at (answered (nat_lt (length (with_room now s)) 1024) fresh said)
  leaves_at (Some h) at fresh said =
      subst (λ v. Leaves v (set_value (mac_eq m) s (heard_next w h seq lanes now))) (next_at h) (leaves_again h (heard_next w h seq lanes now) at)

  leaves : (fresh : Lanes) → arrive_answer w s m seq lanes now ≡ Some fresh → Leaves (next_by w (live_record now s m) seq lanes now) (after_arrive w s m seq lanes now)
  leaves fresh said = leaves_at (lookup (mac_eq m) s) refl fresh said

-- from this time on both tables have the same live sources
record Alike (now : ℕ) (s t : Sources) : Type 0 where
  pub one : IsTable s
  pub other : IsTable t
  pub live : (u : ℕ) → now ≤ u → (q : Mac) → live_record u s q ≡ live_record u t q
  pub count : (u : ℕ) → now ≤ u → length (live_at u s) ≡ length (live_at u t)

alike_later : (now later : ℕ) (s t : Sources) → now ≤ later → Alike now s t → Alike later s t
alike_later now later s t le h = record { one = h.one; other = h.other; live = λ u l. h.live u (omega arith); count = λ u l. h.count u (omega arith) }

alike_answer : (w : ℕ) (s t : Sources) (a : TableArrival) → Alike a.time s t → answer_to w s a ≡ answer_to w t a
alike_answer w s t a h =
    answer_is w s a.src a.seq a.lanes a.time h.one
    ∙ (λ j. answer_by w (h.live a.time (omega arith) a.src j) (h.count a.time (omega arith) j) a.seq a.lanes)
    ∙ sym (answer_is w t a.src a.seq a.lanes a.time h.other)

alike_after : (w : ℕ) (s t : Sources) (a : TableArrival) → Alike a.time s t → (o : Option Lanes) → answer_to w s a ≡ o → answer_to w t a ≡ o → Alike a.time (left_by w o s a) (left_by w o t a)
alike_after w s t a h None p q = h
alike_after w s t a h (Some fresh) p q =
    let next = next_by w (live_record a.time s a.src) a.seq a.lanes a.time in
    let x = leaves w s a.src a.seq a.lanes a.time h.one fresh p in
    let same : next_by w (live_record a.time t a.src) a.seq a.lanes a.time ≡ next = ap (λ r. next_by w r a.seq a.lanes a.time) (sym (h.live a.time (omega arith) a.src)) in
    let y = subst (λ v. Leaves w t a.src a.seq a.lanes a.time h.other v (after_arrive w t a.src a.seq a.lanes a.time)) same (leaves w t a.src a.seq a.lanes a.time h.other fresh q) in
    record {
      one = x.kept;
      other = y.kept;
      live = λ u le m. x.live u le m ∙ ap (λ r. cond (mac_eq a.src m) (passing (is_live u) (Some next)) r) (h.live u le m) ∙ sym (y.live u le m);
      count = λ u le. let k : one_if (is_some (live_record u s a.src)) ≡ one_if (is_some (live_record u t a.src)) = ap (λ r. one_if (is_some r)) (h.live u le a.src) in omega (arith, k, x.count u le, y.count u le, h.count u le);
    }

alike_answers : (w : ℕ) (now : ℕ) (s t : Sources) (later : List TableArrival) → Alike now s t → AreFrom now later → answers w s later ≡ answers w t later
alike_answers w now s t [] h from = refl
alike_answers w now s t (a ∷ more) h from =
    let k = alike_later now a.time s t from.0 h in
    let said = alike_answer w s t a k in
    let after = alike_after w s t a k (answer_to w s a) refl (sym said) in
    let rest = alike_answers w a.time (left_by w (answer_to w s a) s a) (left_by w (answer_to w s a) t a) more after from.1 in
    (λ j. said j ∷ rest j) ∙ ap (λ o. answer_to w t a ∷ answers w (left_by w o t a) more) said

pub ageing_keeps_answers_lem : AgeingKeepsAnswers
ageing_keeps_answers_lem w s now later table from =
    alike_answers w now (live_at now s) s later (record {
      one = record { unique = distinct-passing (is_live now) s table.unique; few = omega (arith, length-live_le now s, table.few) };
      other = table;
      live = λ u le q. ap (passing (is_live u)) (lookup-passing (is_live now) q s table.unique) ∙ passing_before (λ h. h.time) 400 now u le (lookup (mac_eq q) s);
      count = λ u le. ap length (live_again (λ h. h.time) 400 now u le s);
    }) from
