-- A table of 1024 nodes, computed number by number.
use Rattle.std.proofs.Common.{◌≡◌, ℕ, zero, suc, ◌+◌, ◌-◌, ◌*◌, ◌<◌, ◌≤◌, Bool, true, false, cond, not, ◌&&◌, ◌||◌, nat_lt, get_or, List, [], ◌∷◌, ◌++◌, length, map, filter, refl, sym, ap, ◌∙◌, arith}
use Rattle.std.specs.Prelude.{nat_le}
use Rattle.std.specs.List.{flat_map, AllByRecursion}
use Rattle.std.proofs.lemmas.Bool.{lt-ltb, le-leb, lt-leb, false_from_ne_true, and_parts, not-true}
use Rattle.std.proofs.lemmas.List.{length-append}
use Rattle.circular_buffer.specs.Buffer.{keep_last}
use Rattle.sr_frame.specs.declared.fields.Mac.{Mac}
use Rattle.sr_frame.specs.declared.learn_outcome.LearnOutcome.TheVariants.{New, Known, Full}
use Rattle.sr_frame.specs.Addresses.{mac_eq}
use Rattle.sr_frame.specs.AddressLemmas.{mac_same, mac_refl, mac_symm}
use Rattle.sr_node_table.specs.declared.alarm.Alarm.{Alarm}
use Rattle.sr_node_table.specs.declared.alarm.Alarm.TheVariants.{NodeDown}
use Rattle.sr_node_table.specs.Nodes.{Hearing}
use Rattle.sr_node_table.specs.Hearings.{is_heard, Hears, AreUpTo}
use Rattle.sr_laws_node_table.specs.Kept.{of_address, is_live_by, addresses, others_live, finds_room, kept_with, kept_in}
use Rattle.sr_laws_node_table.specs.Entered.{has_entry, is_filled, makes_entry, removes, removal_in, makers_in, entered, live_in}
use Rattle.sr_laws_node_table.specs.Raised.{down_alarm, raised_in}
use Rattle.sr_laws_node_table.specs.FullExample.{numbered_node, first_ones, heard_at, crowd, too_early, in_time, FullIsWorkedOut}
use Rattle.sr_laws_node_table.proofs.AddressListLemmas.{has, has-append, without_none}
use Rattle.sr_laws_node_table.proofs.StandingLemmas.{length-filter_le, removal_le, own_live, entered_by, entered_removing}
use Rattle.sr_laws_node_table.proofs.LawLemmas.{answers_are_of_kept, full_where_others_are_live, list_is_of_kept, alarms_are_the_latest}

-- the number of an address
number_of : Mac → ℕ
number_of m = get_or m.0 4 0 * 256 + get_or m.0 5 0

number-numbered : (n : ℕ) → number_of (numbered_node n) ≡ n
unfolding number_of
number-numbered n = omega arith

numbers_differ : (k n : ℕ) → n < k → mac_eq (numbered_node k) (numbered_node n) ≡ false
numbers_differ k n lt = false_from_ne_true (mac_eq (numbered_node k) (numbered_node n))
    (λ e. let same : k ≡ n = sym (number-numbered k) ∙ ap number_of (mac_same (numbered_node k) (numbered_node n) e) ∙ number-numbered n in absurd (omega arith))

length-first_ones : (n : ℕ) → length (first_ones n) ≡ n
unfolding first_ones
length-first_ones zero = refl
length-first_ones (suc n) = omega (arith, length-append (first_ones n) (numbered_node n ∷ []), length-first_ones n)

-- a later one is not among the first
not_among : (k n : ℕ) → n ≤ k → has (first_ones n) (numbered_node k) ≡ false
unfolding first_ones
not_among k zero le = refl
not_among k (suc n) le =
    has-append (numbered_node k) (first_ones n) (numbered_node n ∷ [])
    ∙ ap (λ b. b || has (numbered_node n ∷ []) (numbered_node k)) (not_among k n (omega arith))
    ∙ ap (λ b. b || false) (numbers_differ k n (omega arith))

-- their hearings
heard : ℕ → List Hearing
heard zero = []
heard (suc n) = heard_at n 0 ∷ heard n

addresses_are : (n : ℕ) → addresses (heard n) ≡ first_ones n
unfolding heard first_ones
addresses_are zero = refl
addresses_are (suc n) = ap (λ l. filter (λ m. not (mac_eq (numbered_node n) m)) l ++ numbered_node n ∷ []) (addresses_are n) ∙ ap (λ l. l ++ numbered_node n ∷ []) (without_none (numbered_node n) (first_ones n) (not_among n n (omega arith)))

-- a later one was not heard
none_of : (k n : ℕ) → n ≤ k → of_address (numbered_node k) (heard n) ≡ []
unfolding heard
none_of k zero le = refl
none_of k (suc n) le = ap (λ b. cond b (heard_at n 0 ∷ of_address (numbered_node k) (heard n)) (of_address (numbered_node k) (heard n))) (mac_symm (numbered_node n) (numbered_node k) ∙ numbers_differ k n (omega arith)) ∙ none_of k n (omega arith)

-- the first ones are live for 60000 ms
live_then : (u n : ℕ) → u < 60000 → (m : Mac) → has (first_ones n) m ≡ true → is_live_by (heard n) u m ≡ true
unfolding heard first_ones
live_then u zero lt m e = cc
live_then u (suc n) lt m e = by (mac_eq (numbered_node n) m) refl (live_then u n lt m)
  where
    or_swap : (a b : Bool) → (a || b) ≡ true → b ≡ false → a ≡ true
    or_swap true b h k = refl
    or_swap false b h k = sym k ∙ h

    before : mac_eq (numbered_node n) m ≡ false → has (first_ones n) m ≡ true
    before t = or_swap (has (first_ones n) m) (has (numbered_node n ∷ []) m) (sym (has-append m (first_ones n) (numbered_node n ∷ [])) ∙ e) (ap (λ b. b || false) (mac_symm m (numbered_node n) ∙ t))

    by : (b : Bool) → mac_eq (numbered_node n) m ≡ b → (has (first_ones n) m ≡ true → is_live_by (heard n) u m ≡ true)
        → is_heard (cond b (heard_at n 0 ∷ of_address m (heard n)) (of_address m (heard n))) u ≡ true
    by true t ih = ap (λ b. b || is_heard (of_address m (heard n)) u) (lt-ltb (u - 0) 60000 (omega arith))
    by false t ih = ih (before t)

-- after 60000 ms the first ones are live no more
silent_then : (n : ℕ) (m : Mac) → is_live_by (heard n) 60000 m ≡ false
unfolding heard
silent_then zero m = refl
silent_then (suc n) m = by (mac_eq (numbered_node n) m) (silent_then n m)
  where
    by : (b : Bool) → is_live_by (heard n) 60000 m ≡ false → is_heard (cond b (heard_at n 0 ∷ of_address m (heard n)) (of_address m (heard n))) 60000 ≡ false
    by true ih = ih
    by false ih = ih

-- all pass a test, or none does
all_of : (p : Mac → Bool) (ks : List Mac) → AllByRecursion (λ k. p k ≡ true) ks → filter p ks ≡ ks
all_of p [] h = refl
all_of p (k ∷ ks) h = ap (λ b. cond b (k ∷ filter p ks) (filter p ks)) h.0 ∙ ap (λ l. k ∷ l) (all_of p ks h.1)

none_pass : (p : Mac → Bool) → ((k : Mac) → p k ≡ false) → (ks : List Mac) → filter p ks ≡ []
none_pass p h [] = refl
none_pass p h (k ∷ ks) = ap (λ b. cond b (k ∷ filter p ks) (filter p ks)) (h k) ∙ none_pass p h ks

each_of : (P : Mac → Type 0) (js : List Mac) → ((m : Mac) → has js m ≡ true → P m) → AllByRecursion P js
each_of P [] h = tt
each_of P (k ∷ ks) h = (h k (ap (λ b. b || has ks k) (mac_refl k)), each_of P ks (λ m e. h m (ap (λ b. mac_eq m k || b) e ∙ or_true (mac_eq m k))))
  where
    or_true : (b : Bool) → (b || true) ≡ true
    or_true true = refl
    or_true false = refl

-- each of the first 1024 finds room
room_at : (n now : ℕ) → n < 1024 → finds_room (heard n) (heard_at n now) ≡ true
room_at n now lt =
    let le : length (others_live (heard n) now (numbered_node n)) ≤ n =
    omega (arith, length-filter_le (λ m. is_live_by (heard n) now m && not (mac_eq (numbered_node n) m)) (addresses (heard n)), ap length (addresses_are n), length-first_ones n) in
    lt-ltb (length (others_live (heard n) now (numbered_node n))) 1024 (omega arith)

crowd_kept : (n : ℕ) → n ≤ 1024 → kept_in (crowd n) ≡ heard n
unfolding crowd heard
crowd_kept zero le = refl
crowd_kept (suc n) le =
    (λ j. kept_with (heard_at n 0) (crowd_kept n (omega arith) j)) ∙ ap (λ b. cond b (heard_at n 0 ∷ heard n) (heard n)) (room_at n 0 (omega arith))

-- nothing is removed later than at time 0, and each makes an entry
crowd_removal : (n : ℕ) → removal_in (crowd n) ≡ 0
unfolding crowd
crowd_removal zero = refl
crowd_removal (suc n) = by (removes (Hears (heard_at n 0)) (kept_in (crowd n)) (removal_in (crowd n))) (crowd_removal n)
  where
    by : (b : Bool) → removal_in (crowd n) ≡ 0 → cond b 0 (removal_in (crowd n)) ≡ 0
    by true ih = refl
    by false ih = ih

new_at : (n : ℕ) → has_entry (heard n) 0 (numbered_node n) ≡ false
new_at n = ap (λ hs. is_heard hs 0) (none_of n n (omega arith))

makes_at : (n : ℕ) → n < 1024 → makes_entry (heard_at n 0) (kept_in (crowd n)) (removal_in (crowd n)) ≡ true
makes_at n lt =
    (λ j. makes_entry (heard_at n 0) (crowd_kept n (omega arith) j) (crowd_removal n j))
    ∙ (λ j. room_at n 0 lt j && not (new_at n j))

crowd_makers : (n : ℕ) → n ≤ 1024 → makers_in (crowd n) ≡ heard n
unfolding crowd heard
crowd_makers zero le = refl
crowd_makers (suc n) le = (λ j. cond (makes_at n (omega arith) j) (heard_at n 0 ∷ crowd_makers n (omega arith) j) (crowd_makers n (omega arith) j))

-- fewer than 1024 have an entry until then
not_filled : (n : ℕ) → n < 1024 → is_filled (kept_in (crowd n)) (removal_in (crowd n)) ≡ false
not_filled n lt =
    let le : length (filter (has_entry (heard n) 0) (addresses (heard n))) ≤ n = omega (arith, length-filter_le (has_entry (heard n) 0) (addresses (heard n)), ap length (addresses_are n), length-first_ones n) in
    (λ j. is_filled (crowd_kept n (omega arith) j) (crowd_removal n j)) ∙ lt-leb 1024 (length (filter (has_entry (heard n) 0) (addresses (heard n)))) (omega arith)

crowd_raised : (n : ℕ) → n ≤ 1024 → raised_in (crowd n) ≡ []
unfolding crowd
crowd_raised zero le = refl
crowd_raised (suc n) le =
    (λ j. crowd_raised n (omega arith) j ++ cond (makes_entry (heard_at n 0) (kept_in (crowd n)) (removal_in (crowd n)) && not_filled n (omega arith) j) (flat_map (down_alarm 0 (crowd n)) (entered (crowd n))) [])
    ∙ by (makes_entry (heard_at n 0) (kept_in (crowd n)) (removal_in (crowd n)))
  where
    by : (b : Bool) → cond {A = List Alarm} (b && false) (flat_map (down_alarm 0 (crowd n)) (entered (crowd n))) [] ≡ []
    by true = refl
    by false = refl

crowd_order : (n now : ℕ) → AreUpTo now (crowd n)
unfolding crowd
crowd_order zero now = tt
crowd_order (suc n) now = (omega arith, crowd_order n 0)

-- all first ones have an entry
first_live : (u n : ℕ) → u < 60000 → filter (λ m. is_live_by (heard n) u m) (first_ones n) ≡ first_ones n
first_live u n lt = all_of (λ m. is_live_by (heard n) u m) (first_ones n) (each_of (λ m. is_live_by (heard n) u m ≡ true) (first_ones n) (live_then u n lt))

crowd_entered : (n : ℕ) → n ≤ 1024 → entered (crowd n) ≡ first_ones n
crowd_entered n le =
    (λ j. filter (has_entry (crowd_kept n le j) (crowd_removal n j)) (addresses (crowd_makers n le j)))
    ∙ ap (filter (has_entry (heard n) 0)) (addresses_are n)
    ∙ first_live 0 n (omega arith)

-- the others of a later one are all of the first ones
first_others : (u n : ℕ) → u < 60000 → others_live (heard n) u (numbered_node n) ≡ first_ones n
first_others u n lt =
    ap (filter (λ m. is_live_by (heard n) u m && not (mac_eq (numbered_node n) m))) (addresses_are n)
    ∙ all_of (λ m. is_live_by (heard n) u m && not (mac_eq (numbered_node n) m)) (first_ones n)
    (each_of (λ m. (is_live_by (heard n) u m && not (mac_eq (numbered_node n) m)) ≡ true) (first_ones n) both)
  where
    other : (m : Mac) → has (first_ones n) m ≡ true → mac_eq (numbered_node n) m ≡ false
    other m e = false_from_ne_true (mac_eq (numbered_node n) m)
        (λ t. let bad : false ≡ true = sym (not_among n n (omega arith)) ∙ ap (has (first_ones n)) (mac_same (numbered_node n) m t) ∙ e in absurd cc)

    both : (m : Mac) → has (first_ones n) m ≡ true → (is_live_by (heard n) u m && not (mac_eq (numbered_node n) m)) ≡ true
    both m e = (λ j. live_then u n lt m e j && not (other m e j))

abbrev full_kept : kept_in (crowd 1024) ≡ heard 1024
full_kept = crowd_kept 1024 (omega arith)

refused_early : length (others_live (kept_in (crowd 1024)) 59999 (numbered_node 1024)) ≡ 1024
refused_early = ap (λ hs. length (others_live hs 59999 (numbered_node 1024))) full_kept ∙ ap length (first_others 59999 1024 (omega arith)) ∙ length-first_ones 1024

-- at 60000 nobody is live
none_live : (m : Mac) → is_live_by (kept_in (crowd 1024)) 60000 m ≡ false
none_live m = ap (λ hs. is_live_by hs 60000 m) full_kept ∙ silent_then 1024 m

room_in_time : finds_room (kept_in (crowd 1024)) in_time ≡ true
room_in_time =
    ap (λ l. nat_lt (length l) 1024) (none_pass (λ m. is_live_by (kept_in (crowd 1024)) 60000 m && not (mac_eq (numbered_node 1024) m))
    (λ m. ap (λ b. b && not (mac_eq (numbered_node 1024) m)) (none_live m)) (addresses (kept_in (crowd 1024))))

removes_in_time : removes (Hears in_time) (kept_in (crowd 1024)) (removal_in (crowd 1024)) ≡ true
removes_in_time = (λ j. (room_in_time j && not (new j)) && filled j)
  where
    new : has_entry (kept_in (crowd 1024)) (removal_in (crowd 1024)) (numbered_node 1024) ≡ false
    new = (λ j. has_entry (full_kept j) (crowd_removal 1024 j) (numbered_node 1024)) ∙ new_at 1024

    filled : is_filled (kept_in (crowd 1024)) (removal_in (crowd 1024)) ≡ true
    filled =
        (λ j. is_filled (full_kept j) (crowd_removal 1024 j))
        ∙ ap (λ l. nat_le 1024 (length l)) (ap (filter (has_entry (heard 1024) 0)) (addresses_are 1024) ∙ first_live 0 1024 (omega arith))
        ∙ le-leb 1024 (length (first_ones 1024)) (omega (arith, length-first_ones 1024))

all_down : (ks : List Mac) → flat_map (down_alarm 60000 (crowd 1024)) ks ≡ map (λ m. NodeDown m 60000) ks
all_down [] = refl
all_down (k ∷ ks) = ap (λ b. cond (not b) (NodeDown k 60000 ∷ []) [] ++ flat_map (down_alarm 60000 (crowd 1024)) ks) (none_live k) ∙ ap (λ l. NodeDown k 60000 ∷ l) (all_down ks)

raised_in_time : raised_in (Hears in_time ∷ crowd 1024) ≡ map (λ m. NodeDown m 60000) (first_ones 1024)
raised_in_time =
    (λ j. crowd_raised 1024 (omega arith) j ++ cond (removes_in_time j) (flat_map (down_alarm 60000 (crowd 1024)) (entered (crowd 1024))) [])
    ∙ all_down (entered (crowd 1024))
    ∙ ap (map (λ m. NodeDown m 60000)) (crowd_entered 1024 (omega arith))

-- the new one alone is listed
makes_in_time : makes_entry in_time (kept_in (crowd 1024)) (removal_in (crowd 1024)) ≡ true
makes_in_time = (and_parts (makes_entry in_time (kept_in (crowd 1024)) (removal_in (crowd 1024))) (is_filled (kept_in (crowd 1024)) (removal_in (crowd 1024))) removes_in_time).0

new_in_time : has_entry (kept_in (crowd 1024)) (removal_in (crowd 1024)) (numbered_node 1024) ≡ false
new_in_time = not-true (has_entry (kept_in (crowd 1024)) (removal_in (crowd 1024)) (numbered_node 1024))
    (and_parts (finds_room (kept_in (crowd 1024)) in_time) (not (has_entry (kept_in (crowd 1024)) (removal_in (crowd 1024)) (numbered_node 1024))) makes_in_time).1

entered_in_time : entered (Hears in_time ∷ crowd 1024) ≡ numbered_node 1024 ∷ []
entered_in_time =
    (λ j. entered_by (cond (room_in_time j) (in_time ∷ kept_in (crowd 1024)) (kept_in (crowd 1024))) (cond (removes_in_time j) 60000 (removal_in (crowd 1024)))
    (cond (makes_in_time j) (in_time ∷ makers_in (crowd 1024)) (makers_in (crowd 1024))))
    ∙ entered_removing in_time (kept_in (crowd 1024)) (makers_in (crowd 1024)) (removal_in (crowd 1024)) new_in_time (removal_le (crowd 1024) 60000 (crowd_order 1024 60000))
    ∙ ap (λ l. l ++ numbered_node 1024 ∷ []) (none_pass (is_live_by (kept_in (crowd 1024)) 60000) none_live (entered (crowd 1024)))

live_in_time : live_in (Hears in_time ∷ crowd 1024) 60000 ≡ numbered_node 1024 ∷ []
live_in_time =
    (λ j. filter (is_live_by (cond (room_in_time j) (in_time ∷ kept_in (crowd 1024)) (kept_in (crowd 1024))) 60000) (entered_in_time j))
    ∙ ap (λ b. cond b (numbered_node 1024 ∷ []) []) (own_live in_time (kept_in (crowd 1024)) 60000 (omega arith))

pub full_is_worked_out : FullIsWorkedOut
full_is_worked_out = record {
  refused = (full_where_others_are_live (crowd 1024) too_early (crowd_order 1024 59999)).1 refused_early;
  taken =
      answers_are_of_kept (crowd 1024) in_time (crowd_order 1024 60000)
      ∙ (λ j. cond (none_live (numbered_node 1024) j) Known (cond (room_in_time j) New Full));
  alarms = alarms_are_the_latest (Hears in_time ∷ crowd 1024) 60000 (omega arith, crowd_order 1024 60000) ∙ ap (keep_last 64) raised_in_time;
  listed = list_is_of_kept (Hears in_time ∷ crowd 1024) 60000 (omega arith, crowd_order 1024 60000) ∙ live_in_time;
}
