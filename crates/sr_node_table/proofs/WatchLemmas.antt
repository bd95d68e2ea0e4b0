-- The alarms and the late ports so far, entry by entry.
use Rattle.std.proofs.Common.{◌≡◌, ℕ, zero, suc, ◌+◌, ◌-◌, ◌≤◌, true, false, cond, List, [], ◌∷◌, ◌++◌, length, drop, Option, None, Some, is_some, if◌then◌else◌, refl, sym, ap, ◌∙◌, subst, append_assoc, append-nil, arith}
use Rattle.std.specs.List.{filter_map, cons_option, IsDistinct, AllByRecursion, slice_get}
use Rattle.std.specs.Map.{lookup, keys_of}
use Rattle.std.proofs.lemmas.List.{length-append, length-drop, drop-drop, drop-append-le, drop_all}
use Rattle.circular_buffer.specs.Buffer.{Buffer, buffer, keep_last}
use Rattle.sr_frame.specs.declared.fields.Mac.{Mac}
use Rattle.sr_frame.specs.declared.ports.Port.{Port}
use Rattle.sr_frame.specs.Addresses.{mac_eq}
use Rattle.sr_slots.specs.EntryLemmas.{lookup-push}
use Rattle.sr_aged_slots.specs.GatherLemmas.{cons_is}
use Rattle.sr_frame.specs.declared.ports.Port.TheVariants.{H, A, B, C}
use Rattle.sr_node_table.specs.Nodes.{Entry, Entries, is_live, down_of}
use Rattle.sr_node_table.specs.Watching.{found_late, late_port, late_at, is_port, ring_error, alarm_of, alarms_at}

module _ {X : Type 0} where
  -- the last ones of the last ones and more are the last ones
  pub keep_last_again : (n : ℕ) (xs ys : List X) → keep_last n (keep_last n xs ++ ys) ≡ keep_last n (xs ++ ys)
  keep_last_again n xs ys =
      let k = length xs - n in
      let le : k ≤ length xs = omega arith in
      let split : drop k xs ++ ys ≡ drop k (xs ++ ys) = sym (drop-append-le k xs ys le) in
      let sum : k + (length (drop k xs ++ ys) - n) ≡ length (xs ++ ys) - n =
      omega (arith, length-append (drop k xs) ys, length-drop k xs, length-append xs ys) in
      ap (drop (length (drop k xs ++ ys) - n)) split ∙ drop-drop (length (drop k xs ++ ys) - n) k (xs ++ ys) ∙ ap (λ m. drop m (xs ++ ys)) sum

  pub keep_last_all : (n : ℕ) (xs : List X) → length xs ≤ n → keep_last n xs ≡ xs
  keep_last_all n xs few = let e : length xs - n ≡ 0 = omega arith in ap (λ m. drop m xs) e

  pub length-keep_last_le : (n : ℕ) (xs : List X) → length (keep_last n xs) ≤ n
  length-keep_last_le n xs = omega (arith, length-drop (length xs - n) xs)

  -- where nothing is raised, the last ones stay
  pub keep_last_none : (n : ℕ) (xs : List X) → length xs ≤ n → keep_last n (xs ++ []) ≡ xs
  keep_last_none n xs few = ap (keep_last n) (append-nil xs) ∙ keep_last_all n xs few

-- what was late before counts only where a port is late
pub asked_where_late : (o late : Option Port) (mac : Mac) (e : Entry) (now : ℕ) → alarm_of (if is_some late then o else None) late mac e now ≡ alarm_of o late mac e now
asked_where_late o None mac e now = refl
asked_where_late o (Some port) mac e now = refl

-- what a loop over the entries `all` has raised, once the `rest` is left
pub record Raises {E X : Type 0} (f : E → Option X) (cap : ℕ) (start : List X) (all : List E) (items : List X) (rest : List E) : Type 0 where
  pub few : length items ≤ cap
  pub together : keep_last cap (items ++ filter_map f rest) ≡ keep_last cap (start ++ filter_map f all)

module _ {E X : Type 0} (f : E → Option X) (cap : ℕ) (start : List X) (all : List E) where
  pub raises_more : (items : List X) (e : E) (rest : List E) → Raises f cap start all items (e ∷ rest) → Raises f cap start all (keep_last cap (items ++ cons_option (f e) [])) rest
  raises_more items e rest h = record {
    few = length-keep_last_le cap (items ++ cons_option (f e) []);
    together =
        keep_last_again cap (items ++ cons_option (f e) []) (filter_map f rest)
        ∙ ap (keep_last cap) (append_assoc items (cons_option (f e) []) (filter_map f rest) ∙ ap (λ l. items ++ l) (sym (cons_is (f e) (filter_map f rest))))
        ∙ h.together;
  }

  -- the same, in the words of a call
  pub raises_on : (old new : Buffer X) (o : Option X) (before rest : List E) (e : E) → before ≡ e ∷ rest → o ≡ f e → old.capacity ≡ cap
      → new ≡ buffer (keep_last old.capacity (old.items ++ cons_option o [])) old.capacity → Raises f cap start all old.items before → Raises f cap start all new.items rest
  raises_on old new o before rest e first is same raised h =
      let items : new.items ≡ keep_last cap (old.items ++ cons_option (f e) []) =
      ap (λ b. b.items) raised ∙ (λ j. keep_last (same j) (old.items ++ cons_option (is j) [])) in
      subst (λ l. Raises f cap start all l rest) (sym items) (raises_more old.items e rest (subst (Raises f cap start all old.items) first h))

  pub raises_all : (items : List X) → Raises f cap start all items [] → items ≡ keep_last cap (start ++ filter_map f all)
  raises_all items h = sym (keep_last_all cap items h.few) ∙ ap (keep_last cap) (sym (append-nil items)) ∙ h.together

module _ {V : Type 0} (port_of : Mac × V → Option Port) (all : List (Mac × V)) where
  abbrev found : List (Mac × V) → List (Mac × Port)
  found es = filter_map (λ e. found_late e.0 (port_of e)) es

  -- what it has found late
  pub record Finds (ports : List (Mac × Port)) (left start : ℕ) (rest : List (Mac × V)) : Type 0 where
    pub together : ports ++ filter_map (λ e. found_late e.0 (port_of e)) rest ≡ filter_map (λ e. found_late e.0 (port_of e)) all
    pub fits : length rest ≤ left
    pub room : start ≤ length ports + left
    pub apart : AllByRecursion (λ mac. lookup (mac_eq mac) ports ≡ None) (keys_of rest)
    pub unique : IsDistinct mac_eq (keys_of rest)

  abbrev none : List (Mac × Port)
  none = []

  all_apart : (ks : List Mac) → AllByRecursion (λ mac. lookup (mac_eq mac) none ≡ None) ks
  all_apart [] = tt
  all_apart (k ∷ ks) = (refl, all_apart ks)

  pub finds_begin : (room : ℕ) → length all ≤ room → IsDistinct mac_eq (keys_of all) → Finds [] room room all
  finds_begin room fits unique = record { together = refl; fits = fits; room = omega arith; apart = all_apart (keys_of all); unique = unique }

  still_apart : (mac : Mac) (port : Port) (ports : List (Mac × Port)) → lookup (mac_eq mac) ports ≡ None → (ks : List Mac)
      → AllByRecursion (λ k. mac_eq mac k ≡ false) ks → AllByRecursion (λ k. lookup (mac_eq k) ports ≡ None) ks → AllByRecursion (λ k. lookup (mac_eq k) (ports ++ (mac, port) ∷ []) ≡ None) ks
  still_apart mac port ports absent [] other h = tt
  still_apart mac port ports absent (k ∷ ks) other h = (
    lookup-push mac k port ports absent ∙ ap (λ b. cond b (Some port) (lookup (mac_eq k) ports)) other.0 ∙ h.0,
    still_apart mac port ports absent ks other.1 h.1,
  )

  one_at_most : {X : Type 0} (xs : List X) (o : Option X) → length (xs ++ cons_option o []) ≤ length xs + 1
  one_at_most xs None = omega (arith, length-append xs [])
  one_at_most xs (Some x) = omega (arith, length-append xs (x ∷ []))

  pub finds_more : (ports : List (Mac × Port)) (room more start : ℕ) (e : Mac × V) (rest : List (Mac × V))
      → length ports + room ≤ length (ports ++ cons_option (found_late e.0 (port_of e)) []) + more
      → Finds ports room start (e ∷ rest) → Finds (ports ++ cons_option (found_late e.0 (port_of e)) []) more start rest
  unfolding IsDistinct
  finds_more ports room more start e rest le h = record {
    together =
        append_assoc ports (cons_option (found_late e.0 (port_of e)) []) (found rest)
        ∙ ap (λ l. ports ++ l) (sym (cons_is (found_late e.0 (port_of e)) (found rest)))
        ∙ h.together;
    fits = let f : suc (length rest) ≤ room = h.fits in omega (arith, one_at_most ports (found_late e.0 (port_of e)));
    room = omega (arith, h.room);
    apart = by (port_of e);
    unique = h.unique.1;
  }
    where
      by : (o : Option Port) → AllByRecursion (λ mac. lookup (mac_eq mac) (ports ++ cons_option (found_late e.0 o) []) ≡ None) (keys_of rest)
      by None = subst (λ l. AllByRecursion (λ mac. lookup (mac_eq mac) l ≡ None) (keys_of rest)) (sym (append-nil ports)) h.apart.1
      by (Some port) = still_apart e.0 port ports h.apart.0 (keys_of rest) h.unique.0 h.apart.1

  -- the same, in the words of a call
  pub finds_on : (ports next : List (Mac × Port)) (room more start : ℕ) (late : Option Port) (before rest : List (Mac × V)) (e : Mac × V) → before ≡ e ∷ rest → late ≡ port_of e
      → next ≡ ports ++ cons_option (found_late e.0 late) [] → length ports + room ≤ length next + more → Finds ports room start before → Finds next more start rest
  finds_on ports next room more start late before rest e first is found le h =
      let is_next : next ≡ ports ++ cons_option (found_late e.0 (port_of e)) [] = found ∙ ap (λ o. ports ++ cons_option (found_late e.0 o) []) is in
      subst (λ l. Finds l more start rest) (sym is_next) (finds_more ports room more start e rest (omega (arith, ap length is_next)) (subst (Finds ports room start) first h))

  pub finds_all : (ports : List (Mac × Port)) (room start : ℕ) → Finds ports room start [] → ports ≡ found all
  finds_all ports room start h = sym (append-nil ports) ∙ h.together

-- a loop that finds every port late copies them
found_each : (ps : List (Mac × Port)) → filter_map (λ (p : Mac × Port). found_late p.0 (Some p.1)) ps ≡ ps
found_each [] = refl
found_each (p ∷ ps) = ap (λ l. p ∷ l) (found_each ps)

pub finds_each : (all ports : List (Mac × Port)) (room start : ℕ) → Finds (λ p. Some p.1) all ports room start [] → ports ≡ all
finds_each all ports room start h = finds_all (λ p. Some p.1) all ports room start h ∙ found_each all

-- an entry of a list, and those behind it
drop_there : {X : Type 0} (xs : List X) (i : ℕ) (x : X) → slice_get xs i ≡ Some x → drop i xs ≡ x ∷ drop (suc i) xs
drop_there [] i x at = cc
drop_there (y ∷ xs) zero x at = let v : y ≡ x = cc in ap (λ z. z ∷ xs) v
drop_there (y ∷ xs) (suc i) x at = drop_there xs i x at

is_port_same : (p : Port) → is_port p p ≡ true
is_port_same H = refl
is_port_same A = refl
is_port_same B = refl
is_port_same C = refl

-- a loop over the entries `all` that has found so many ports late, which were the first of those that were late `before`, and nothing to
-- raise: if the `rest` finds the others and raises nothing, all of them are the same and raise nothing
pub record Same (before : List (Mac × Port)) (now : ℕ) (all : Entries) (found : ℕ) (rest : Entries) : Type 0 where
  pub late : late_at now rest ≡ drop found before → late_at now all ≡ before
  pub quiet : alarms_at before now rest ≡ [] → alarms_at before now all ≡ []

module _ (before : List (Mac × Port)) (now : ℕ) (all : Entries) where
  pub same_begin : Same before now all 0 all
  same_begin = record { late = λ h. h; quiet = λ h. h }

  module _ (found : ℕ) (mac : Mac) (e : Entry) (left rest : Entries) (first : left ≡ (mac, e) ∷ rest) (live : is_live now e ≡ true) (s : Same before now all found left) where
    quiet_by : (late : Option Port) → late_port now e ≡ late → ring_error (lookup (mac_eq mac) before) late mac now ≡ None → alarms_at before now rest ≡ [] → alarms_at before now all ≡ []
    quiet_by late is none h =
        let o = lookup (mac_eq mac) before in
        let nothing : alarm_of o (late_port now e) mac e now ≡ None =
        ap (λ b. cond b (ring_error o (late_port now e) mac now) (down_of mac e now)) live ∙ ap (λ l. ring_error o l mac now) is ∙ none in
        s.quiet (ap (alarms_at before now) first ∙ ap (λ a. cons_option a (alarms_at before now rest)) nothing ∙ h)

    -- no port of it is late
    pub same_on : late_port now e ≡ None → Same before now all found rest
    same_on none = record {
      late = λ h. s.late (ap (late_at now) first ∙ ap (λ l. cons_option (found_late mac l) (late_at now rest)) none ∙ h);
      quiet = quiet_by None none refl;
    }

    -- this port of it is late, and was
    pub same_late : (port : Port) → late_port now e ≡ Some port → slice_get before found ≡ Some (mac, port) → lookup (mac_eq mac) before ≡ Some port → Same before now all (found + 1) rest
    same_late port is there was =
        let one : found + 1 ≡ suc found = omega arith in
        record {
          late = λ h. s.late (
              ap (late_at now) first
              ∙ ap (λ l. cons_option (found_late mac l) (late_at now rest)) is
              ∙ ap (λ l. (mac, port) ∷ l) (h ∙ ap (λ k. drop k before) one)
              ∙ sym (drop_there before found (mac, port) there)
              );
          quiet = quiet_by (Some port) is
              (ap (λ o. ring_error o (Some port) mac now) was ∙ ap (λ b. cond b None (ring_error None (Some port) mac now)) (is_port_same port));
        }

  pub same_end : (found : ℕ) → found ≡ length before → Same before now all found [] → (late_at now all ≡ before) × (alarms_at before now all ≡ [])
  same_end found end s = (s.late (sym (drop_all found before (omega (arith, end)))), s.quiet refl)
