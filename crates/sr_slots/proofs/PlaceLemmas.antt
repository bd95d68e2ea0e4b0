-- What the places of the map show, through what the map's calls do to them.
use Rattle.std.proofs.Common.{◌≡◌, ℕ, suc, ◌+◌, ◌-◌, ◌≤◌, Bool, true, false, cond, ◌||◌, not, List, [], ◌∷◌, ◌++◌, length, Option, None, Some, is_some, refl, sym, ap, ◌∙◌, subst, append_assoc, append-nil, arith}
use Rattle.std.specs.Map.{lookup, set_value, keys_of}
use Rattle.std.specs.Map.Calls.{RetainsPairs}
use Rattle.std.specs.List.{list_any, IsDistinct, AllByRecursion, position_or_len, remove, slice_get}
use Rattle.std.specs.Prelude.{option_to_list, IfSome, IfNone}
use Rattle.std.specs.Borrow.{Bor, MutBor}
use Rattle.std.specs.Fn.{Once, FnOnceReturnsAtMut}
use Rattle.std.specs.Option.{option_copied}
use Rattle.std.proofs.Math.Bool.{or-true}
use Rattle.std.proofs.lemmas.Map.{length-set_value}
use Rattle.std.proofs.lemmas.Bool.{not-true, not-false}
use Rattle.std.proofs.lemmas.List.Folds.{list_any-append}
use Rattle.std.proofs.lemmas.List.Elements.{filter-append}
use Rattle.std.proofs.lemmas.List.{length-append}
use Rattle.indexmap.specs.IndexMap.{insert_entry}
use Rattle.sr_frame.specs.declared.fields.Mac.{Mac}
use Rattle.sr_slots.specs.declared.places.Slot.{Slot}
use Rattle.sr_frame.specs.Addresses.{mac_eq}
use Rattle.sr_slots.specs.Places.{entry_at, held_at, entries_of, held_of, held_but, slot_of, IsLast, KeepsHeld}
use Rattle.sr_slots.specs.Effects.{HoldsPlace, ChangesPlace}
use Rattle.sr_frame.specs.AddressLemmas.{mac_same, mac_refl}
use Rattle.sr_slots.specs.EntryLemmas.{one_if, head_differs}

-- the value in the place that was found
abbrev pub value_in : {V : Type 0} → Option (Slot V) → Option V
value_in None = None
value_in (Some s) = s.value

-- a place of another address, held or not, changes no answer on q
pub any_held : (q m : Mac) (b : Bool) (xs ys : List Mac) → mac_eq q m ≡ false → list_any (mac_eq q) (xs ++ (held_at m b ++ ys)) ≡ list_any (mac_eq q) (xs ++ ys)
any_held q m false xs ys h = refl
any_held q m true xs ys h =
    list_any-append (mac_eq q) xs (m ∷ ys) ∙ ap (λ b. list_any (mac_eq q) xs || (b || list_any (mac_eq q) ys)) h ∙ sym (list_any-append (mac_eq q) xs ys)

pub any_behind : (m : Mac) (xs ys : List Mac) → list_any (mac_eq m) ys ≡ true → list_any (mac_eq m) (xs ++ ys) ≡ true
any_behind m [] ys y = y
any_behind m (x ∷ xs) ys y = ap (λ b. mac_eq m x || b) (any_behind m xs ys y) ∙ or-true (mac_eq m x)

pub length-held_at : (m : Mac) (b : Bool) (ys : List Mac) → length (held_at m b ++ ys) ≡ one_if b + length ys
length-held_at m true ys = omega arith
length-held_at m false ys = omega arith

-- the item at a place, moved to the end
pub item_at : {X : Type 0} (front back : List X) (x : X) → slice_get (front ++ x ∷ back) (length front) ≡ Some x
item_at [] back x = refl
item_at (e ∷ front) back x = item_at front back x

pub without_item : {X : Type 0} (front back : List X) (x : X) → remove (front ++ x ∷ back) (length front) ≡ front ++ back
without_item [] back x = refl
without_item (e ∷ front) back x = ap (λ l. e ∷ l) (without_item front back x)

-- there is a value behind a reference exactly where there is one
pub copied_some : {T : Type 0} (o : Option (Bor T)) → is_some (option_copied o) ≡ is_some o
copied_some None = refl
copied_some (Some x) = refl

-- a count of one more exactly where it was not counted before
pub one_more : (b : Bool) (m n : ℕ) → m + one_if b ≡ n + 1 → m ≡ n + one_if (not b)
one_more true m n h = omega arith
one_more false m n h = omega arith

pub none_from : {X : Type 0} (o : Option X) → false ≡ is_some o → o ≡ None
none_from None h = refl
none_from (Some x) h = cc

-- leaving an address out of a list in which it may stand first
own_left_out : (m k : Mac) (b : Bool) (ys : List Mac) → mac_eq m k ≡ true → held_but (held_at k b ++ ys) m ≡ held_but ys m
own_left_out m k false ys same = refl
own_left_out m k true ys same = ap (λ t. cond (not t) (k ∷ held_but ys m) (held_but ys m)) same

-- leaving an address out that is not there
pub none_left_out : (m : Mac) (xs : List Mac) → list_any (mac_eq m) xs ≡ false → held_but xs m ≡ xs
none_left_out m [] none = refl
none_left_out m (x ∷ xs) none = by (mac_eq m x) none (none_left_out m xs)
  where
    by : (t : Bool) → (t || list_any (mac_eq m) xs) ≡ false → (list_any (mac_eq m) xs ≡ false → held_but xs m ≡ xs)
        → cond (not t) (x ∷ held_but xs m) (held_but xs m) ≡ x ∷ xs
    by true h ih = cc
    by false h ih = ap (λ l. x ∷ l) (ih h)

-- where a place was held newly and given up again, the held places are those of before
pub given_back : (old mid new : List Mac) (key : Mac) → true ≡ not (list_any (mac_eq key) old) → held_but mid key ≡ held_but old key
    → new ≡ held_but mid key → new ≡ old
given_back old mid new key newly rest given = given ∙ rest ∙ none_left_out key old (not-true (list_any (mac_eq key) old) (sym newly))

-- one more address has a held place, and the others as before
held_with : (old new : List Mac) (key : Mac) → KeepsHeld old new key → list_any (mac_eq key) new ≡ true
    → (m : Mac) → list_any (mac_eq m) new ≡ (mac_eq m key || list_any (mac_eq m) old)
held_with old new key others held m = by (mac_eq m key) refl
  where
    by : (b : Bool) → mac_eq m key ≡ b → list_any (mac_eq m) new ≡ (b || list_any (mac_eq m) old)
    by true t = ap (λ k. list_any (mac_eq k) new) (mac_same m key t) ∙ held
    by false t = others m t

regroup : (a b c : Bool) → ((a || b) || c) ≡ (b || (a || c))
regroup true true c = refl
regroup true false c = refl
regroup false true c = refl
regroup false false c = refl

pub or_none : (b : Bool) → (b || false) ≡ b
or_none true = refl
or_none false = refl

-- writing the value that is there changes nothing
pub set_value_same : {X : Type 0} (test : Mac → Bool) (es : List (Mac × X)) (w : X) → lookup test es ≡ Some w → set_value test es w ≡ es
set_value_same test [] w h = refl
set_value_same {X} test (e ∷ es) w h = by (test e.0) h (set_value_same test es w)
  where
    by : (t : Bool) → cond t (Some e.1) (lookup test es) ≡ Some w → (lookup test es ≡ Some w → set_value test es w ≡ es) → cond t ((e.0, w) ∷ es) (e ∷ set_value test es w) ≡ e ∷ es
    by true s ih = let v : e.1 ≡ w = cc in λ j. (e.0, sym v j) ∷ es
    by false s ih = ap (λ l. e ∷ l) (ih s)

module _ {V : Type 0} where
  pub entries-append : (xs ys : List (Mac × Slot V)) → entries_of (xs ++ ys) ≡ entries_of xs ++ entries_of ys
  entries-append [] ys = refl
  entries-append (e ∷ xs) ys = ap (λ l. entry_at e.0 e.1.value ++ l) (entries-append xs ys) ∙ sym (append_assoc (entry_at e.0 e.1.value) (entries_of xs) (entries_of ys))

  pub held-append : (xs ys : List (Mac × Slot V)) → held_of (xs ++ ys) ≡ held_of xs ++ held_of ys
  held-append [] ys = refl
  held-append (e ∷ xs) ys = ap (λ l. held_at e.0 e.1.held ++ l) (held-append xs ys) ∙ sym (append_assoc (held_at e.0 e.1.held) (held_of xs) (held_of ys))

  -- no more entries than places, and no more held places than places
  pub entries_le : (es : List (Mac × Slot V)) → length (entries_of es) ≤ length es
  entries_le [] = omega arith
  entries_le (e ∷ es) = by e.1.value (entries_le es)
    where
      by : (r : Option V) → length (entries_of es) ≤ length es → length (entry_at e.0 r ++ entries_of es) ≤ suc (length es)
      by None h = omega arith
      by (Some x) h = omega arith

  pub held_le : (es : List (Mac × Slot V)) → length (held_of es) ≤ length es
  held_le [] = omega arith
  held_le (e ∷ es) = by e.1.held (held_le es)
    where
      by : (b : Bool) → length (held_of es) ≤ length es → length (held_at e.0 b ++ held_of es) ≤ suc (length es)
      by true h = omega arith
      by false h = omega arith

  -- an address without a place has no value, and no held place
  skip : (test : Mac → Bool) (m : Mac) (r : Option V) (ys : List (Mac × V)) → test m ≡ false → lookup test (entry_at m r ++ ys) ≡ lookup test ys
  skip test m None ys h = refl
  skip test m (Some x) ys h = ap (λ b. cond b (Some x) (lookup test ys)) h

  pub entries_absent : (test : Mac → Bool) (es : List (Mac × Slot V)) → lookup test es ≡ None → lookup test (entries_of es) ≡ None
  entries_absent test [] h = refl
  entries_absent test (e ∷ es) h =
      let d = head_differs (test e.0) e.1 (lookup test es) h in
      skip test e.0 e.1.value (entries_of es) d.0 ∙ entries_absent test es d.1

  pub held_absent : (m : Mac) (es : List (Mac × Slot V)) → lookup (mac_eq m) es ≡ None → list_any (mac_eq m) (held_of es) ≡ false
  held_absent m [] h = refl
  held_absent m (e ∷ es) h =
      let d = head_differs (mac_eq m e.0) e.1 (lookup (mac_eq m) es) h in
      any_held m e.0 e.1.held [] (held_of es) d.0 ∙ held_absent m es d.1

  -- where no two keys are equal, the places behind a key lack it
  absent_after : (m : Mac) (back : List (Mac × Slot V)) → AllByRecursion (λ y. mac_eq m y ≡ false) (keys_of back) → lookup (mac_eq m) back ≡ None
  absent_after m [] h = refl
  absent_after m (e ∷ back) h = ap (λ b. cond b (Some e.1) (lookup (mac_eq m) back)) h.0 ∙ absent_after m back h.1

  -- the look-up among the entries is that among the places
  pub lookup-entries : (m : Mac) (es : List (Mac × Slot V)) → IsDistinct mac_eq (keys_of es) → lookup (mac_eq m) (entries_of es) ≡ value_in (lookup (mac_eq m) es)
  unfolding IsDistinct
  lookup-entries m [] h = refl
  lookup-entries m (e ∷ es) h = by (mac_eq m e.0) refl e.1.value refl (lookup-entries m es h.1)
    where
      by : (t : Bool) → mac_eq m e.0 ≡ t → (r : Option V) → e.1.value ≡ r → lookup (mac_eq m) (entries_of es) ≡ value_in (lookup (mac_eq m) es)
          → lookup (mac_eq m) (entry_at e.0 r ++ entries_of es) ≡ value_in (cond t (Some e.1) (lookup (mac_eq m) es))
      by true t (Some x) v ih = ap (λ b. cond b (Some x) (lookup (mac_eq m) (entries_of es))) t ∙ sym v
      by true t None v ih =
          entries_absent (mac_eq m) es (subst (λ k. lookup (mac_eq k) es ≡ None) (sym (mac_same m e.0 t)) (absent_after e.0 es h.0)) ∙ sym v
      by false t r v ih = skip (mac_eq m) e.0 r (entries_of es) t ∙ ih

  pub found_value : (m : Mac) (s : Slot V) (es : List (Mac × Slot V)) → IsDistinct mac_eq (keys_of es) → lookup (mac_eq m) es ≡ Some s → lookup (mac_eq m) (entries_of es) ≡ s.value
  found_value m s es unique there = lookup-entries m es unique ∙ ap value_in there

  -- no two entries have one address
  apart_entries : (m : Mac) (es : List (Mac × Slot V)) → AllByRecursion (λ y. mac_eq m y ≡ false) (keys_of es) → AllByRecursion (λ y. mac_eq m y ≡ false) (keys_of (entries_of es))
  apart_entries m [] h = tt
  apart_entries m (e ∷ es) h = by e.1.value (apart_entries m es h.1)
    where
      by : (r : Option V) → AllByRecursion (λ y. mac_eq m y ≡ false) (keys_of (entries_of es)) → AllByRecursion (λ y. mac_eq m y ≡ false) (keys_of (entry_at e.0 r ++ entries_of es))
      by None ih = ih
      by (Some x) ih = (h.0, ih)

  pub distinct-entries : (es : List (Mac × Slot V)) → IsDistinct mac_eq (keys_of es) → IsDistinct mac_eq (keys_of (entries_of es))
  unfolding IsDistinct
  distinct-entries [] h = tt
  distinct-entries (e ∷ es) h = by e.1.value (distinct-entries es h.1)
    where
      by : (r : Option V) → IsDistinct mac_eq (keys_of (entries_of es)) → IsDistinct mac_eq (keys_of (entry_at e.0 r ++ entries_of es))
      by None ih = ih
      by (Some x) ih = (apart_entries e.0 es h.0, ih)

  -- writing at a place with a value writes that entry
  pub entries-set : (m : Mac) (w : V) (held : Bool) (es : List (Mac × Slot V)) → is_some (value_in (lookup (mac_eq m) es)) ≡ true
      → entries_of (set_value (mac_eq m) es (slot_of (Some w) held)) ≡ set_value (mac_eq m) (entries_of es) w
  entries-set m w held [] h = refl
  entries-set m w held (e ∷ es) h = by (mac_eq m e.0) refl e.1.value refl h (entries-set m w held es)
    where
      by : (t : Bool) → mac_eq m e.0 ≡ t → (r : Option V) → e.1.value ≡ r → is_some (value_in (cond t (Some e.1) (lookup (mac_eq m) es))) ≡ true
          → (is_some (value_in (lookup (mac_eq m) es)) ≡ true → entries_of (set_value (mac_eq m) es (slot_of (Some w) held)) ≡ set_value (mac_eq m) (entries_of es) w)
          → entries_of (cond t ((e.0, slot_of (Some w) held) ∷ es) (e ∷ set_value (mac_eq m) es (slot_of (Some w) held))) ≡ set_value (mac_eq m) (entry_at e.0 r ++ entries_of es) w
      by true t (Some x) v some ih = sym (ap (λ b. cond b ((e.0, w) ∷ entries_of es) ((e.0, x) ∷ set_value (mac_eq m) (entries_of es) w)) t)
      by true t None v some ih = let bad : false ≡ true = sym (ap is_some v) ∙ some in cc
      by false t (Some x) v some ih =
          ap (λ r. entry_at e.0 r ++ entries_of (set_value (mac_eq m) es (slot_of (Some w) held))) v
          ∙ ap (λ l. (e.0, x) ∷ l) (ih some)
          ∙ sym (ap (λ b. cond b ((e.0, w) ∷ entries_of es) ((e.0, x) ∷ set_value (mac_eq m) (entries_of es) w)) t)
      by false t None v some ih = ap (λ r. entry_at e.0 r ++ entries_of (set_value (mac_eq m) es (slot_of (Some w) held))) v ∙ ih some

  -- writing at a place the value that it has leaves the entries
  pub entries-set_same : (m : Mac) (r : Option V) (held : Bool) (es : List (Mac × Slot V)) → value_in (lookup (mac_eq m) es) ≡ r
      → entries_of (set_value (mac_eq m) es (slot_of r held)) ≡ entries_of es
  entries-set_same m r held [] h = refl
  entries-set_same m r held (e ∷ es) h = by (mac_eq m e.0) h (entries-set_same m r held es)
    where
      by : (t : Bool) → value_in (cond t (Some e.1) (lookup (mac_eq m) es)) ≡ r
          → (value_in (lookup (mac_eq m) es) ≡ r → entries_of (set_value (mac_eq m) es (slot_of r held)) ≡ entries_of es)
          → entries_of (cond t ((e.0, slot_of r held) ∷ es) (e ∷ set_value (mac_eq m) es (slot_of r held))) ≡ entry_at e.0 e.1.value ++ entries_of es
      by true v ih = ap (λ o. entry_at e.0 o ++ entries_of es) (sym v)
      by false v ih = ap (λ l. entry_at e.0 e.1.value ++ l) (ih v)

  -- what a write does to the held places: their number, the others, its own
  pub length-held-set : (m : Mac) (s w : Slot V) (es : List (Mac × Slot V)) → lookup (mac_eq m) es ≡ Some s
      → length (held_of (set_value (mac_eq m) es w)) + one_if s.held ≡ length (held_of es) + one_if w.held
  length-held-set m s w [] h = cc
  length-held-set m s w (e ∷ es) h = by (mac_eq m e.0) h (length-held-set m s w es)
    where
      by : (t : Bool) → cond t (Some e.1) (lookup (mac_eq m) es) ≡ Some s
          → (lookup (mac_eq m) es ≡ Some s → length (held_of (set_value (mac_eq m) es w)) + one_if s.held ≡ length (held_of es) + one_if w.held)
          → length (held_of (cond t ((e.0, w) ∷ es) (e ∷ set_value (mac_eq m) es w))) + one_if s.held ≡ length (held_at e.0 e.1.held ++ held_of es) + one_if w.held
      by true v ih =
          let a : e.1 ≡ s = cc in
          let b : one_if e.1.held ≡ one_if s.held = ap (λ k. one_if k.held) a in
          omega (arith, b, length-held_at e.0 w.held (held_of es), length-held_at e.0 e.1.held (held_of es))
      by false v ih =
          omega (arith, ih v, length-held_at e.0 e.1.held (held_of (set_value (mac_eq m) es w)), length-held_at e.0 e.1.held (held_of es))

  pub held-set_others : (m : Mac) (w : Slot V) (es : List (Mac × Slot V)) → KeepsHeld (held_of es) (held_of (set_value (mac_eq m) es w)) m
  held-set_others m w [] q other = refl
  held-set_others m w (e ∷ es) q other = by (mac_eq m e.0) refl (held-set_others m w es q other)
    where
      by : (t : Bool) → mac_eq m e.0 ≡ t → list_any (mac_eq q) (held_of (set_value (mac_eq m) es w)) ≡ list_any (mac_eq q) (held_of es)
          → list_any (mac_eq q) (held_of (cond t ((e.0, w) ∷ es) (e ∷ set_value (mac_eq m) es w))) ≡ list_any (mac_eq q) (held_at e.0 e.1.held ++ held_of es)
      by true t ih =
          let o : mac_eq q e.0 ≡ false = subst (λ k. mac_eq q k ≡ false) (mac_same m e.0 t) other in
          any_held q e.0 w.held [] (held_of es) o ∙ sym (any_held q e.0 e.1.held [] (held_of es) o)
      by false t ih =
          list_any-append (mac_eq q) (held_at e.0 e.1.held) (held_of (set_value (mac_eq m) es w))
          ∙ ap (λ b. list_any (mac_eq q) (held_at e.0 e.1.held) || b) ih
          ∙ sym (list_any-append (mac_eq q) (held_at e.0 e.1.held) (held_of es))

  pub held-set_own : (m : Mac) (w : Slot V) (es : List (Mac × Slot V)) → is_some (lookup (mac_eq m) es) ≡ true → w.held ≡ true
      → list_any (mac_eq m) (held_of (set_value (mac_eq m) es w)) ≡ true
  held-set_own m w [] h held = cc
  held-set_own m w (e ∷ es) h held = by (mac_eq m e.0) refl h (λ s. held-set_own m w es s held)
    where
      by : (t : Bool) → mac_eq m e.0 ≡ t → is_some (cond t (Some e.1) (lookup (mac_eq m) es)) ≡ true
          → (is_some (lookup (mac_eq m) es) ≡ true → list_any (mac_eq m) (held_of (set_value (mac_eq m) es w)) ≡ true)
          → list_any (mac_eq m) (held_of (cond t ((e.0, w) ∷ es) (e ∷ set_value (mac_eq m) es w))) ≡ true
      by true t s ih = ap (λ b. list_any (mac_eq m) (held_at e.0 b ++ held_of es)) held ∙ ap (λ b. b || list_any (mac_eq m) (held_of es)) t
      by false t s ih = any_behind m (held_at e.0 e.1.held) (held_of (set_value (mac_eq m) es w)) (ih s)

  -- a write that lets go of the place
  pub held-set_free : (m : Mac) (w : Slot V) (es : List (Mac × Slot V)) → IsDistinct mac_eq (keys_of es) → w.held ≡ false
      → is_some (lookup (mac_eq m) es) ≡ true → list_any (mac_eq m) (held_of (set_value (mac_eq m) es w)) ≡ false
  unfolding IsDistinct
  held-set_free m w [] unique free there = cc
  held-set_free m w (e ∷ es) unique free there = by (mac_eq m e.0) refl there (held-set_free m w es unique.1 free)
    where
      by : (t : Bool) → mac_eq m e.0 ≡ t → is_some (cond t (Some e.1) (lookup (mac_eq m) es)) ≡ true
          → (is_some (lookup (mac_eq m) es) ≡ true → list_any (mac_eq m) (held_of (set_value (mac_eq m) es w)) ≡ false)
          → list_any (mac_eq m) (held_of (cond t ((e.0, w) ∷ es) (e ∷ set_value (mac_eq m) es w))) ≡ false
      by true t s ih = ap (λ b. list_any (mac_eq m) (held_at e.0 b ++ held_of es)) free ∙ held_absent m es (subst (λ k. lookup (mac_eq k) es ≡ None) (sym (mac_same m e.0 t)) (absent_after e.0 es unique.0))
      by false t s ih = any_held m e.0 e.1.held [] (held_of (set_value (mac_eq m) es w)) t ∙ ih s

  -- a write at an address leaves the others that are held, in their order
  pub held-set_rest : (m : Mac) (w : Slot V) (es : List (Mac × Slot V)) → held_but (held_of (set_value (mac_eq m) es w)) m ≡ held_but (held_of es) m
  held-set_rest m w [] = refl
  held-set_rest m w (e ∷ es) = by (mac_eq m e.0) refl (held-set_rest m w es)
    where
      by : (t : Bool) → mac_eq m e.0 ≡ t → held_but (held_of (set_value (mac_eq m) es w)) m ≡ held_but (held_of es) m
          → held_but (held_of (cond t ((e.0, w) ∷ es) (e ∷ set_value (mac_eq m) es w))) m ≡ held_but (held_at e.0 e.1.held ++ held_of es) m
      by true t ih = own_left_out m e.0 w.held (held_of es) t ∙ sym (own_left_out m e.0 e.1.held (held_of es) t)
      by false t ih =
          filter-append (λ k. not (mac_eq m k)) (held_at e.0 e.1.held) (held_of (set_value (mac_eq m) es w))
          ∙ ap (λ l. held_but (held_at e.0 e.1.held) m ++ l) ih
          ∙ sym (filter-append (λ k. not (mac_eq m k)) (held_at e.0 e.1.held) (held_of es))

  -- a write that lets go of the place leaves just the others
  pub given_up : (m : Mac) (w : Slot V) (es : List (Mac × Slot V)) → IsDistinct mac_eq (keys_of es) → w.held ≡ false
      → is_some (lookup (mac_eq m) es) ≡ true → held_of (set_value (mac_eq m) es w) ≡ held_but (held_of es) m
  given_up m w es unique free there = sym (none_left_out m (held_of (set_value (mac_eq m) es w)) (held-set_free m w es unique free there)) ∙ held-set_rest m w es

  -- one more of the places that are gone over: it is held, or not
  pub holds_next : (places rest : List (Mac × Slot V)) (key : Mac) (slot : Slot V) (old new : List Mac) → places ≡ (key, slot) ∷ rest → slot.held ≡ true
      → KeepsHeld old new key → list_any (mac_eq key) new ≡ true
      → (m : Mac) → (list_any (mac_eq m) new || list_any (mac_eq m) (held_of rest)) ≡ (list_any (mac_eq m) old || list_any (mac_eq m) (held_of places))
  holds_next places rest key slot old new is held others own m =
      ap (λ b. b || list_any (mac_eq m) (held_of rest)) (held_with old new key others own m)
      ∙ regroup (mac_eq m key) (list_any (mac_eq m) old) (list_any (mac_eq m) (held_of rest))
      ∙ sym (ap (λ l. list_any (mac_eq m) old || list_any (mac_eq m) (held_of l)) is ∙ ap (λ b. list_any (mac_eq m) old || list_any (mac_eq m) (held_at key b ++ held_of rest)) held)

  pub passes_next : (places rest : List (Mac × Slot V)) (key : Mac) (slot : Slot V) → places ≡ (key, slot) ∷ rest → slot.held ≡ false → held_of rest ≡ held_of places
  passes_next places rest key slot is held = sym (ap held_of is ∙ ap (λ b. held_at key b ++ held_of rest) held)

  -- where no two addresses are equal, an address has a held place where its own place is held, and none once that is not
  pub held_of_own : (m : Mac) (s : Slot V) (es : List (Mac × Slot V)) → IsDistinct mac_eq (keys_of es) → lookup (mac_eq m) es ≡ Some s → list_any (mac_eq m) (held_of es) ≡ s.held
  unfolding IsDistinct
  held_of_own m s [] unique there = cc
  held_of_own m s (e ∷ es) unique there = by (mac_eq m e.0) refl there (held_of_own m s es unique.1)
    where
      none_behind : mac_eq m e.0 ≡ true → list_any (mac_eq m) (held_of es) ≡ false
      none_behind t = held_absent m es (subst (λ k. lookup (mac_eq k) es ≡ None) (sym (mac_same m e.0 t)) (absent_after e.0 es unique.0))

      first : (b : Bool) → mac_eq m e.0 ≡ true → list_any (mac_eq m) (held_at e.0 b ++ held_of es) ≡ b
      first true t = ap (λ c. c || list_any (mac_eq m) (held_of es)) t
      first false t = none_behind t

      by : (t : Bool) → mac_eq m e.0 ≡ t → cond t (Some e.1) (lookup (mac_eq m) es) ≡ Some s → (lookup (mac_eq m) es ≡ Some s → list_any (mac_eq m) (held_of es) ≡ s.held)
          → list_any (mac_eq m) (held_at e.0 e.1.held ++ held_of es) ≡ s.held
      by true t h ih = let v : e.1 ≡ s = cc in first e.1.held t ∙ ap (λ x. x.held) v
      by false t h ih = any_held m e.0 e.1.held [] (held_of es) t ∙ ih h

  -- a new place goes last
  pub added_entries : (m : Mac) (s : Slot V) (es new : List (Mac × Slot V)) → new ≡ es ++ (m, s) ∷ [] → entries_of new ≡ entries_of es ++ entry_at m s.value
  added_entries m s es new is = ap entries_of is ∙ entries-append es ((m, s) ∷ []) ∙ ap (λ l. entries_of es ++ l) (append-nil (entry_at m s.value))

  pub added_held : (m : Mac) (s : Slot V) (es new : List (Mac × Slot V)) → new ≡ es ++ (m, s) ∷ [] → held_of new ≡ held_of es ++ held_at m s.held
  added_held m s es new is = ap held_of is ∙ held-append es ((m, s) ∷ []) ∙ ap (λ l. held_of es ++ l) (append-nil (held_at m s.held))

  -- `insert` at an address that has a place writes it
  pub insert-there : (m : Mac) (s w : Slot V) (es : List (Mac × Slot V)) → lookup (mac_eq m) es ≡ Some s → insert_entry mac_eq es m w ≡ set_value (mac_eq m) es w
  insert-there m s w [] h = cc
  insert-there m s w (e ∷ es) h = by (mac_eq m e.0) h (insert-there m s w es)
    where
      by : (t : Bool) → cond t (Some e.1) (lookup (mac_eq m) es) ≡ Some s → (lookup (mac_eq m) es ≡ Some s → insert_entry mac_eq es m w ≡ set_value (mac_eq m) es w)
          → cond t ((e.0, w) ∷ es) (e ∷ insert_entry mac_eq es m w) ≡ cond t ((e.0, w) ∷ es) (e ∷ set_value (mac_eq m) es w)
      by true h ih = refl
      by false h ih = ap (λ l. e ∷ l) (ih h)

  -- an insertion at an address that has none adds it last
  pub insert-absent : (m : Mac) (w : Slot V) (es : List (Mac × Slot V)) → lookup (mac_eq m) es ≡ None → insert_entry mac_eq es m w ≡ es ++ (m, w) ∷ []
  insert-absent m w [] h = refl
  insert-absent m w (e ∷ es) h =
      let d = head_differs (mac_eq m e.0) e.1 (lookup (mac_eq m) es) h in
      ap (λ b. cond b ((e.0, w) ∷ es) (e ∷ insert_entry mac_eq es m w)) d.0 ∙ ap (λ l. e ∷ l) (insert-absent m w es d.1)

  held_newly : (m : Mac) (s : Slot V) (es new : List (Mac × Slot V)) → IsDistinct mac_eq (keys_of es) → lookup (mac_eq m) es ≡ Some s
      → new ≡ set_value (mac_eq m) es (slot_of s.value true) → HoldsPlace m (not s.held) es new
  held_newly m s es new unique there set =
      let w = slot_of s.value true in
      record {
        entries = ap entries_of set ∙ entries-set_same m s.value true es (ap value_in there);
        held = ap (λ l. list_any (mac_eq m) (held_of l)) set ∙ held-set_own m w es (ap is_some there) refl;
        len = ap (λ l. length (held_of l)) set ∙ one_more s.held _ _ (length-held-set m s w es there);
        newly_is = sym (ap not (held_of_own m s es unique there));
        others = λ q other. ap (λ l. list_any (mac_eq q) (held_of l)) set ∙ held-set_others m w es q other;
        rest = ap (λ l. held_but (held_of l) m) set ∙ held-set_rest m w es;
        again = λ e.
            let was_held : s.held ≡ true = not-false s.held e in
            let same : s ≡ w = λ j. record { value = s.value; held = was_held j } in
            ap held_of (set ∙ set_value_same (mac_eq m) es w (there ∙ ap Some same));
      }

  pub held_set : (m : Mac) (s w : Slot V) (es new : List (Mac × Slot V)) (newly : Bool) → IsDistinct mac_eq (keys_of es) → lookup (mac_eq m) es ≡ Some s
      → w ≡ slot_of s.value true → newly ≡ not s.held → new ≡ set_value (mac_eq m) es w → HoldsPlace m newly es new
  held_set m s w es new newly unique there w_is newly_is set =
      subst (λ b. HoldsPlace m b es new) (sym newly_is) (held_newly m s es new unique there (set ∙ ap (set_value (mac_eq m) es) w_is))

  pub held_there : (m : Mac) (s w : Slot V) (es new : List (Mac × Slot V)) (newly : Bool) → IsDistinct mac_eq (keys_of es) → lookup (mac_eq m) es ≡ Some s
      → w ≡ slot_of s.value true → newly ≡ not s.held → new ≡ insert_entry mac_eq es m w → HoldsPlace m newly es new
  held_there m s w es new newly unique there w_is newly_is is = held_set m s w es new newly unique there w_is newly_is (is ∙ insert-there m s w es there)

  pub held_last : (m : Mac) (es new : List (Mac × Slot V)) → lookup (mac_eq m) es ≡ None → new ≡ insert_entry mac_eq es m (slot_of None true) → HoldsPlace m true es new
  held_last m es new absent is_new =
      let is : new ≡ es ++ (m, slot_of None true) ∷ [] = is_new ∙ insert-absent m (slot_of None true) es absent in
      let held : held_of new ≡ held_of es ++ m ∷ [] = added_held m (slot_of None true) es new is in
      record {
        entries = added_entries m (slot_of None true) es new is ∙ append-nil (entries_of es);
        held = ap (list_any (mac_eq m)) held ∙ any_behind m (held_of es) (m ∷ []) (ap (λ b. b || false) (mac_refl m));
        len = ap length held ∙ length-append (held_of es) (m ∷ []);
        newly_is = sym (ap not (held_absent m es absent));
        others = λ q other. ap (list_any (mac_eq q)) held ∙ any_held q m true (held_of es) [] other ∙ ap (list_any (mac_eq q)) (append-nil (held_of es));
        rest = ap (λ l. held_but l m) held
            ∙ filter-append (λ k. not (mac_eq m k)) (held_of es) (m ∷ [])
            ∙ ap (λ b. held_but (held_of es) m ++ cond (not b) (m ∷ []) []) (mac_refl m)
            ∙ append-nil (held_but (held_of es) m);
        again = λ e. let bad : true ≡ false = e in cc;
      }

  -- the places round the one of an address
  pub record Split (m : Mac) (s : Slot V) (es : List (Mac × Slot V)) : Type 0 where
    pub front : List (Mac × Slot V)
    pub back : List (Mac × Slot V)
    pub is : es ≡ front ++ (m, s) ∷ back
    pub before : lookup (mac_eq m) front ≡ None

  pub split : (m : Mac) (s : Slot V) (es : List (Mac × Slot V)) → lookup (mac_eq m) es ≡ Some s → Split m s es
  split m s [] h = cc
  split m s (e ∷ es) h = by (mac_eq m e.0) refl h (split m s es)
    where
      by : (b : Bool) → mac_eq m e.0 ≡ b → cond b (Some e.1) (lookup (mac_eq m) es) ≡ Some s → (lookup (mac_eq m) es ≡ Some s → Split m s es) → Split m s (e ∷ es)
      by true t h ih =
          let k = mac_same m e.0 t in
          let v : e.1 ≡ s = cc in
          record { front = []; back = es; is = λ j. (sym k j, v j) ∷ es; before = refl }
      by false t h ih =
          let r = ih h in
          record { front = e ∷ r.front; back = r.back; is = ap (λ l. e ∷ l) r.is; before = ap (λ b. cond b (Some e.1) (lookup (mac_eq m) r.front)) t ∙ r.before }

  -- the index of the place of an address
  pub place : (front back : List (Mac × Slot V)) (m : Mac) (s : Slot V) → lookup (mac_eq m) front ≡ None → position_or_len (mac_eq m) (keys_of (front ++ (m, s) ∷ back)) ≡ length front
  place [] back m s h = ap (λ b. cond (not b) (1 + position_or_len (mac_eq m) (keys_of back)) 0) (mac_refl m)
  place (e ∷ front) back m s h =
      let d = head_differs (mac_eq m e.0) e.1 (lookup (mac_eq m) front) h in
      ap (λ b. cond (not b) (1 + position_or_len (mac_eq m) (keys_of (front ++ (m, s) ∷ back))) 0) d.0 ∙ ap (λ n. 1 + n) (place front back m s d.1) ∙ omega arith

  -- behind the place of an address no other is its
  pub absent_after_split : (m : Mac) (s : Slot V) (front back : List (Mac × Slot V)) → IsDistinct mac_eq (keys_of (front ++ (m, s) ∷ back)) → lookup (mac_eq m) back ≡ None
  unfolding IsDistinct
  absent_after_split m s [] back unique = absent_after m back unique.0
  absent_after_split m s (e ∷ front) back unique = absent_after_split m s front back unique.1

  -- what a change in the place of an address leaves
  module _ {F R : Type 0} (g : Once F (MutBor V × Unit {0}) (R × (MutBor V × Unit {0}))) (f : F) (m : Mac) (s left : Slot V) (es new : List (Mac × Slot V))
      (unique : IsDistinct mac_eq (keys_of es)) (there : lookup (mac_eq m) es ≡ Some s) (is_new : new ≡ set_value (mac_eq m) es left) where
    found : lookup (mac_eq m) (entries_of es) ≡ s.value
    found = found_value m s es unique there

    -- the change had an answer
    pub place_changed : (was is : V) (answer : R) (was_held : Bool) → s.value ≡ Some was → left ≡ slot_of (Some is) false → FnOnceReturnsAtMut g f was answer is → was_held ≡ s.held
        → ChangesPlace g f m answer was_held es new
    place_changed was is answer was_held is_was is_left called is_held =
        let written : entries_of new ≡ set_value (mac_eq m) (entries_of es) is =
        ap entries_of (is_new ∙ ap (set_value (mac_eq m) es) is_left) ∙ entries-set m is false es (ap (λ o. is_some (value_in o)) there ∙ ap is_some is_was) in
        record {
          changed = record { was = was; is = is; found = found ∙ is_was; called = called; written = written };
          len = ap length written ∙ length-set_value (mac_eq m) (entries_of es) is;
          held = omega (arith, ap (λ l. length (held_of l)) is_new, length-held-set m s left es there, ap (λ u. one_if u.held) is_left, ap one_if is_held);
          others = λ q other. ap (λ l. list_any (mac_eq q) (held_of l)) is_new ∙ held-set_others m left es q other;
          used = ap (λ l. list_any (mac_eq m) (held_of l)) is_new ∙ held-set_free m left es unique (ap (λ u. u.held) is_left) (ap is_some there);
        }

    -- it had one or none
    module _ (r : Option (R × Bool)) (none : IfNone r ((s.value ≡ None) × (left ≡ s)))
        (some : IfSome r (λ a. (was : V) × (is : V) × (s.value ≡ Some was) × (left ≡ slot_of (Some is) false) × FnOnceReturnsAtMut g f was a.0 is × (a.1 ≡ s.held))) where
      pub change_found : is_some r ≡ is_some (lookup (mac_eq m) (entries_of es))
      change_found = by r none some
        where
          by : (r : Option (R × Bool)) → IfNone r ((s.value ≡ None) × (left ≡ s))
              → IfSome r (λ a. (was : V) × (is : V) × (s.value ≡ Some was) × (left ≡ slot_of (Some is) false) × FnOnceReturnsAtMut g f was a.0 is × (a.1 ≡ s.held))
              → is_some r ≡ is_some (lookup (mac_eq m) (entries_of es))
          by None n s = sym (ap is_some (found ∙ n.0))
          by (Some a) n s = sym (ap is_some (found ∙ s.2))

      pub change_none : IfNone r (new ≡ es)
      change_none = by r none
        where
          by : (r : Option (R × Bool)) → IfNone r ((s.value ≡ None) × (left ≡ s)) → IfNone r (new ≡ es)
          by None n = is_new ∙ ap (set_value (mac_eq m) es) n.1 ∙ set_value_same (mac_eq m) es s there
          by (Some a) n = tt

      pub change_some : IfSome r (λ a. ChangesPlace g f m a.0 a.1 es new)
      change_some = by r some
        where
          by : (r : Option (R × Bool))
              → IfSome r (λ a. (was : V) × (is : V) × (s.value ≡ Some was) × (left ≡ slot_of (Some is) false) × FnOnceReturnsAtMut g f was a.0 is × (a.1 ≡ s.held))
              → IfSome r (λ a. ChangesPlace g f m a.0 a.1 es new)
          by None s = tt
          by (Some a) s = place_changed s.0 s.1 a.0 a.1 s.2 s.3 s.4 s.5

  -- `pop_held`: where the last place is held and has no value it goes
  pub record Pops (es new : List (Mac × Slot V)) (went : Bool) : Type 0 where
    pub entries : entries_of new ≡ entries_of es
    pub len : length (held_of new) + one_if went ≡ length (held_of es)

  pub held_empty : (s : Slot V) → s.held ≡ true → is_some s.value ≡ false → s ≡ slot_of None true
  held_empty s held none = λ j. record { value = none_from s.value (sym none) j; held = held j }

  pub pops : (o : Option (Mac × Slot V)) (es new : List (Mac × Slot V)) → es ≡ new ++ option_to_list o → IsLast (slot_of None true) es → Pops es new (is_some o)
  pops None es new is last =
      let t : new ≡ es = sym (append-nil new) ∙ sym is in
      record { entries = ap entries_of t; len = ap (λ l. length (held_of l) + 0) t ∙ omega arith }
  pops (Some p) es new is last =
      let n : length es - 1 ≡ length new = ap (λ l. length l - 1) is ∙ omega (arith, length-append new (p ∷ [])) in
      let at : slice_get es (length es - 1) ≡ Some p = (λ j. slice_get (is j) (n j)) ∙ item_at new [] p in
      let same : Some p ≡ Some (last.0, slot_of None true) = sym at ∙ last.1 in
      let p_is : p ≡ (last.0, slot_of None true) = cc in
      let e : es ≡ new ++ (last.0, slot_of None true) ∷ [] = is ∙ ap (λ q. new ++ q ∷ []) p_is in
      record {
        entries = sym (added_entries last.0 (slot_of None true) new es e ∙ append-nil (entries_of new));
        len = sym (ap length (added_held last.0 (slot_of None true) new es e) ∙ length-append (held_of new) (last.0 ∷ []));
      }

  -- `release`
  release_by : (m : Mac) (r : Option V) (rest : List (Mac × Slot V)) (ys : List (Mac × V)) → entries_of rest ≡ ys → entries_of (cond (is_some r) ((m, slot_of r false) ∷ rest) rest) ≡ entry_at m r ++ ys
  release_by m None rest ys h = h
  release_by m (Some x) rest ys h = ap (λ l. (m, x) ∷ l) h

  release_held_by : (m : Mac) (r : Option V) (rest : List (Mac × Slot V)) → held_of rest ≡ [] → held_of (cond (is_some r) ((m, slot_of r false) ∷ rest) rest) ≡ []
  release_held_by m None rest h = h
  release_held_by m (Some x) rest h = h

  module _ {F : Type 0} (T : F → Mac → Slot V → Bool → Slot V → F → Type 0) (f : F)
      (says : (k : Mac) (v : Slot V) (b : Bool) (w : Slot V) (g : F) → T f k v b w g → (w ≡ slot_of v.value false) × (b ≡ is_some v.value) × (g ≡ f)) where
    pub release_entries : (es kept : List (Mac × Slot V)) → RetainsPairs T f es kept → entries_of kept ≡ entries_of es
    release_entries [] kept h = ap entries_of h
    release_entries (e ∷ es) kept h =
        let s = says e.0 e.1 h.0 h.1 h.2 h.4 in
        ap entries_of h.6 ∙ (λ j. entries_of (cond (s.1 j) ((e.0, s.0 j) ∷ h.3) h.3))
        ∙ release_by e.0 e.1.value h.3 (entries_of es) (release_entries es h.3 (subst (λ g. RetainsPairs T g es h.3) s.2 h.5))

    pub release_held : (es kept : List (Mac × Slot V)) → RetainsPairs T f es kept → held_of kept ≡ []
    release_held [] kept h = ap held_of h
    release_held (e ∷ es) kept h =
        let s = says e.0 e.1 h.0 h.1 h.2 h.4 in
        ap held_of h.6 ∙ (λ j. held_of (cond (s.1 j) ((e.0, s.0 j) ∷ h.3) h.3))
        ∙ release_held_by e.0 e.1.value h.3 (release_held es h.3 (subst (λ g. RetainsPairs T g es h.3) s.2 h.5))

  -- places without a value that are not held show nothing
  swept_entries_by : (held : Bool) (m : Mac) (r : Option V) (rest : List (Mac × Slot V)) (ys : List (Mac × V)) → entries_of rest ≡ ys
      → entries_of (cond (held || is_some r) ((m, slot_of r held) ∷ rest) rest) ≡ entry_at m r ++ ys
  swept_entries_by true m r rest ys h = ap (λ l. entry_at m r ++ l) h
  swept_entries_by false m None rest ys h = h
  swept_entries_by false m (Some x) rest ys h = ap (λ l. (m, x) ∷ l) h

  swept_held_by : (held : Bool) (m : Mac) (r : Option V) (rest : List (Mac × Slot V)) (ms : List Mac) → held_of rest ≡ ms
      → held_of (cond (held || is_some r) ((m, slot_of r held) ∷ rest) rest) ≡ held_at m held ++ ms
  swept_held_by true m r rest ms h = ap (λ l. m ∷ l) h
  swept_held_by false m None rest ms h = h
  swept_held_by false m (Some x) rest ms h = h

  -- each place that is left shows a value or is held
  swept_length_by : (held : Bool) (m : Mac) (r : Option V) (rest : List (Mac × Slot V)) → length rest ≤ length (entries_of rest) + length (held_of rest)
      → length (cond (held || is_some r) ((m, slot_of r held) ∷ rest) rest)
      ≤ length (entries_of (cond (held || is_some r) ((m, slot_of r held) ∷ rest) rest)) + length (held_of (cond (held || is_some r) ((m, slot_of r held) ∷ rest) rest))
  swept_length_by true m None rest h = omega arith
  swept_length_by true m (Some x) rest h = omega arith
  swept_length_by false m None rest h = h
  swept_length_by false m (Some x) rest h = omega arith

  module _ {F : Type 0} (T : F → Mac → Slot V → Bool → Slot V → F → Type 0) (f : F)
      (says : (k : Mac) (v : Slot V) (b : Bool) (w : Slot V) (g : F) → T f k v b w g → (w ≡ v) × (b ≡ (v.held || is_some v.value)) × (g ≡ f)) where
    pub swept_entries : (es kept : List (Mac × Slot V)) → RetainsPairs T f es kept → entries_of kept ≡ entries_of es
    swept_entries [] kept h = ap entries_of h
    swept_entries (e ∷ es) kept h =
        let s = says e.0 e.1 h.0 h.1 h.2 h.4 in
        ap entries_of h.6
        ∙ (λ j. entries_of (cond (s.1 j) ((e.0, s.0 j) ∷ h.3) h.3))
        ∙ swept_entries_by e.1.held e.0 e.1.value h.3 (entries_of es) (swept_entries es h.3 (subst (λ g. RetainsPairs T g es h.3) s.2 h.5))

    pub swept_held : (es kept : List (Mac × Slot V)) → RetainsPairs T f es kept → held_of kept ≡ held_of es
    swept_held [] kept h = ap held_of h
    swept_held (e ∷ es) kept h =
        let s = says e.0 e.1 h.0 h.1 h.2 h.4 in
        ap held_of h.6
        ∙ (λ j. held_of (cond (s.1 j) ((e.0, s.0 j) ∷ h.3) h.3))
        ∙ swept_held_by e.1.held e.0 e.1.value h.3 (held_of es) (swept_held es h.3 (subst (λ g. RetainsPairs T g es h.3) s.2 h.5))

    pub swept_length : (es kept : List (Mac × Slot V)) → RetainsPairs T f es kept → length kept ≤ length (entries_of kept) + length (held_of kept)
    swept_length [] kept h = subst (λ l. length l ≤ length (entries_of l) + length (held_of l)) (sym h) (omega arith)
    swept_length (e ∷ es) kept h =
        let s = says e.0 e.1 h.0 h.1 h.2 h.4 in
        let is = h.6 ∙ (λ j. cond (s.1 j) ((e.0, s.0 j) ∷ h.3) h.3) in
        subst (λ l. length l ≤ length (entries_of l) + length (held_of l)) (sym is)
        (swept_length_by e.1.held e.0 e.1.value h.3 (swept_length es h.3 (subst (λ g. RetainsPairs T g es h.3) s.2 h.5)))
