-- Bringing a place to where the values end, and filling it there.
use Rattle.std.proofs.Common.{◌≡◌, ℕ, zero, suc, ◌+◌, ◌-◌, ◌≤◌, ◌<◌, Bool, true, false, cond, ◌||◌, List, [], ◌∷◌, ◌++◌, length, take, drop, get_or, set, Option, None, Some, is_some, ◌⊎◌, inl, inr, min, refl, sym, ap, ◌∙◌, subst, append_assoc, append-nil, arith}
use Rattle.std.specs.List.{swap, list_any, IsDistinct, AllByRecursion, insert, remove, slice_get, position, position_or_len}
use Rattle.std.specs.Map.{lookup, keys_of, values_of}
use Rattle.std.specs.Option.{option_map_or}
use Rattle.std.proofs.Math.Seq.{set-append_seam, get_or-append_seam, drop-append_seam, take-append_seam}
use Rattle.std.proofs.lemmas.List.{length-append, drop_all}
use Rattle.std.proofs.lemmas.List.Folds.{list_any-append}
use Rattle.indexmap.specs.IndexMap.{insert_entry, move_index, set_value_at}
use Rattle.sr_frame.specs.declared.fields.Mac.{Mac}
use Rattle.sr_frame.specs.Addresses.{mac_eq}
use Rattle.sr_slots.specs.declared.places.Slot.{Slot}
use Rattle.sr_slots.specs.Places.{entry_at, held_at, entries_of, held_of, slot_of, entries_from}
use Rattle.sr_slots.specs.Effects.{AddsGap, GetsPlace, Settles, PutsLast}
use Rattle.sr_slots.specs.EntryLemmas.{one_if, head_differs}
use Rattle.sr_slots.proofs.PlaceLemmas.{entries-append, held-append, item_at, without_item, split, place, insert-absent, added_entries, added_held, any_held, length-held_at, held_absent, found_value, absent_after_split}
use Rattle.sr_slots.proofs.SiftLemmas.{value_there, write_there}
use Rattle.sr_frame.specs.AddressLemmas.{mac_refl, mac_symm}
use Rattle.std.proofs.lemmas.Bool.{cases_lt}
use Rattle.sr_slots.proofs.IndexLemmas.{position_is}
use Rattle.sr_slots.proofs.FromLemmas.{from_last, from_gap}

module _ {X : Type 0} where
  -- two items in each other's place
  swapped_by : (front mid back : List X) (b x d : X) (i j : ℕ) → i ≡ length (front ++ b ∷ mid) → j ≡ length front
      → set (set (front ++ b ∷ (mid ++ x ∷ back)) i (get_or (front ++ b ∷ (mid ++ x ∷ back)) j d)) j (get_or (front ++ b ∷ (mid ++ x ∷ back)) i d)
      ≡ front ++ x ∷ (mid ++ b ∷ back)
  swapped_by front mid back b x d i j i_is j_is =
      let l = front ++ b ∷ (mid ++ x ∷ back) in
      let l_is : l ≡ (front ++ b ∷ mid) ++ x ∷ back = sym (append_assoc front (b ∷ mid) (x ∷ back)) in
      let first : get_or l j d ≡ b = ap (λ k. get_or l k d) j_is ∙ get_or-append_seam front b (mid ++ x ∷ back) d in
      let second : get_or l i d ≡ x = (λ k. get_or (l_is k) (i_is k) d) ∙ get_or-append_seam (front ++ b ∷ mid) x back d in
      let one : set l i b ≡ front ++ b ∷ (mid ++ b ∷ back) =
      (λ k. set (l_is k) (i_is k) b) ∙ set-append_seam (front ++ b ∷ mid) x back b ∙ append_assoc front (b ∷ mid) (b ∷ back) in
      (λ k. set (set l i (first k)) j (second k))
      ∙ (λ k. set (one k) (j_is k) x)
      ∙ set-append_seam front b (mid ++ b ∷ back) x

  swapped : (front mid back : List X) (b x : X) (i j : ℕ) → i ≡ length (front ++ b ∷ mid) → j ≡ length front
      → swap (front ++ b ∷ (mid ++ x ∷ back)) i j ≡ front ++ x ∷ (mid ++ b ∷ back)
  swapped [] mid back b x i j i_is j_is = swapped_by [] mid back b x b i j i_is j_is
  swapped (f ∷ front) mid back b x i j i_is j_is = swapped_by (f ∷ front) mid back b x f i j i_is j_is

  exchanged_by : (front mid back : List X) (b x d : X) (j i : ℕ) → j ≡ length front → i ≡ length (front ++ b ∷ mid)
      → set (set (front ++ b ∷ (mid ++ x ∷ back)) j (get_or (front ++ b ∷ (mid ++ x ∷ back)) i d)) i (get_or (front ++ b ∷ (mid ++ x ∷ back)) j d)
      ≡ front ++ x ∷ (mid ++ b ∷ back)
  exchanged_by front mid back b x d j i j_is i_is =
      let l = front ++ b ∷ (mid ++ x ∷ back) in
      let l_is : l ≡ (front ++ b ∷ mid) ++ x ∷ back = sym (append_assoc front (b ∷ mid) (x ∷ back)) in
      let first : get_or l j d ≡ b = ap (λ k. get_or l k d) j_is ∙ get_or-append_seam front b (mid ++ x ∷ back) d in
      let second : get_or l i d ≡ x = (λ k. get_or (l_is k) (i_is k) d) ∙ get_or-append_seam (front ++ b ∷ mid) x back d in
      let one : set l j x ≡ (front ++ x ∷ mid) ++ x ∷ back =
      (λ k. set l (j_is k) x) ∙ set-append_seam front b (mid ++ x ∷ back) x ∙ sym (append_assoc front (x ∷ mid) (x ∷ back)) in
      let i_there : i ≡ length (front ++ x ∷ mid) = omega (arith, i_is, length-append front (b ∷ mid), length-append front (x ∷ mid)) in
      (λ k. set (set l j (second k)) i (first k))
      ∙ (λ k. set (one k) (i_there k) b)
      ∙ set-append_seam (front ++ x ∷ mid) x back b
      ∙ append_assoc front (x ∷ mid) (b ∷ back)

  exchanged : (front mid back : List X) (b x : X) (j i : ℕ) → j ≡ length front → i ≡ length (front ++ b ∷ mid)
      → swap (front ++ b ∷ (mid ++ x ∷ back)) j i ≡ front ++ x ∷ (mid ++ b ∷ back)
  exchanged [] mid back b x j i j_is i_is = exchanged_by [] mid back b x b j i j_is i_is
  exchanged (f ∷ front) mid back b x j i j_is i_is = exchanged_by (f ∷ front) mid back b x f j i j_is i_is

  -- an item moved towards the end, to behind these
  moved_on : (front mid back : List X) (x : X) (from to : ℕ) → from ≡ length front → to ≡ length (front ++ mid)
      → move_index (front ++ x ∷ (mid ++ back)) from to ≡ (front ++ mid) ++ x ∷ back
  moved_on front mid back x from to from_is to_is =
      let l = front ++ x ∷ (mid ++ back) in
      ap (λ k. move_index l k to) from_is
      ∙ ap (λ o. option_map_or (λ y. insert (remove l (length front)) to y) o l) (item_at front (mid ++ back) x)
      ∙ ap (λ r. insert r to x) (without_item front (mid ++ back) x ∙ sym (append_assoc front mid back))
      ∙ (λ k. take (to_is k) ((front ++ mid) ++ back) ++ x ∷ drop (to_is k) ((front ++ mid) ++ back))
      ∙ (λ k. take-append_seam (front ++ mid) back k ++ x ∷ drop-append_seam (front ++ mid) back k)

  nil_parts : (xs ys : List X) → xs ++ ys ≡ [] → (xs ≡ []) × (ys ≡ [])
  nil_parts [] ys h = (refl, h)
  nil_parts (x ∷ xs) ys h = cc

  -- a list cut where it is longer
  record Cut (n : ℕ) (xs : List X) : Type 0 where
    pub first : List X
    pub item : X
    pub rest : List X
    pub is : xs ≡ first ++ item ∷ rest
    pub at : length first ≡ n

  cut : (n : ℕ) (xs : List X) → n < length xs → Cut n xs
  cut n [] h = absurd (omega arith)
  cut zero (x ∷ xs) h = record { first = []; item = x; rest = xs; is = refl; at = refl }
  cut (suc n) (x ∷ xs) h =
      let r = cut n xs (omega arith) in
      record { first = x ∷ r.first; item = r.item; rest = r.rest; is = ap (λ l. x ∷ l) r.is; at = ap suc r.at }

  -- the items of a list before an index and behind it
  record Halves (n : ℕ) (xs : List X) : Type 0 where
    pub first : List X
    pub rest : List X
    pub is : xs ≡ first ++ rest
    pub at : length first ≡ n

  halves : (n : ℕ) (xs : List X) → n ≤ length xs → Halves n xs
  halves zero xs h = record { first = []; rest = xs; is = refl; at = refl }
  halves (suc n) [] h = absurd (omega arith)
  halves (suc n) (x ∷ xs) h =
      let r = halves n xs (omega arith) in
      record { first = x ∷ r.first; rest = r.rest; is = ap (λ l. x ∷ l) r.is; at = ap suc r.at }

  drop_there : (xs ys : List X) (n : ℕ) → n ≡ length xs → drop n (xs ++ ys) ≡ ys
  drop_there xs ys n is = ap (λ k. drop k (xs ++ ys)) is ∙ drop-append_seam xs ys

or_turned : (a b c d : Bool) → (a || (b || (c || d))) ≡ (a || (c || (b || d)))
or_turned true b c d = refl
or_turned false true true d = refl
or_turned false true false d = refl
or_turned false false true d = refl
or_turned false false false d = refl

module _ {V : Type 0} where
  empty_parts : (xs ys : List (Mac × Slot V)) → entries_of (xs ++ ys) ≡ [] → (entries_of xs ≡ []) × (entries_of ys ≡ [])
  empty_parts xs ys h = nil_parts (entries_of xs) (entries_of ys) (sym (entries-append xs ys) ∙ h)

  empty_item : (e : Mac × Slot V) (ys : List (Mac × Slot V)) → entries_of (e ∷ ys) ≡ [] → (entries_of (e ∷ []) ≡ []) × (entries_of ys ≡ [])
  empty_item e ys h = empty_parts (e ∷ []) ys h

  -- places behind which nothing shows
  shown_alone : (xs ys : List (Mac × Slot V)) → entries_of ys ≡ [] → entries_of xs ≡ entries_of (xs ++ ys)
  shown_alone xs ys h = sym (entries-append xs ys ∙ ap (λ l. entries_of xs ++ l) h ∙ append-nil (entries_of xs))

  -- the held places among these and those, in any order
  any_turned : (m : Mac) (a b mid back : List (Mac × Slot V))
      → list_any (mac_eq m) (held_of (a ++ (mid ++ (b ++ back)))) ≡ list_any (mac_eq m) (held_of ((a ++ (b ++ mid)) ++ back))
  any_turned m a b mid back =
      let any = λ (l : List (Mac × Slot V)). list_any (mac_eq m) (held_of l) in
      let parts : (xs ys : List (Mac × Slot V)) → any (xs ++ ys) ≡ (any xs || any ys) = λ xs ys. ap (list_any (mac_eq m)) (held-append xs ys) ∙ list_any-append (mac_eq m) (held_of xs) (held_of ys) in
      parts a (mid ++ (b ++ back))
      ∙ ap (λ t. any a || t) (parts mid (b ++ back) ∙ ap (λ t. any mid || t) (parts b back))
      ∙ or_turned (any a) (any mid) (any b) (any back)
      ∙ sym (ap any (append_assoc a (b ++ mid) back ∙ ap (λ l. a ++ l) (append_assoc b mid back))
      ∙ parts a (b ++ (mid ++ back))
      ∙ ap (λ t. any a || t) (parts b (mid ++ back) ∙ ap (λ t. any b || t) (parts mid back)))

  length_turned : (a b mid back : List (Mac × Slot V)) → length (held_of (a ++ (mid ++ (b ++ back)))) ≡ length (held_of ((a ++ (b ++ mid)) ++ back))
  length_turned a b mid back =
      let count = λ (l : List (Mac × Slot V)). length (held_of l) in
      let parts : (xs ys : List (Mac × Slot V)) → count (xs ++ ys) ≡ count xs + count ys = λ xs ys. ap length (held-append xs ys) ∙ length-append (held_of xs) (held_of ys) in
      omega (
        arith,
        parts a (mid ++ (b ++ back)),
        parts mid (b ++ back),
        parts b back,
        parts (a ++ (b ++ mid)) back,
        parts a (b ++ mid),
        parts b mid,
      )

  module _ (front : List (Mac × Slot V)) (place : Mac × Slot V) (back : List (Mac × Slot V)) (es : List (Mac × Slot V)) (is : es ≡ front ++ place ∷ back)
      (index end : ℕ) (at : length front ≡ index) (behind : entries_from end es ≡ []) where
    -- it stands before a value
    pub settles_on : index < end → end ≤ length es → (new : List (Mac × Slot V)) → new ≡ move_index es index (end - 1) → Settles front place back new (end - 1)
    settles_on before within new new_is =
        let r = halves (end - 1 - index) back (omega (arith, at, ap length is, length-append front (place ∷ back))) in
        let es_is : es ≡ front ++ place ∷ (r.first ++ r.rest) = is ∙ ap (λ l. front ++ place ∷ l) r.is in
        let ends : length (front ++ place ∷ r.first) ≡ end = omega (arith, length-append front (place ∷ r.first), r.at, at) in
        let split : es ≡ (front ++ place ∷ r.first) ++ r.rest = es_is ∙ sym (append_assoc front (place ∷ r.first) r.rest) in
        let rest_is : drop end es ≡ r.rest = ap (drop end) split ∙ drop_there (front ++ place ∷ r.first) r.rest end (sym ends) in
        let empty : entries_of r.rest ≡ [] = ap entries_of (sym rest_is) ∙ behind in
        let whole : (front ++ r.first) ++ r.rest ≡ front ++ back = append_assoc front r.first r.rest ∙ ap (λ l. front ++ l) (sym r.is) in
        record {
          before = front ++ r.first;
          behind = r.rest;
          is = new_is ∙ ap (λ l. move_index l index (end - 1)) es_is
              ∙ moved_on front r.first r.rest place index (end - 1) (sym at) (omega (arith, length-append front r.first, r.at, at));
          at_is = omega (arith, length-append front r.first, r.at, at);
          entries = shown_alone (front ++ r.first) r.rest empty ∙ ap entries_of whole;
          empty = empty;
          len = ap (λ l. length (held_of l)) whole;
          held = λ m. ap (λ l. list_any (mac_eq m) (held_of l)) whole;
        }

    -- it stands where the values end
    pub settles_there : index ≡ end → Settles front place back es end
    settles_there same =
        let rest_is : drop end es ≡ place ∷ back = ap (drop end) is ∙ drop_there front (place ∷ back) end (omega (arith, at, same)) in
        let empty : entries_of back ≡ [] = (empty_item place back (ap entries_of (sym rest_is) ∙ behind)).1 in
        record {
          before = front;
          behind = back;
          is = is;
          at_is = at ∙ same;
          entries = shown_alone front back empty;
          empty = empty;
          len = refl;
          held = λ m. refl;
        }

    -- it stands among the empty places
    pub settles_back : end < index → (new : List (Mac × Slot V)) → new ≡ swap es index end → Settles front place back new end
    settles_back after new new_is =
        let r = cut end front (omega (arith, at)) in
        let front_is : front ≡ r.first ++ r.item ∷ r.rest = r.is in
        let es_is : es ≡ r.first ++ r.item ∷ (r.rest ++ place ∷ back) = is ∙ ap (λ l. l ++ place ∷ back) front_is ∙ append_assoc r.first (r.item ∷ r.rest) (place ∷ back) in
        let rest_is : drop end es ≡ r.item ∷ (r.rest ++ place ∷ back) = ap (drop end) es_is ∙ drop_there r.first (r.item ∷ (r.rest ++ place ∷ back)) end (sym r.at) in
        let h0 = empty_item r.item (r.rest ++ place ∷ back) (ap entries_of (sym rest_is) ∙ behind) in
        let h1 = empty_parts r.rest (place ∷ back) h0.1 in
        let h2 = empty_item place back h1.1 in
        let hidden : entries_of (r.item ∷ back) ≡ [] = entries-append (r.item ∷ []) back ∙ (λ k. h0.0 k ++ h2.1 k) in
        let empty : entries_of (r.rest ++ r.item ∷ back) ≡ [] = entries-append r.rest (r.item ∷ back) ∙ (λ k. h1.0 k ++ hidden k) in
        let between : entries_of (r.item ∷ r.rest) ≡ [] = entries-append (r.item ∷ []) r.rest ∙ (λ k. h0.0 k ++ h1.0 k) in
        let tail : entries_of ((r.item ∷ r.rest) ++ back) ≡ [] = entries-append (r.item ∷ r.rest) back ∙ (λ k. between k ++ h2.1 k) in
        let whole : (r.first ++ r.item ∷ r.rest) ++ back ≡ front ++ back = ap (λ l. l ++ back) (sym front_is) in
        record {
          before = r.first;
          behind = r.rest ++ r.item ∷ back;
          is = new_is ∙ ap (λ l. swap l index end) es_is
              ∙ swapped r.first r.rest back r.item place index end (sym at ∙ ap length front_is) (sym r.at);
          at_is = r.at;
          entries = shown_alone r.first ((r.item ∷ r.rest) ++ back) tail ∙ ap entries_of (sym (append_assoc r.first (r.item ∷ r.rest) back) ∙ whole);
          empty = empty;
          len = length_turned r.first (r.item ∷ []) r.rest back ∙ ap (λ l. length (held_of l)) whole;
          held = λ m. any_turned m r.first (r.item ∷ []) r.rest back ∙ ap (λ l. list_any (mac_eq m) (held_of l)) whole;
        }

    -- it stands before a value, and an empty place stands behind the values
    pub settles_forth : index < end → end < length es → (new : List (Mac × Slot V)) → new ≡ swap es index end → Settles front place back new end
    settles_forth before within new new_is =
        let r = cut (end - 1 - index) back (omega (arith, at, before, within, ap length is, length-append front (place ∷ back))) in
        let es_is : es ≡ front ++ place ∷ (r.first ++ r.item ∷ r.rest) = is ∙ ap (λ l. front ++ place ∷ l) r.is in
        let ends : length (front ++ place ∷ r.first) ≡ end = omega (arith, before, length-append front (place ∷ r.first), r.at, at) in
        let rest_is : drop end es ≡ r.item ∷ r.rest =
        ap (drop end) (es_is ∙ sym (append_assoc front (place ∷ r.first) (r.item ∷ r.rest))) ∙ drop_there (front ++ place ∷ r.first) (r.item ∷ r.rest) end (sym ends) in
        let h = empty_item r.item r.rest (ap entries_of (sym rest_is) ∙ behind) in
        let one = r.item ∷ [] in
        let whole : front ++ (r.first ++ (one ++ r.rest)) ≡ front ++ back = ap (λ l. front ++ l) (sym r.is) in
        let turned : entries_of ((front ++ (one ++ r.first)) ++ r.rest) ≡ entries_of (front ++ (r.first ++ (one ++ r.rest))) =
        entries-append (front ++ (one ++ r.first)) r.rest
        ∙ (λ k. (entries-append front (one ++ r.first) k) ++ entries_of r.rest)
        ∙ (λ k. (entries_of front ++ entries-append one r.first k) ++ entries_of r.rest)
        ∙ (λ k. (entries_of front ++ (h.0 k ++ entries_of r.first)) ++ entries_of r.rest)
        ∙ append_assoc (entries_of front) (entries_of r.first) (entries_of r.rest)
        ∙ (λ k. entries_of front ++ (entries_of r.first ++ (sym h.0 k ++ entries_of r.rest)))
        ∙ (λ k. entries_of front ++ (entries_of r.first ++ sym (entries-append one r.rest) k))
        ∙ (λ k. entries_of front ++ sym (entries-append r.first (one ++ r.rest)) k)
        ∙ sym (entries-append front (r.first ++ (one ++ r.rest))) in
        record {
          before = front ++ (one ++ r.first);
          behind = r.rest;
          is = new_is ∙ ap (λ l. swap l index end) es_is ∙ exchanged front r.first r.rest place r.item index end (sym at) (sym ends)
              ∙ sym (append_assoc front (one ++ r.first) (place ∷ r.rest));
          at_is = omega (arith, before, length-append front (one ++ r.first), r.at, at);
          entries = shown_alone (front ++ (one ++ r.first)) r.rest h.1 ∙ turned ∙ ap entries_of whole;
          empty = h.1;
          len = sym (length_turned front one r.first r.rest) ∙ ap (λ l. length (held_of l)) whole;
          held = λ m. sym (any_turned m front one r.first r.rest) ∙ ap (λ l. list_any (mac_eq m) (held_of l)) whole;
        }

    -- it stands elsewhere than where the values end, and an empty place is there
    pub settles_elsewhere : (index ≡ end → false ≡ true) → end < length es → (new : List (Mac × Slot V)) → new ≡ swap es index end → Settles front place back new end
    settles_elsewhere apart within new new_is = by (cases_lt index end)
      where
        by : (index < end) ⊎ (end ≤ index) → Settles front place back new end
        by (inl before) = settles_forth before within new new_is
        by (inr behind) = by_lt (cases_lt end index)
          where
            by_lt : (end < index) ⊎ (index ≤ end) → Settles front place back new end
            by_lt (inl after) = settles_back after new new_is
            by_lt (inr before) = let bad : false ≡ true = apart (omega (arith, behind, before)) in cc

module _ {V : Type 0} where
  -- the place of an address is where it was when gaps come behind all
  pub place_kept : (m : Mac) (es mid new : List (Mac × Slot V)) (i : ℕ) → GetsPlace m es mid i → AddsGap mid new → GetsPlace m es new i
  place_kept m es mid new i p g = record {
    front = p.front;
    slot = p.slot;
    back = p.back ++ g.gap;
    is = g.is ∙ ap (λ l. l ++ g.gap) p.is ∙ append_assoc p.front ((m, p.slot) ∷ p.back) g.gap;
    at = p.at;
    entries = ap entries_of g.is ∙ sym (shown_alone mid g.gap g.entries) ∙ p.entries;
    held = ap held_of g.is ∙ held-append mid g.gap ∙ ap (λ l. held_of mid ++ l) g.held ∙ append-nil (held_of mid) ∙ p.held;
    from = λ n. ap (entries_from n) g.is ∙ from_gap n mid g.gap g.entries ∙ p.from n;
    longer = omega (arith, p.longer, ap length g.is, length-append mid g.gap);
  }

  -- no gap, or one
  pub no_gap : (es : List (Mac × Slot V)) → AddsGap es es
  no_gap es = record { gap = []; is = sym (append-nil es); entries = refl; held = refl }

  pub one_gap : (m : Mac) (es new : List (Mac × Slot V)) → lookup (mac_eq m) es ≡ None → new ≡ insert_entry mac_eq es m (slot_of None false) → AddsGap es new
  one_gap m es new absent is = record { gap = (m, slot_of None false) ∷ []; is = is ∙ insert-absent m (slot_of None false) es absent; entries = refl; held = refl }

  -- the place of an address that was found at an index
  place_at : (m : Mac) (s : Slot V) (es : List (Mac × Slot V)) (i : ℕ) → slice_get es i ≡ Some (m, s) → GetsPlace m es es i
  place_at m s [] i h = cc
  place_at m s (e ∷ es) zero h =
      let v : e ≡ (m, s) = cc in
      record { front = []; slot = s; back = es; is = ap (λ p. p ∷ es) v; at = refl; entries = refl; held = refl; from = λ n. refl; longer = omega arith }
  place_at m s (e ∷ es) (suc i) h =
      let r = place_at m s es i h in
      record {
        front = e ∷ r.front;
        slot = r.slot;
        back = r.back;
        is = ap (λ l. e ∷ l) r.is;
        at = ap suc r.at;
        entries = refl;
        held = refl;
        from = λ n. refl;
        longer = omega arith;
      }

  pub place_there : (m : Mac) (es : List (Mac × Slot V)) (i : ℕ) → (s : Slot V) × (slice_get es i ≡ Some (m, s)) → GetsPlace m es es i
  place_there m es i h = place_at m h.0 es i h.1

  -- or by a look-up
  pub place_found : (m : Mac) (es : List (Mac × Slot V)) (i : ℕ) → Some i ≡ position (mac_eq m) (keys_of es) → true ≡ is_some (lookup (mac_eq m) es) → GetsPlace m es es i
  place_found m es i is found = by (lookup (mac_eq m) es) refl (sym found)
    where
      by : (o : Option (Slot V)) → lookup (mac_eq m) es ≡ o → is_some o ≡ true → GetsPlace m es es i
      by None o f = cc
      by (Some s) o f =
          let r = split m s es o in
          record {
            front = r.front;
            slot = s;
            back = r.back;
            is = r.is;
            at = sym (ap (λ l. position_or_len (mac_eq m) (keys_of l)) r.is ∙ place r.front r.back m s r.before) ∙ position_is (mac_eq m) (keys_of es) i is;
            entries = refl;
            held = refl;
            from = λ n. refl;
            longer = omega arith;
          }

  -- one that is made
  pub place_made : (m : Mac) (es new : List (Mac × Slot V)) (i : ℕ) → lookup (mac_eq m) es ≡ None → new ≡ insert_entry mac_eq es m (slot_of None false) → length es ≡ i → GetsPlace m es new i
  place_made m es new i absent new_is at =
      let is : new ≡ es ++ (m, slot_of None false) ∷ [] = new_is ∙ insert-absent m (slot_of None false) es absent in
      record {
        front = es;
        slot = slot_of None false;
        back = [];
        is = is;
        at = at;
        entries = added_entries m (slot_of None false) es new is ∙ append-nil (entries_of es);
        held = added_held m (slot_of None false) es new is ∙ append-nil (held_of es);
        from = λ n. ap (entries_from n) is ∙ from_last n es (m, slot_of None false) refl;
        longer = omega (arith, ap length is, length-append es ((m, slot_of None false) ∷ []));
      }

  -- an index is no further than the end
  pub from_within : (n k : ℕ) (es : List (Mac × Slot V)) → entries_from n es ≡ [] → k ≡ min n (length es) → entries_from k es ≡ []
  from_within n k es h is = by (cases_lt n (length es))
    where
      by : (n < length es) ⊎ (length es ≤ n) → entries_from k es ≡ []
      by (inl before) = let same : k ≡ n = omega (arith, is, before) in ap (λ i. entries_from i es) same ∙ h
      by (inr behind) = ap entries_of (drop_all k es (omega (arith, is, behind)))

  lookup_split : (m : Mac) (s : Slot V) (front back : List (Mac × Slot V)) → lookup (mac_eq m) front ≡ None → lookup (mac_eq m) (front ++ (m, s) ∷ back) ≡ Some s
  lookup_split m s [] back h = ap (λ b. cond b (Some s) (lookup (mac_eq m) back)) (mac_refl m)
  lookup_split m s (e ∷ front) back h =
      let d = head_differs (mac_eq m e.0) e.1 (lookup (mac_eq m) front) h in
      ap (λ b. cond b (Some e.1) (lookup (mac_eq m) (front ++ (m, s) ∷ back))) d.0 ∙ lookup_split m s front back d.1

  -- where no two addresses are equal, those before the place of one are others
  absent_before : (m : Mac) (s : Slot V) (front back : List (Mac × Slot V)) → IsDistinct mac_eq (keys_of (front ++ (m, s) ∷ back)) → lookup (mac_eq m) front ≡ None
  unfolding IsDistinct
  absent_before m s [] back unique = refl
  absent_before m s (e ∷ front) back unique =
      let differs : mac_eq m e.0 ≡ false = mac_symm m e.0 ∙ apart e.0 front unique.0 in
      ap (λ b. cond b (Some e.1) (lookup (mac_eq m) front)) differs ∙ absent_before m s front back unique.1
    where
      apart : (k : Mac) (front : List (Mac × Slot V)) → AllByRecursion (λ y. mac_eq k y ≡ false) (keys_of (front ++ (m, s) ∷ back)) → mac_eq k m ≡ false
      apart k [] h = h.0
      apart k (x ∷ front) h = apart k front h.1

  module _ (m : Mac) (w : V) (old es brought new : List (Mac × Slot V)) (index at : ℕ) (p : GetsPlace m old es index) (s : Settles p.front (m, p.slot) p.back brought at)
      (unique : IsDistinct mac_eq (keys_of es)) (absent : lookup (mac_eq m) (entries_of old) ≡ None) (new_is : new ≡ set_value_at brought at (slot_of (Some w) false)) where
    filled : new ≡ s.before ++ (m, slot_of (Some w) false) ∷ s.behind
    filled =
        new_is
        ∙ (λ k. set_value_at (s.is k) (sym s.at_is k) (slot_of (Some w) false))
        ∙ write_there s.before s.behind (m, p.slot) (slot_of (Some w) false)

    split_unique : IsDistinct mac_eq (keys_of (p.front ++ (m, p.slot) ∷ p.back))
    split_unique = subst (λ l. IsDistinct mac_eq (keys_of l)) p.is unique

    none_before : lookup (mac_eq m) p.front ≡ None
    none_before = absent_before m p.slot p.front p.back split_unique

    none_behind : lookup (mac_eq m) p.back ≡ None
    none_behind = absent_after_split m p.slot p.front p.back split_unique

    was_empty : p.slot.value ≡ None
    was_empty =
        sym (found_value m p.slot es unique (ap (lookup (mac_eq m)) p.is ∙ lookup_split m p.slot p.front p.back none_before))
        ∙ ap (lookup (mac_eq m)) p.entries
        ∙ absent

    -- what the places but this one show is what all showed
    rest_entries : entries_of (p.front ++ p.back) ≡ entries_of old
    rest_entries =
        entries-append p.front p.back
        ∙ ap (λ o. entries_of p.front ++ (entry_at m o ++ entries_of p.back)) (sym was_empty)
        ∙ sym (entries-append p.front ((m, p.slot) ∷ p.back))
        ∙ ap entries_of (sym p.is)
        ∙ p.entries

    new_held : held_of new ≡ held_of (s.before ++ s.behind)
    new_held = ap held_of filled ∙ held-append s.before ((m, slot_of (Some w) false) ∷ s.behind) ∙ sym (held-append s.before s.behind)

    old_held : held_of old ≡ held_of p.front ++ (held_at m p.slot.held ++ held_of p.back)
    old_held = sym p.held ∙ ap held_of p.is ∙ held-append p.front ((m, p.slot) ∷ p.back)

    pub puts_last : (was : Bool) → was ≡ p.slot.held → PutsLast m w was old new
    puts_last was was_is = record {
      entries =
          ap entries_of filled
          ∙ entries-append s.before ((m, slot_of (Some w) false) ∷ s.behind)
          ∙ (λ k. (s.entries ∙ rest_entries) k ++ (m, w) ∷ s.empty k);
      held = omega (
        arith,
        ap length new_held,
        s.len,
        ap length (held-append p.front p.back),
        length-append (held_of p.front) (held_of p.back),
        ap length old_held,
        length-append (held_of p.front) (held_at m p.slot.held ++ held_of p.back),
        length-held_at m p.slot.held (held_of p.back),
        ap one_if was_is,
      );
      others = λ q other.
          ap (list_any (mac_eq q)) new_held
          ∙ s.held q
          ∙ ap (list_any (mac_eq q)) (held-append p.front p.back)
          ∙ sym (ap (list_any (mac_eq q)) old_held ∙ any_held q m p.slot.held (held_of p.front) (held_of p.back) other);
      used =
          ap (list_any (mac_eq m)) new_held
          ∙ s.held m
          ∙ ap (list_any (mac_eq m)) (held-append p.front p.back)
          ∙ list_any-append (mac_eq m) (held_of p.front) (held_of p.back)
          ∙ (λ k. held_absent m p.front none_before k || held_absent m p.back none_behind k);
    }

    pub put_ends : entries_from (at + 1) new ≡ []
    put_ends =
        ap (entries_from (at + 1)) (filled ∙ sym (append_assoc s.before ((m, slot_of (Some w) false) ∷ []) s.behind))
        ∙ ap entries_of (drop_there (s.before ++ (m, slot_of (Some w) false) ∷ []) s.behind (at + 1) (omega (arith, s.at_is, length-append s.before ((m, slot_of (Some w) false) ∷ []))))
        ∙ s.empty

  -- what the place has where it is now
  pub value_settled : (front : List (Mac × Slot V)) (place : Mac × Slot V) (back new : List (Mac × Slot V)) (at : ℕ) → Settles front place back new at → slice_get (values_of new) at ≡ Some place.1
  value_settled front place back new at s = (λ k. slice_get (values_of (s.is k)) (sym s.at_is k)) ∙ value_there s.before s.behind place
