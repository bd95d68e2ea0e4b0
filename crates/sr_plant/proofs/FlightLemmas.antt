-- Counts of copies, as copies come and go.
use Rattle.std.proofs.Common.{◌≡◌, ◌≢◌, ℕ, zero, suc, ◌+◌, ◌<◌, ◌≤◌, ◌==◌, Bool, true, false, List, [], ◌∷◌, ◌++◌, length, take, drop, get_or, slice_get, Option, None, Some, IsSome, not, refl, sym, subst, ap, ◌∙◌, inl, inr, arith, rules}
use Rattle.std.proofs.lemmas.Bool.{cases_Bool, cases_eq}
use Rattle.std.proofs.lemmas.Bool.Decides.{nat_tests}
use Rattle.std.proofs.lemmas.List.{length-map, map-append, append-nil, take-map, drop-map}
use Rattle.std.specs.List.{filter, remove}
use Rattle.slab.specs.Slab.{Slab, get, Updates}
use Rattle.sr_laws_plant.specs.Lists.{how_many}
use Rattle.sr_laws_plant.specs.ListLemmas.{count_append}
use Rattle.sr_plant.specs.declared.flight.parcels.Kept.{Kept}
use Rattle.sr_plant.specs.declared.flight.copies.Flying.{Flying}
use Rattle.sr_plant.specs.Copies.{Copy, is_on}
use Rattle.sr_plant.specs.Flights.{copies_of, parcel_of, is_of, AreCounted, AreUsed, AreUsedBut, copy_in, copies_in}
use Rattle.sr_plant.proofs.ListLemmas.{split_at}

-- a key is that of the copy, or another
key_cases : (f : Flying) (k : ℕ) → ((f.key == k) ≡ true) → k ≡ f.key
key_cases f k e = grind (arith, nat_tests)

other_key : (f : Flying) (k : ℕ) → ((f.key == k) ≡ false) → k ≢ f.key
other_key f k e = grind (arith, nat_tests)

pub count_here : (f : Flying) (fs : List Flying) (k : ℕ) → (f.key == k) ≡ true → how_many (is_of k) (f ∷ fs) ≡ how_many (is_of k) fs + 1
count_here f fs k e = rw e refl

pub count_beside : (f : Flying) (fs : List Flying) (k : ℕ) → (f.key == k) ≡ false → how_many (is_of k) (f ∷ fs) ≡ how_many (is_of k) fs
count_beside f fs k e = rw e refl

own_key : (f : Flying) → (f.key == f.key) ≡ true
own_key f = grind (arith, nat_tests)

-- where each parcel that has copies is as it was, so are the copies
pub same_copies : (old new : Slab Kept) (fs : List Flying) →
    ((k : ℕ) → 0 < how_many (is_of k) fs → parcel_of (get new k) ≡ parcel_of (get old k)) → copies_in new fs ≡ copies_in old fs
same_copies old new [] same = refl
same_copies old new (f ∷ fs) same =
    let here : parcel_of (get new f.key) ≡ parcel_of (get old f.key) = same f.key (omega (arith, count_here f fs f.key (own_key f))) in
    let rest : copies_in new fs ≡ copies_in old fs = same_copies old new fs (λ k some. same k (more f fs k some)) in
    rw (here, rest) refl
  where
    more : (f : Flying) (fs : List Flying) (k : ℕ) → 0 < how_many (is_of k) fs → 0 < how_many (is_of k) (f ∷ fs)
    more f fs k some = elim (cases_Bool (f.key == k)) [
      | inl is ↦ omega (arith, some, count_here f fs k is)
      | inr not ↦ omega (arith, some, count_beside f fs k not)
    ]

-- one copy more, of a parcel that is kept
pub attached : (old new : Slab Kept) (fs : List Flying) (f : Flying) → AreCounted old fs →
    copies_of (get new f.key) ≡ copies_of (get old f.key) + 1 → parcel_of (get new f.key) ≡ parcel_of (get old f.key) →
    ((other : ℕ) → other ≢ f.key → get new other ≡ get old other) →
    AreCounted new (fs ++ f ∷ []) × (copies_in new (fs ++ f ∷ []) ≡ copies_in old fs ++ copy_in old f ∷ [])
attached old new fs f counted more parcel others =
    (λ k. count k, map-append (copy_in new) fs (f ∷ []) ∙ (rw (parcel, same_copies old new fs (λ k some. same k)) refl))
  where
    same : (k : ℕ) → parcel_of (get new k) ≡ parcel_of (get old k)
    same k = elim (cases_Bool (f.key == k)) [
      | inl is ↦ rw (key_cases f k is) parcel
      | inr not ↦ ap parcel_of (others k (other_key f k not))
    ]

    count : (k : ℕ) → how_many (is_of k) (fs ++ f ∷ []) ≡ copies_of (get new k)
    count k = elim (cases_Bool (f.key == k)) [
      | inl is ↦ let at = key_cases f k is in let e = ap (λ j. copies_of (get new j)) at in let d = ap (λ j. copies_of (get old j)) at in omega (arith, count_append (is_of k) fs (f ∷ []), count_here f [] k is, counted k, more, e, d)
      | inr not ↦ let e = ap copies_of (others k (other_key f k not)) in omega (arith, count_append (is_of k) fs (f ∷ []), count_beside f [] k not, counted k, e)
    ]

-- one copy fewer
pub detached : (old new : Slab Kept) (xs ys : List Flying) (f : Flying) → AreCounted old (xs ++ f ∷ ys) →
    copies_of (get new f.key) + 1 ≡ copies_of (get old f.key) →
    (0 < copies_of (get new f.key) → parcel_of (get new f.key) ≡ parcel_of (get old f.key)) →
    ((other : ℕ) → other ≢ f.key → get new other ≡ get old other) →
    AreCounted new (xs ++ ys) × (copies_in new (xs ++ ys) ≡ copies_in old (xs ++ ys))
detached old new xs ys f counted fewer parcel others =
    (λ k. count k, same_copies old new (xs ++ ys) (λ k some. same k some))
  where
    count : (k : ℕ) → how_many (is_of k) (xs ++ ys) ≡ copies_of (get new k)
    count k = elim (cases_Bool (f.key == k)) [
      | inl is ↦ let at = key_cases f k is in let e = ap (λ j. copies_of (get new j)) at in let d = ap (λ j. copies_of (get old j)) at in omega (arith, count_append (is_of k) xs (f ∷ ys), count_append (is_of k) xs ys, count_here f ys k is, counted k, fewer, e, d)
      | inr not ↦ let e = ap copies_of (others k (other_key f k not)) in omega (arith, count_append (is_of k) xs (f ∷ ys), count_append (is_of k) xs ys, count_beside f ys k not, counted k, e)
    ]

    same : (k : ℕ) → 0 < how_many (is_of k) (xs ++ ys) → parcel_of (get new k) ≡ parcel_of (get old k)
    same k some = elim (cases_Bool (f.key == k)) [
      | inl is ↦ let at = key_cases f k is in let e = ap (λ j. copies_of (get new j)) at in rw at (parcel (omega (arith, some, count k, e)))
      | inr not ↦ ap parcel_of (others k (other_key f k not))
    ]

-- the parcel of a copy in flight has a copy
pub has_copy : (kept : Slab Kept) (xs ys : List Flying) (f : Flying) → AreCounted kept (xs ++ f ∷ ys) → 0 < copies_of (get kept f.key)
has_copy kept xs ys f counted =
    omega (arith, counted f.key, count_append (is_of f.key) xs (f ∷ ys), count_here f ys f.key (own_key f))

-- a parcel without copies comes or goes
pub unused : (old new : Slab Kept) (fs : List Flying) → AreCounted old fs →
    ((k : ℕ) → copies_of (get new k) ≡ copies_of (get old k)) →
    ((k : ℕ) → 0 < copies_of (get new k) → parcel_of (get new k) ≡ parcel_of (get old k)) →
    AreCounted new fs × (copies_in new fs ≡ copies_in old fs)
unused old new fs counted same parcel =
    (λ k. counted k ∙ sym (same k), same_copies old new fs (λ k some. parcel k (omega (arith, some, counted k, same k))))

pub few_of : {X : Type 0} (p : X → Bool) (xs : List X) → how_many p xs ≤ length xs
few_of p [] = omega arith
few_of p (x ∷ xs) = elim (cases_Bool (p x)) [
  | inl is ↦ rw is (omega (arith, few_of p xs))
  | inr not ↦ rw not (omega (arith, few_of p xs))
]

-- a parcel has no more copies than are in flight
pub few_copies : (kept : Slab Kept) (fs : List Flying) (key most : ℕ) → AreCounted kept fs → length fs < most → copies_of (get kept key) < most
few_copies kept fs key most counted few = omega (arith, counted key, few_of (is_of key) fs)

-- the copy at a place is gone
pub removed : (old new : Slab Kept) (fs : List Flying) (i : ℕ) (f : Flying) → i < length fs → f ≡ get_or fs i f → AreCounted old fs →
    copies_of (get new f.key) + 1 ≡ copies_of (get old f.key) →
    (0 < copies_of (get new f.key) → parcel_of (get new f.key) ≡ parcel_of (get old f.key)) →
    ((other : ℕ) → other ≢ f.key → get new other ≡ get old other) →
    AreCounted new (remove fs i) × (copies_in new (remove fs i) ≡ remove (copies_in old fs) i)
removed old new fs i f within here counted fewer parcel others =
    let whole = subst (λ (gs : List Flying). AreCounted old gs) (split_at fs i f within here) counted in
    let d = detached old new (take i fs) (drop (suc i) fs) f whole fewer parcel others in
    (d.0, d.1 ∙ (map-append (copy_in old) (take i fs) (drop (suc i) fs) ∙ rw (take-map (copy_in old) i fs, drop-map (copy_in old) (suc i) fs) refl))

pub counted_at : (kept : Slab Kept) (fs : List Flying) (i : ℕ) (f : Flying) → i < length fs → f ≡ get_or fs i f → AreCounted kept fs →
    0 < copies_of (get kept f.key)
counted_at kept fs i f within here counted =
    has_copy kept (take i fs) (drop (suc i) fs) f (subst (λ (gs : List Flying). AreCounted kept gs) (split_at fs i f within here) counted)

-- a copy that is looked at goes
pub looked_lost : (old new : Slab Kept) (fs : List Flying) (f : Flying) (link : ℕ) → AreCounted old (f ∷ fs) →
    copies_of (get new f.key) + 1 ≡ copies_of (get old f.key) →
    (0 < copies_of (get new f.key) → parcel_of (get new f.key) ≡ parcel_of (get old f.key)) →
    ((other : ℕ) → other ≢ f.key → get new other ≡ get old other) →
    is_on link (copy_in old f) ≡ true →
    AreCounted new fs × (copies_in new fs ≡ copies_in old fs ++ filter (λ c. not (is_on link c)) (copy_in old f ∷ []))
looked_lost old new fs f link counted fewer parcel others on =
    let d = detached old new [] fs f counted fewer parcel others in
    (d.0, d.1 ∙ (rw on (sym (append-nil (copies_in old fs)))))

-- or stays, and goes last
pub looked_kept : (kept : Slab Kept) (fs : List Flying) (f : Flying) (link : ℕ) → AreCounted kept (f ∷ fs) → is_on link (copy_in kept f) ≡ false →
    AreCounted kept (fs ++ f ∷ []) × (copies_in kept (fs ++ f ∷ []) ≡ copies_in kept fs ++ filter (λ c. not (is_on link c)) (copy_in kept f ∷ []))
looked_kept kept fs f link counted off =
    (λ k. omega (arith, count_append (is_of k) fs (f ∷ []), count_append (is_of k) (f ∷ []) fs, counted k), map-append (copy_in kept) fs (f ∷ []) ∙ (rw off refl))

-- a place among the copies is one of the list that is kept
pub place_within : (kept : Slab Kept) (fs : List Flying) (cs : List Copy) (i : ℕ) → copies_in kept fs ≡ cs → i < length cs → i < length fs
place_within kept fs cs i same within = simp length-map at (rw (← same) at within)

-- the copy at a place
pub copy_at : (kept : Slab Kept) (fs : List Flying) (cs : List Copy) (i : ℕ) (f : Flying) → copies_in kept fs ≡ cs → i < length fs → f ≡ get_or fs i f →
    slice_get cs i ≡ Some (copy_in kept f)
copy_at kept fs cs i f same within here = rw (← same) (here_at fs i within here)
  where
    here_at : (gs : List Flying) (j : ℕ) → j < length gs → f ≡ get_or gs j f → slice_get (copies_in kept gs) j ≡ Some (copy_in kept f)
    here_at [] j within here = absurd (omega arith)
    here_at (g ∷ gs) zero within here = ap (λ h. Some (copy_in kept h)) (sym here)
    here_at (g ∷ gs) (suc j) within here = here_at gs j (omega arith) here

pub is_there : (kept : Slab Kept) (key : ℕ) → 0 < copies_of (get kept key) → IsSome (get kept key)
is_there kept key some = by_cases (get kept key) some
  where
    by_cases : (o : Option Kept) → 0 < copies_of o → IsSome o
    by_cases None some = absurd (omega arith)
    by_cases (Some k) some = search rules

-- a parcel that is kept anew has no copy yet
pub kept_anew : (old new : Slab Kept) (key : ℕ) (entry : Kept) (fs : List Flying) → AreCounted old fs → entry.copies ≡ 0 →
    get old key ≡ None → Updates old new key (Some entry) → AreCounted new fs × (copies_in new fs ≡ copies_in old fs)
kept_anew old new key entry fs counted none vacant updates = unused old new fs counted same parcel
  where
    same : (k : ℕ) → copies_of (get new k) ≡ copies_of (get old k)
    same k = elim (cases_eq k key) [
      | inl at ↦ rw (at, updates.changed, vacant) none
      | inr other ↦ ap copies_of (updates.others k other)
    ]

    parcel : (k : ℕ) → 0 < copies_of (get new k) → parcel_of (get new k) ≡ parcel_of (get old k)
    parcel k some = elim (cases_eq k key) [
      | inl at ↦ let e : copies_of (get new k) ≡ 0 = rw (at, updates.changed) none in absurd (omega (arith, e, some))
      | inr other ↦ ap parcel_of (updates.others k other)
    ]

-- the parcel at a place has a copy, and each other as before
pub used_again : (old new : Slab Kept) (place : ℕ) → AreUsedBut place old →
    ((other : ℕ) → other ≢ place → get new other ≡ get old other) → 0 < copies_of (get new place) → AreUsed new
used_again old new place used others some key there = elim (cases_eq key place) [
  | inl at ↦ rw at some
  | inr other ↦ rw (others key other) (used key other (rw (others key other) at there))
]

-- the parcel at a place has a copy, or is gone
pub used_after : (old new : Slab Kept) (place : ℕ) → AreUsed old →
    ((other : ℕ) → other ≢ place → get new other ≡ get old other) → (copies_of (get new place) ≡ 0 → get new place ≡ None) → AreUsed new
used_after old new place used others gone key there = elim (cases_eq key place) [
  | inl at ↦ rw at (some (get new place) gone (rw at at there))
  | inr other ↦ rw (others key other) (used key (rw (others key other) at there))
]
  where
    some : (o : Option Kept) → (copies_of o ≡ 0 → o ≡ None) → IsSome o → 0 < copies_of o
    some None gone there = absurd (search rules)
    some (Some k) gone there = elim (cases_eq k.copies 0) [
      | inl none ↦ let e : Some k ≡ None = gone none in absurd (cc)
      | inr not ↦ omega (arith, not)
    ]
