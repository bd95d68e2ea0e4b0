-- Arrivals of a source in lists, and their times and numbers.
use Rattle.std.proofs.Common.{◌≡◌, ℕ, zero, suc, ◌≤◌, ◌<◌, max, Bool, true, false, cond, ◌||◌, ◌&&◌, List, [], ◌∷◌, ◌++◌, length, slice_index_or, ℤ, refl, sym, ap, ◌∙◌, subst, arith, ◌⊎◌, inl, inr}
use Rattle.std.specs.Prelude.{Contains}
use Rattle.std.specs.Ordering.{int_eq}
use Rattle.std.proofs.Math.Bool.{or_comm, or-false}
use Rattle.std.proofs.lemmas.List.Folds.{list_any-append}
use Rattle.sr_frame.specs.declared.fields.Mac.{Mac}
use Rattle.sr_frame.specs.AddressLemmas.{mac_refl}
use Rattle.sr_dup_window.specs.declared.lane_sets.Lane.{Lane}
use Rattle.sr_dup_window.specs.LaneSets.{has}
use Rattle.sr_dup_window.specs.Families.{Family, singleton, join, StandsFor}
use Rattle.sr_dup_window.specs.Windows.{Window}
use Rattle.sr_dup_table.specs.Sources.{is_recent}
use Rattle.sr_laws_dup.specs.TableRuns.{Noting, is_copy}
use Rattle.sr_laws_dup_joins.specs.Growths.{newest, remembered, numbers}

-- what stands for a family stands for one with the same numbers
pub stands-like : (w : ℕ) (seen : Window) (f g : Family) (m : ℤ) → ((lane : Lane) (n : ℤ) → f lane n ≡ g lane n) → StandsFor w seen f m → StandsFor w seen g m
stands-like w seen f g m same s = let P : Family → Type 0 = λ k. StandsFor w seen k m in subst P (λ i lane n. same lane n i) s

-- the numbers of one arrival of the source, of one more, and of two lists
pub one-number : (x : Noting) (lane : Lane) (n : ℤ) → singleton x.lanes x.arrival.number lane n ≡ numbers x.arrival.src (x ∷ []) lane n
one-number x lane n = rw (mac_refl x.arrival.src) (sym (or-false (int_eq n x.arrival.number && has x.lanes lane)))

pub more-numbers : (x : Noting) (xs : List Noting) (lane : Lane) (n : ℤ)
    → join (numbers x.arrival.src xs) (singleton x.lanes x.arrival.number) lane n ≡ numbers x.arrival.src (x ∷ xs) lane n
more-numbers x xs lane n =
    rw (mac_refl x.arrival.src) (or_comm (numbers x.arrival.src xs lane n) (int_eq n x.arrival.number && has x.lanes lane))

pub both-numbers : (src : Mac) (xs ys : List Noting) (lane : Lane) (n : ℤ) → join (numbers src xs) (numbers src ys) lane n ≡ numbers src (xs ++ ys) lane n
both-numbers src xs ys lane n = sym (list_any-append (λ x. is_copy src n x.arrival && has x.lanes lane) xs ys)

pub newest-both : (xs ys : List Noting) → newest (xs ++ ys) ≡ max (newest xs) (newest ys)
newest-both [] ys = omega arith
newest-both (x ∷ xs) ys = omega (arith, newest-both xs ys)

-- among some arrivals
abbrev pub Among : List Noting → Noting → Type 0
Among [] x = ⊥
Among (y ∷ ys) x = (y ≡ x) ⊎ Among ys x

pub among-from : (xs : List Noting) (x : Noting) → Contains xs x → Among xs x
among-from xs x c = by xs c.0 c.1 c.2
  where
    by : (xs : List Noting) (k : ℕ) → k < length xs → slice_index_or xs k x ≡ x → Among xs x
    by [] k h e = absurd (omega arith)
    by (y ∷ ys) zero h e = inl e
    by (y ∷ ys) (suc k) h e = inr (by ys k (omega arith) e)

pub contains-from : (xs : List Noting) (x : Noting) → Among xs x → Contains xs x
contains-from [] x h = absurd h
contains-from (y ∷ ys) x (inl e) = (0, omega arith, e)
contains-from (y ∷ ys) x (inr h) = let c = contains-from ys x h in (suc c.0, omega (arith, c.1), c.2)

pub among-left : (xs ys : List Noting) (x : Noting) → Among xs x → Among (xs ++ ys) x
among-left [] ys x h = absurd h
among-left (z ∷ zs) ys x (inl e) = inl e
among-left (z ∷ zs) ys x (inr h) = inr (among-left zs ys x h)

pub among-right : (xs ys : List Noting) (x : Noting) → Among ys x → Among (xs ++ ys) x
among-right [] ys x h = h
among-right (z ∷ zs) ys x h = inr (among-right zs ys x h)

pub among-either : (xs ys : List Noting) (x : Noting) → Among (xs ++ ys) x → Among xs x ⊎ Among ys x
among-either [] ys x h = inr h
among-either (z ∷ zs) ys x (inl e) = inl (inl e)
among-either (z ∷ zs) ys x (inr h) = elim (among-either zs ys x h) [ inl g ↦ inl (inr g) | inr g ↦ inr g ]

pub among-remembered : (now : ℕ) (xs : List Noting) (x : Noting) → Among (remembered now xs) x → Among xs x
among-remembered now xs x h = by (is_recent now (newest xs)) h
  where
    by : (b : Bool) → Among (cond b xs []) x → Among xs x
    by true h = h
    by false h = absurd h

-- a number is that of an arrival
pub number-of : (src : Mac) (xs : List Noting) (lane : Lane) (n : ℤ) → numbers src xs lane n ≡ true
    → (x : Noting) × Among xs x × ((is_copy src n x.arrival && has x.lanes lane) ≡ true)
number-of src [] lane n h = cc
number-of src (x ∷ xs) lane n h = by (is_copy src n x.arrival && has x.lanes lane) refl h (number-of src xs lane n)
  where
    by : (b : Bool) → (is_copy src n x.arrival && has x.lanes lane) ≡ b → (b || numbers src xs lane n) ≡ true
        → (numbers src xs lane n ≡ true → (y : Noting) × Among xs y × ((is_copy src n y.arrival && has y.lanes lane) ≡ true))
        → (y : Noting) × Among (x ∷ xs) y × ((is_copy src n y.arrival && has y.lanes lane) ≡ true)
    by true e h ih = (x, inl refl, e)
    by false e h ih = let r = ih h in (r.0, inr r.1, r.2)

pub number-in : (src : Mac) (xs : List Noting) (lane : Lane) (n : ℤ) (x : Noting) → Among xs x → (is_copy src n x.arrival && has x.lanes lane) ≡ true
    → numbers src xs lane n ≡ true
number-in src [] lane n x h e = absurd h
number-in src (y ∷ ys) lane n x (inl same) e =
    ap (λ z. (is_copy src n z.arrival && has z.lanes lane) || numbers src ys lane n) same ∙ ap (λ b. b || numbers src ys lane n) e
number-in src (y ∷ ys) lane n x (inr h) e = by (is_copy src n y.arrival && has y.lanes lane) (number-in src ys lane n x h e)
  where
    by : (b : Bool) → numbers src ys lane n ≡ true → (b || numbers src ys lane n) ≡ true
    by true ih = refl
    by false ih = ih

-- arrivals that are all among others have their numbers, and are no newer
both-true : (a b : Bool) → (a ≡ true → b ≡ true) → (b ≡ true → a ≡ true) → a ≡ b
both-true true b f g = sym (f refl)
both-true false true f g = g refl
both-true false false f g = refl

pub same-numbers-among : (src : Mac) (xs ys : List Noting) → ((x : Noting) → Among xs x → Among ys x) → ((x : Noting) → Among ys x → Among xs x)
    → (lane : Lane) (n : ℤ) → numbers src xs lane n ≡ numbers src ys lane n
same-numbers-among src xs ys there back lane n =
    both-true (numbers src xs lane n) (numbers src ys lane n)
    (λ h. let r = number-of src xs lane n h in number-in src ys lane n r.0 (there r.0 r.1) r.2)
    (λ h. let r = number-of src ys lane n h in number-in src xs lane n r.0 (back r.0 r.1) r.2)

among-older : (ys : List Noting) (x : Noting) → Among ys x → x.arrival.time ≤ newest ys
among-older [] x h = absurd h
among-older (y ∷ ys) x (inl e) = omega (arith, ap (λ (z : Noting). z.arrival.time) e)
among-older (y ∷ ys) x (inr h) = omega (arith, among-older ys x h)

pub no-newer : (xs ys : List Noting) → ((x : Noting) → Among xs x → Among ys x) → newest xs ≤ newest ys
no-newer [] ys there = omega arith
no-newer (x ∷ xs) ys there = omega (arith, among-older ys x (there x (inl refl)), no-newer xs ys (λ y h. there y (inr h)))
