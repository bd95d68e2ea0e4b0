-- One and each of a list, and counts.
use Rattle.std.proofs.Common.{◌≡◌, ◌+◌, ◌<◌, ◌⊎◌, inl, inr, Bool, true, false, List, [], ◌∷◌, ◌++◌, arith, refl}
use Rattle.std.specs.List.{list_any}
use Rattle.std.proofs.lemmas.Bool.{cases_Bool}
use Rattle.sr_laws_plant.specs.Lists.{One, Each, how_many}

pub one_map : {X : Type 0} (P Q : X → Type 0) → ((x : X) → P x → Q x) → (xs : List X) → One P xs → One Q xs
one_map P Q f [] o = absurd o
one_map P Q f (x ∷ xs) (inl p) = inl (f x p)
one_map P Q f (x ∷ xs) (inr o) = inr (one_map P Q f xs o)

pub one_left : {X : Type 0} (P : X → Type 0) (xs ys : List X) → One P xs → One P (xs ++ ys)
one_left P [] ys o = absurd o
one_left P (x ∷ xs) ys (inl p) = inl p
one_left P (x ∷ xs) ys (inr o) = inr (one_left P xs ys o)

pub one_right : {X : Type 0} (P : X → Type 0) (xs ys : List X) → One P ys → One P (xs ++ ys)
one_right P [] ys o = o
one_right P (x ∷ xs) ys o = inr (one_right P xs ys o)

pub one_parts : {X : Type 0} (P : X → Type 0) (xs ys : List X) → One P (xs ++ ys) → One P xs ⊎ One P ys
one_parts P [] ys o = inr o
one_parts P (x ∷ xs) ys (inl p) = inl (inl p)
one_parts P (x ∷ xs) ys (inr o) = elim (one_parts P xs ys o) [
  | inl l ↦ inl (inr l)
  | inr r ↦ inr r
]

pub one_each : {X : Type 0} (P Q : X → Type 0) (xs : List X) → Each P xs → One Q xs → One (λ x. P x × Q x) xs
one_each P Q [] e o = absurd o
one_each P Q (x ∷ xs) e (inl q) = inl (e.0, q)
one_each P Q (x ∷ xs) e (inr o) = inr (one_each P Q xs e.1 o)

pub one_is : {X : Type 0} (P : X → Type 0) (xs : List X) → One P xs → (x : X) × P x
one_is P [] o = absurd o
one_is P (x ∷ xs) (inl p) = (x, p)
one_is P (x ∷ xs) (inr o) = one_is P xs o

pub each_map : {X : Type 0} (P Q : X → Type 0) → ((x : X) → P x → Q x) → (xs : List X) → Each P xs → Each Q xs
each_map P Q f [] e = tt
each_map P Q f (x ∷ xs) e = (f x e.0, each_map P Q f xs e.1)

pub each_append : {X : Type 0} (P : X → Type 0) (xs ys : List X) → Each P xs → Each P ys → Each P (xs ++ ys)
each_append P [] ys a b = b
each_append P (x ∷ xs) ys a b = (a.0, each_append P xs ys a.1 b)

-- each that is one of the others
pub each_of : {X : Type 0} (P : X → Type 0) (xs : List X) → Each P xs → (x : X) → One (λ y. y ≡ x) xs → P x
each_of P [] e x o = absurd o
each_of P (y ∷ ys) e x (inl same) = rw (← same) e.0
each_of P (y ∷ ys) e x (inr o) = each_of P ys e.1 x o

pub any_one : {X : Type 0} (p : X → Bool) (xs : List X) → list_any p xs ≡ true → One (λ x. p x ≡ true) xs
any_one p [] e = let no : false ≡ true = e in absurd cc
any_one p (x ∷ xs) e =
    elim (cases_Bool (p x)) [
      | inl is ↦ inl is
      | inr not ↦ inr (any_one p xs (rw not at e))
    ]

pub one_any : {X : Type 0} (p : X → Bool) (xs : List X) → One (λ x. p x ≡ true) xs → list_any p xs ≡ true
one_any p [] o = absurd o
one_any p (x ∷ xs) (inl is) = rw is refl
one_any p (x ∷ xs) (inr o) =
    elim (cases_Bool (p x)) [
      | inl is ↦ rw is refl
      | inr not ↦ rw not (one_any p xs o)
    ]

pub count_append : {X : Type 0} (p : X → Bool) (xs ys : List X) → how_many p (xs ++ ys) ≡ how_many p xs + how_many p ys
count_append p [] ys = omega arith
count_append p (x ∷ xs) ys =
    let rest = count_append p xs ys in
    elim (cases_Bool (p x)) [
      | inl is ↦ rw is (omega (arith, rest))
      | inr not ↦ rw not (omega (arith, rest))
    ]

pub counted : {X : Type 0} (p : X → Bool) (xs : List X) → 0 < how_many p xs → One (λ x. p x ≡ true) xs
counted p [] h = absurd (omega arith)
counted p (x ∷ xs) h =
    elim (cases_Bool (p x)) [
      | inl is ↦ inl is
      | inr not ↦ inr (counted p xs (rw not at h))
    ]

pub counts_one : {X : Type 0} (p : X → Bool) (xs : List X) → One (λ x. p x ≡ true) xs → 0 < how_many p xs
counts_one p [] o = absurd o
counts_one p (x ∷ xs) (inl is) = rw is (omega arith)
counts_one p (x ∷ xs) (inr o) =
    let rest = counts_one p xs o in
    elim (cases_Bool (p x)) [
      | inl is ↦ rw is (omega arith)
      | inr not ↦ rw not rest
    ]
