-- Short lists, and elements that are there.
use Rattle.std.proofs.Common.{◌≡◌, ℕ, ◌<◌, List, [], ◌∷◌, length, Option, None, Some, refl, arith}
use Rattle.std.specs.List.{filter_map, cons_option}

-- an element of a list that is not empty
pub some_of : {X : Type 0} (xs : List X) (i : ℕ) → i < length xs → X
some_of [] i below = absurd (omega (arith, below))
some_of (x ∷ xs) i below = x

-- three elements
pub record Three {X : Type 0} (xs : List X) : Type 0 where
  pub first : X
  pub second : X
  pub third : X
  pub are : xs ≡ first ∷ second ∷ third ∷ []

pub three : {X : Type 0} (xs : List X) → length xs ≡ 3 → Three xs
three [] long = absurd (omega (arith, long))
three (x ∷ []) long = absurd (omega (arith, long))
three (x ∷ y ∷ []) long = absurd (omega (arith, long))
three (x ∷ y ∷ z ∷ []) long = record { first = x; second = y; third = z; are = refl }
three (x ∷ y ∷ z ∷ v ∷ vs) long = absurd (omega (arith, long))

-- where nothing is given of three, nothing is of the last
none_of : {Y : Type 0} (x y z : Option Y) → cons_option x (cons_option y (cons_option z [])) ≡ [] → z ≡ None
none_of None None None is = refl
none_of None None (Some z) is = absurd cc
none_of None (Some y) z is = absurd cc
none_of (Some x) y z is = absurd cc

pub last_none : {X Y : Type 0} (f : X → Option Y) (a b c : X) → filter_map f (a ∷ b ∷ c ∷ []) ≡ [] → f c ≡ None
last_none f a b c is = none_of (f a) (f b) (f c) is
