-- Items in order, one by one.
use Rattle.std.proofs.Common.{◌≡◌, ℕ, ◌≤◌, List, [], ◌∷◌, ◌++◌, Option, Some, None, Bool, true, false, ap, refl, ◌∙◌, arith}
use Rattle.std.specs.Prelude.{cond}
use Rattle.std.proofs.lemmas.List.{append-nil}
use Rattle.std.proofs.lemmas.List.Elements.{filter-append}
use Rattle.sr_capture_script.specs.declared.choice.Inlet.{Inlet}
use Rattle.sr_capture_script.specs.declared.choice.Inlet.TheVariants.{A, B, C}
use Rattle.sr_capture_script.specs.Items.{Item, key_of, is_same, came_at, AllFrom, IsInOrder, AllTo, AllToDue}

all_to_more : (j k : ℕ) (xs : List Item) (x : Item) → AllTo j xs → j ≤ k → key_of x.inlet x.moment ≤ k → AllTo k (xs ++ x ∷ [])
all_to_more j k [] x h le at = (at, tt)
all_to_more j k (y ∷ ys) x h le at = (omega (arith, h.0), all_to_more j k ys x h.1 le at)

all_from_more : (j : ℕ) (xs : List Item) (x : Item) → AllFrom j xs → j ≤ key_of x.inlet x.moment → AllFrom j (xs ++ x ∷ [])
all_from_more j [] x h le = (le, tt)
all_from_more j (y ∷ ys) x h le = (h.0, all_from_more j ys x h.1 le)

pub order_more : (xs : List Item) (x : Item) → IsInOrder xs → AllTo (key_of x.inlet x.moment) xs → IsInOrder (xs ++ x ∷ [])
order_more [] x h to = (tt, tt)
order_more (y ∷ ys) x h to = (all_from_more (key_of y.inlet y.moment) ys x h.0 to.0, order_more ys x h.1 to.1)

-- what is due later comes behind the item too
pub due_more : (inlet : Inlet) (d : Option ℕ) (k : ℕ) (xs : List Item) (x : Item) → AllTo k xs → key_of x.inlet x.moment ≡ k
    → ((m : ℕ) → d ≡ Some m → k ≤ key_of inlet m) → AllToDue inlet d (xs ++ x ∷ [])
due_more inlet None k xs x to at later = tt
due_more inlet (Some m) k xs x to at later = all_to_more k (key_of inlet m) xs x to (later m refl) (omega (arith, later m refl, at))

same_self : (i : Inlet) → is_same i i ≡ true
same_self A = refl
same_self B = refl
same_self C = refl

-- one more of this inlet
pub came_here : (i : Inlet) (xs : List Item) (x : Item) → x.inlet ≡ i → came_at i (xs ++ x ∷ []) ≡ came_at i xs ++ x ∷ []
came_here i xs x e =
    let is : is_same i x.inlet ≡ true = ap (is_same i) e ∙ same_self i in
    let one : came_at i (x ∷ []) ≡ x ∷ [] = ap (λ (b : Bool). cond b (x ∷ []) []) is in
    filter-append (λ (y : Item). is_same i y.inlet) xs (x ∷ []) ∙ ap (λ (l : List Item). came_at i xs ++ l) one

-- one more of another
pub came_apart : (i j : Inlet) (xs : List Item) (x : Item) → x.inlet ≡ j → is_same i j ≡ false → came_at i (xs ++ x ∷ []) ≡ came_at i xs
came_apart i j xs x e other =
    let is : is_same i x.inlet ≡ false = ap (is_same i) e ∙ other in
    let none : came_at i (x ∷ []) ≡ [] = ap (λ (b : Bool). cond b (x ∷ []) []) is in
    filter-append (λ (y : Item). is_same i y.inlet) xs (x ∷ []) ∙ ap (λ (l : List Item). came_at i xs ++ l) none ∙ append-nil (came_at i xs)
