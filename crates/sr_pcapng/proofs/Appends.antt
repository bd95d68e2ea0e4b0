-- What a writer holds, growing piece by piece.
use Rattle.std.proofs.Common.{ℕ, List, ◌++◌, Option, Some, None, OnOk, ap, ◌∙◌}
use Rattle.std.specs.Io.KnownBytes.{Appends}
use Rattle.std.specs.declared.result.Result.{Result}
use Rattle.std.specs.declared.result.Result.TheVariants.{Ok, Err}
use Rattle.std.proofs.lemmas.List.{append_assoc}

-- one piece more
pub more : (old : Option (List ℕ)) (front : List ℕ) (b c : Option (List ℕ)) (w : List ℕ) → Appends old b front → Appends b c w → Appends old c (front ++ w)
more None front b c w e f = tt
more (Some xs) front None c w e f = absurd e
more (Some xs) front (Some ys) None w e f = absurd f
more (Some xs) front (Some ys) (Some zs) w e f = f ∙ ap (λ (l : List ℕ). l ++ w) e ∙ append_assoc xs front w

-- the last piece, of which it is known once it is there
pub last : {T E : Type 0} (old : Option (List ℕ)) (front : List ℕ) (b c : Option (List ℕ)) (w : List ℕ) (r : Result T E) → Appends old b front
    → OnOk r (Appends b c w) → OnOk r (Appends old c (front ++ w))
last old front b c w (Ok x) e f = more old front b c w e f
last old front b c w (Err x) e f = tt
