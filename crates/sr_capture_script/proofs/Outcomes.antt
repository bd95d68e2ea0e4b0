-- Outcomes of calls.
use Rattle.std.proofs.Common.{◌≡◌, Result, Ok, Err, sym, subst}
use Rattle.std.specs.Prelude.{OnOk, IfErr, IsErrAnd}

-- what follows from two facts of a good outcome
pub on_ok_both : {T E : Type 0} (r : Result T E) (P Q S : Type 0) → OnOk r P → OnOk r Q → (P → Q → S) → OnOk r S
on_ok_both (Ok x) P Q S p q f = f p q
on_ok_both (Err e) P Q S p q f = tt

-- what holds of an error holds of it where it is handed on
pub handed_on : {T E : Type 0} (r : Result T E) (e : E) (P : E → Type 0) → IsErrAnd r (λ x. x ≡ e) → P e → IfErr r P
handed_on (Ok x) e P is p = tt
handed_on (Err x) e P is p = subst P (sym is) p

-- what follows from an error that is known
pub if_err_map : {T E : Type 0} (r : Result T E) (P Q : E → Type 0) → IfErr r P → ((e : E) → P e → Q e) → IfErr r Q
if_err_map (Ok x) P Q p f = tt
if_err_map (Err e) P Q p f = f e p
