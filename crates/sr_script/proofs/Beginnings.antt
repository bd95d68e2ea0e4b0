-- Texts that go on behind what they held.
use Rattle.std.proofs.Common.{◌++◌, ℕ, List, ap, ◌∙◌, append_assoc, Ok, Err}
use Rattle.std.specs.Prelude.{Result, OnErr}
use Rattle.sr_session.specs.Octets.{StillHolds}

pub begins_further : (front text longer : List ℕ) → StillHolds front text → StillHolds text longer → StillHolds front longer
begins_further front text longer (behind, e) (more, f) =
    (behind ++ more, f ∙ ap (λ (t : List ℕ). t ++ more) e ∙ append_assoc front behind more)

-- what holds, holds where there is an error
pub on_err_so : {T E Q : Type 0} (r : Result T E) → Q → OnErr r Q
on_err_so (Ok x) q = tt
on_err_so (Err e) q = q
