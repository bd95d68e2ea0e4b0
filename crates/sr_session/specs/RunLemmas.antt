-- What comes of a run, put together from its two ends, and told of the state that it starts at.
use Rattle.std.proofs.Common.{◌≡◌, ℕ, List, Option, None, Some, Result, Ok, Err, OnOk, IfErr, inr, subst}
use Rattle.std.specs.Prelude.{IfSome}
use Rattle.sr_session.specs.declared.fault.Fault.{Fault}
use Rattle.sr_session.specs.Lines.{lines_of}
use Rattle.sr_session.specs.Runs.{Dialogue, IsAnswered, IsAnsweredTo, EndsAt, Runs}

-- lines that are answered, whatever they came to
answered_somehow : {S : Type 0} (d : Dialogue S) (start : S) (left held now : Option (List ℕ)) (t : S)
    → IfSome left (λ input. IsAnsweredTo d start (lines_of input) held now t)
    → IfSome left (λ input. IsAnswered d start (lines_of input) held now)
answered_somehow d start None held now t h = tt
answered_somehow d start (Some xs) held now t h = (t, h)

-- a run of which a line was read, if there was one
pub runs_begun : {S : Type 0} (d : Dialogue S) (start : S) (left rest held now : Option (List ℕ)) (t : S) (r : Result (Unit {0}) Fault)
    → OnOk r (IfSome left (λ input. IsAnsweredTo d start (lines_of input) held now t))
    → IfErr r (λ fault. IfSome left (λ input. EndsAt d start (lines_of input) fault rest held now))
    → Runs d start left rest held now r
runs_begun d start left rest held now t (Ok x) done ended = answered_somehow d start left held now t done
runs_begun d start left rest held now t (Err fault) done ended = inr ended

-- a run from a state that is another one's equal
pub runs_from : {S : Type 0} (d : Dialogue S) (s t : S) (left rest held now : Option (List ℕ)) (r : Result (Unit {0}) Fault) → s ≡ t
    → Runs d s left rest held now r → Runs d t left rest held now r
runs_from {S} d s t left rest held now r same h = subst (λ (u : S). Runs d u left rest held now r) same h
