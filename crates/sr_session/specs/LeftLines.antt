-- The line that ended a run.
use Rattle.std.specs.Prelude.{◌≡◌, ℕ, ◌+◌, ◌<◌, List, ◌∷◌, ◌++◌, length, take, Option, IfSome, Result, Ok, Err, ◌⊎◌}
use Rattle.sr_session.specs.declared.fault.Fault.{Fault}
use Rattle.sr_session.specs.declared.fault.FaultKind.{FaultKind}
use Rattle.sr_session.specs.declared.fault.FaultKind.TheVariants as kind
use Rattle.sr_session.specs.Limits.{longest_line, most_lines}
use Rattle.sr_session.specs.Lines.{lines_of}

-- of lines, of which the first has the number `first`, this is the one with this number
pub record IsLineAt (first : ℕ) (lines : List (List ℕ)) (number : ℕ) (line : List ℕ) : Type 0 where
  pub before : List (List ℕ)
  pub behind : List (List ℕ)
  pub parted : lines ≡ before ++ line ∷ behind
  pub count : number ≡ first + length before

-- What is left of the line with this number, where it ended a run so: of one that is none of a script all, and of one that is too long the
-- first octets, one more than a line may have. Behind the last line that a script may have nothing is left.
abbrev pub IsLeftBy : FaultKind → ℕ → List (List ℕ) → ℕ → List ℕ → Type 0
IsLeftBy kind.Line first lines number left = IsLineAt first lines number left
IsLeftBy kind.Long first lines number left =
    (most_lines < number) ⊎ ((line : List ℕ) × IsLineAt first lines number line × (left ≡ take (longest_line + 1) line))
IsLeftBy kind.Read first lines number left = Unit {0}
IsLeftBy kind.Write first lines number left = Unit {0}
IsLeftBy kind.Memory first lines number left = Unit {0}

-- of a run over the octets that the reader had, this is left of the line that ended it
abbrev pub Leaves : Result (Unit {0}) Fault → Option (List ℕ) → List ℕ → Type 0
Leaves (Ok done) read left = Unit {0}
Leaves (Err fault) read left = IfSome read (λ input. IsLeftBy fault.kind 1 (lines_of input) fault.line left)
