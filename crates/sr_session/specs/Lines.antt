-- The lines of a text, and what a reader of lines takes.
use Rattle.std.specs.Prelude.{
  ◌≡◌,
  ℕ,
  ◌+◌,
  ◌<◌,
  ◌≤◌,
  List,
  [],
  ◌∷◌,
  ◌++◌,
  ◌==◌,
  if◌then◌else◌,
  Option,
  Some,
  None,
  Bool,
  true,
  false,
  length,
  take,
  ◌⊎◌,
  OnSome,
}
use Rattle.std.specs.Io.KnownBytes.{Consumes, IsAtEnd}
use Rattle.sr_session.specs.Limits.{longest_line}
use Rattle.sr_session.specs.Octets.{Lacks}
use Rattle.sr_session.specs.declared.fault.FaultKind.{FaultKind}
use Rattle.sr_session.specs.declared.lines.Piece.{Piece}
use Rattle.sr_session.specs.declared.lines.Piece.TheVariants.{Part, Last, End}

-- an octet before the first line
abbrev pub before_first_line : ℕ → List (List ℕ) → List (List ℕ)
before_first_line b [] = (b ∷ []) ∷ []
before_first_line b (line ∷ lines) = (b ∷ line) ∷ lines

-- each line without the LF that ends it; the last may lack one
abbrev pub lines_of : List ℕ → List (List ℕ)
lines_of [] = []
lines_of (b ∷ bs) = if b == 10 then [] ∷ lines_of bs else before_first_line b (lines_of bs)

-- the text's first line has too many octets, and these are its first, one more than a line may have
abbrev pub BeginsLong : List ℕ → List ℕ → Type 0
BeginsLong front text = (line : List ℕ) × (lines : List (List ℕ)) × (lines_of text ≡ line ∷ lines) × (longest_line < length line)
    × (front ≡ take (longest_line + 1) line)

-- where the octets that a reader has left are known: what a read of a line took, and what it left
abbrev pub TakesLine : Bool → List ℕ → Option (List ℕ) → Option (List ℕ) → Type 0
TakesLine more line None new = Unit {0}
TakesLine more line (Some xs) None = ⊥
TakesLine true line (Some xs) (Some ys) = lines_of xs ≡ line ∷ lines_of ys
TakesLine false line (Some xs) (Some ys) = lines_of xs ≡ []

-- of a line no more octets were taken than a line may have, and not its end
abbrev pub TakesPart : Option (List ℕ) → Option (List ℕ) → Type 0
TakesPart before after = (part : List ℕ) × Consumes before after part × Lacks 10 part × (length part ≤ longest_line)

-- the octets behind those that were taken of a line
abbrev pub end_of : Piece → List ℕ
end_of Part = []
end_of Last = 10 ∷ []
end_of End = []

-- how long the line is by then; a part is not empty
abbrev pub HasPieceLength : Piece → List ℕ → List ℕ → Type 0
HasPieceLength Part old new = (length old < length new) × (length new ≤ longest_line + 1)
HasPieceLength Last old new = length new ≤ longest_line
HasPieceLength End old new = new ≡ old

-- the end of the input was met, where the octets are known
abbrev pub IsEndIf : Piece → Option (List ℕ) → Option (List ℕ) → Type 0
IsEndIf Part before after = Unit {0}
IsEndIf Last before after = Unit {0}
IsEndIf End before after = OnSome before (IsAtEnd after)

-- a line grew by octets without LF, which the reader lost with the LF behind them
abbrev pub TakesPiece : Piece → List ℕ → List ℕ → Option (List ℕ) → Option (List ℕ) → Type 0
TakesPiece piece old new before after = (bs : List ℕ) × (new ≡ old ++ bs) × Lacks 10 bs × Consumes before after (bs ++ end_of piece)
    × HasPieceLength piece old new × IsEndIf piece before after

-- the kind is one of these
abbrev pub IsOneOf : FaultKind → List FaultKind → Type 0
IsOneOf kind [] = ⊥
IsOneOf kind (other ∷ others) = (kind ≡ other) ⊎ IsOneOf kind others
