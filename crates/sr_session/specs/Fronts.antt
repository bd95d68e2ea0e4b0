-- The whole line at the front of a text, and what is done with it.
use Rattle.std.specs.Prelude.{◌≡◌, ℕ, ◌+◌, ◌≤◌, ◌<◌, Option, None, Some, Result, Ok, Err, List, ◌∷◌, ◌++◌, [], length, drop}
use Rattle.sr_session.specs.declared.fault.FaultKind.{FaultKind}
use Rattle.sr_session.specs.declared.fault.FaultKind.TheVariants as kind
use Rattle.sr_session.specs.declared.waiting.Mark.{Mark}
use Rattle.sr_session.specs.Limits.{longest_line}
use Rattle.sr_session.specs.Lines.{IsOneOf}
use Rattle.sr_session.specs.Octets.{Lacks}
use Rattle.sr_session.specs.Runs.{Dialogue}
use Rattle.sr_session.specs.Turns.{AddsAnswer}

-- the text begins with this line, which is not too long, and the LF that ends it
pub record IsFrontLine (text line : List ℕ) : Type 0 where
  pub unbroken : Lacks 10 line
  pub short : length line ≤ longest_line
  pub parts : text ≡ line ++ 10 ∷ drop (length line + 1) text
  pub within : length line < length text

-- The line at the front, of this length, is known and answered, and the answer is appended to a text. Without a length nothing is done.
abbrev pub AnswersFront : {S : Type 0} → Dialogue S → S → ℕ → List ℕ → Option ℕ → List ℕ → List ℕ → S → Type 0
AnswersFront d s number front None text later t = (later ≡ text) × (t ≡ s)
AnswersFront d s number front (Some n) text later t = (line answer : List ℕ) × IsFrontLine front line × (n ≡ length line)
    × d.Knows s line × d.Replied s number line answer t × (later ≡ text ++ answer)

-- the line at the front is known
abbrev pub KnowsFront : {S : Type 0} → Dialogue S → S → List ℕ → Type 0
KnowsFront d s front = (line : List ℕ) × IsFrontLine front line × d.Knows s line

-- The line at the front, of this length, is known and answered, and its text waits behind what waited. Without a length nothing is done.
abbrev pub AddsFront : {S : Type 0} → Dialogue S → S → ℕ → List ℕ → Option ℕ → List ℕ → List Mark → List ℕ → List Mark → S → Type 0
AddsFront d s number front None text marks later more t = (later ≡ text) × (more ≡ marks) × (t ≡ s)
AddsFront d s number front (Some n) text marks later more t = (line : List ℕ) × IsFrontLine front line × (n ≡ length line)
    × AddsAnswer d s number line text marks later more t

-- why the line at the front is not answered
abbrev pub FrontFails : {S : Type 0} → Dialogue S → S → List ℕ → FaultKind → Type 0
FrontFails d s front w = IsOneOf w (kind.Line ∷ kind.Memory ∷ []) × (line : List ℕ) × IsFrontLine front line
    × (w ≡ kind.Line → d.Knows s line → ⊥) × (w ≡ kind.Memory → d.Knows s line)

-- What comes of the line at the front. Without a fault it is answered, or nothing is done; with one nothing more waits.
abbrev pub ObeysFront : {S : Type 0} → Dialogue S → S → ℕ → List ℕ → List ℕ → List Mark → List ℕ → List Mark → S
    → Result (Option ℕ) FaultKind → Type 0
ObeysFront d s number front text marks later more t (Ok found) = AddsFront d s number front found text marks later more t
ObeysFront d s number front text marks later more t (Err w) = FrontFails d s front w × (later ≡ text) × (more ≡ marks)
