-- Lines that are obeyed, and what is printed for them while it waits to be written.
use Rattle.std.specs.Prelude.{◌≡◌, ℕ, ◌+◌, ◌≤◌, ◌<◌, nat_lt, if◌then◌else◌, Option, None, Some, Bool, true, false}
use Rattle.std.specs.Prelude.{List, [], ◌∷◌, ◌++◌, length, take, drop}
use Rattle.std.specs.Io.KnownBytes.{Appends, Keeps}
use Rattle.sr_session.specs.declared.fault.Fault.{Fault}
use Rattle.sr_session.specs.declared.fault.FaultKind.{FaultKind}
use Rattle.sr_session.specs.declared.fault.FaultKind.TheVariants as kind
use Rattle.sr_session.specs.declared.waiting.Mark.{Mark}
use Rattle.sr_session.specs.declared.fronts.Front.{Front}
use Rattle.sr_session.specs.Limits.{most_lines}
use Rattle.sr_session.specs.Lines.{lines_of, IsOneOf, TakesLine}
use Rattle.sr_session.specs.Runs.{Dialogue, HasPlace, Replies}

-- before other marks, that of a line whose text ends there; a line without text has none
abbrev pub marked : ℕ → ℕ → List ℕ → List Mark → List Mark
marked number end [] others = others
marked number end (b ∷ bs) others = record { line = number; end = end } ∷ others

-- the line whose text holds the octet at a place, by the marks
abbrev pub line_of : List Mark → ℕ → ℕ
line_of [] place = 0
line_of (m ∷ ms) place = if nat_lt place m.end then m.line else line_of ms place

-- The lines, of which the first has this number, are known and answered from s on, which came to t. Their text waits from this place on,
-- with its marks.
abbrev pub Waits : {S : Type 0} → Dialogue S → S → ℕ → ℕ → List (List ℕ) → List ℕ → List Mark → S → Type 0
Waits d s number place [] text marks t = (text ≡ []) × (marks ≡ []) × (t ≡ s)
Waits d s number place (line ∷ lines) text marks t = (first : List ℕ) × (u : _) × (rest : List ℕ) × (others : List Mark)
    × HasPlace number line × d.Knows s line × d.Replied s number line first u
    × Waits d u (number + 1) (place + length first) lines rest others t
    × (text ≡ first ++ rest) × (marks ≡ marked number (place + length first) first others)

-- the line with this number is known and answered, and its text waits behind what waited
abbrev pub AddsAnswer : {S : Type 0} → Dialogue S → S → ℕ → List ℕ → List ℕ → List Mark → List ℕ → List Mark → S → Type 0
AddsAnswer d s number line text marks later more t = (first : List ℕ) × d.Knows s line × d.Replied s number line first t
    × (later ≡ text ++ first) × (more ≡ marks ++ marked number (length later) first [])

-- Of what waited the writer took so many octets. The fault is at the line of the first that it did not take, or where it took all, of
-- the last.
abbrev pub IsCut : List ℕ → List Mark → Fault → Option (List ℕ) → Option (List ℕ) → Type 0
IsCut text marks fault held now = (taken place : ℕ) × Appends held now (take taken text) × (place ≤ taken) × (taken ≤ place + 1)
    × (place < length text) × (fault.line ≡ line_of marks place) × (fault.kind ≡ kind.Write) × (taken < length text → place ≡ taken)

-- where the octets that a reader has left are known, it lost these lines
abbrev pub TakesLines : List (List ℕ) → Option (List ℕ) → Option (List ℕ) → Type 0
TakesLines lines None new = Unit {0}
TakesLines lines (Some xs) None = ⊥
TakesLines lines (Some xs) (Some ys) = lines_of xs ≡ lines ++ lines_of ys

-- the octets begin with these whole lines, which end at this place
abbrev pub BeginsWith : List ℕ → ℕ → List (List ℕ) → Type 0
BeginsWith octets at lines = (more : List ℕ) → lines_of (octets ++ more) ≡ lines ++ lines_of (drop at octets ++ more)

-- why no more lines are obeyed at the state u: this line, the first one of the octets, has this fault
abbrev pub StopsSo : {S : Type 0} → Dialogue S → S → ℕ → List ℕ → List ℕ → Option FaultKind → S → Type 0
StopsSo d u number octets line None t = t ≡ u
StopsSo d u number octets line (Some w) t = IsOneOf w (kind.Line ∷ kind.Memory ∷ []) × HasPlace number line
    × ((more : List ℕ) → (rest : List (List ℕ)) × (lines_of (octets ++ more) ≡ line ∷ rest))
    × (w ≡ kind.Line → d.Knows u line → ⊥) × (w ≡ kind.Memory → d.Knows u line)

-- the front of the octets was obeyed, and its text waits; a line that ended it is left
pub record IsFront {S : Type 0} (d : Dialogue S) (s : S) (first : ℕ) (octets text : List ℕ) (marks : List Mark) (line : List ℕ)
    (front : Front) (t : S) : Type 0 where
  pub lines : List (List ℕ)
  pub reached : S
  pub whole : BeginsWith octets front.used lines
  pub within : front.used ≤ length octets
  pub waits : Waits d s first 0 lines text marks reached
  pub next : front.next ≡ first + length lines
  pub count : front.next ≤ most_lines + 1
  pub stops : StopsSo d reached front.next (drop front.used octets) line front.fault t

-- lines, of which the first has this number, were taken and answered, and n is the number behind them
abbrev pub AreObeyed : {S : Type 0} → Dialogue S → S → ℕ → ℕ
    → Option (List ℕ) → Option (List ℕ) → Option (List ℕ) → Option (List ℕ) → S → Type 0
AreObeyed d s first n left rest held now t = (lines : List (List ℕ)) × (text : List ℕ) × TakesLines lines left rest
    × Replies d s first lines text t
    × (n ≡ first + length lines) × Appends held now text

-- a line was read and answered, or none was left
abbrev pub Turned : {S : Type 0} → Dialogue S → Bool → ℕ
    → Option (List ℕ) → Option (List ℕ) → Option (List ℕ) → Option (List ℕ) → S → S → Type 0
Turned d true number left rest held now s t = AreObeyed d s number (number + 1) left rest held now t
Turned d false number left rest held now s t = (line : List ℕ) × TakesLine false line left rest × Keeps held now × (t ≡ s)

-- all lines are answered, which came to t, and what is held grew by the answers; behind them the next number is n
abbrev pub AllAnswered : {S : Type 0} → Dialogue S → S → List (List ℕ) → Option (List ℕ) → Option (List ℕ) → S → ℕ → Type 0
AllAnswered d start lines held now t n = (text : List ℕ) × Replies d start 1 lines text t × (n ≡ length lines + 1) × Appends held now text
