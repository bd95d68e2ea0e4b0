-- What a run of a script writes, and where it ends, whatever the lines are for.
use Rattle.std.specs.Prelude.{◌≡◌, ◌≢◌, ℕ, ◌+◌, ◌<◌, ◌≤◌, List, [], ◌∷◌, ◌++◌, length, Option, None, Some, IfSome, Result, Ok, Err, ◌⊎◌}
use Rattle.std.specs.Io.KnownBytes.{Appends, Keeps}
use Rattle.sr_session.specs.declared.fault.Fault.{Fault}
use Rattle.sr_session.specs.declared.fault.FaultKind.{FaultKind}
use Rattle.sr_session.specs.declared.fault.FaultKind.TheVariants as kind
use Rattle.sr_session.specs.Limits.{longest_line, most_lines}
use Rattle.sr_session.specs.Lines.{lines_of}
use Rattle.sr_session.specs.Octets.{Lacks}

-- What a session does, over its states: which lines it knows at a state; from a state, a line with this number may be answered with
-- this text, and leave a state; at a state, this may be printed at the end of the script.
pub record Dialogue (S : Type 0) : Type 1 where
  pub Knows : S → List ℕ → Type 0
  pub Replied : S → ℕ → List ℕ → List ℕ → S → Type 0
  pub Ends : S → List ℕ → Type 0

-- a line of a length and at a place that a script may have
pub record HasPlace (number : ℕ) (line : List ℕ) : Type 0 where
  pub count : number ≤ most_lines
  pub short : length line ≤ longest_line

-- the lines, of which the first has this number, are lines of a script; the session answers them with this text, and comes to t
abbrev pub Replies : {S : Type 0} → Dialogue S → S → ℕ → List (List ℕ) → List ℕ → S → Type 0
Replies d s number [] text t = (text ≡ []) × (t ≡ s)
Replies d s number (line ∷ lines) text t = (first : List ℕ) × (u : _) × (rest : List ℕ) × HasPlace number line
    × d.Replied s number line first u × Replies d u (number + 1) lines rest t × (text ≡ first ++ rest)

-- all lines are answered, which came to t, then the end is printed, and what is held grew by that
abbrev pub IsAnsweredTo : {S : Type 0} → Dialogue S → S → List (List ℕ) → Option (List ℕ) → Option (List ℕ) → S → Type 0
IsAnsweredTo d start lines held now t = (text last : List ℕ) × Replies d start 1 lines text t × d.Ends t last
    × Appends held now (text ++ last)

-- the same, whatever they came to
abbrev pub IsAnswered : {S : Type 0} → Dialogue S → S → List (List ℕ) → Option (List ℕ) → Option (List ℕ) → Type 0
IsAnswered {S} d start lines held now = (t : S) × IsAnsweredTo d start lines held now t

-- the lines, of which the first has this number, are answered, which came to t, and what is held grew by the answers
abbrev pub AreAnswered : {S : Type 0} → Dialogue S → S → ℕ → List (List ℕ) → Option (List ℕ) → Option (List ℕ) → S → Type 0
AreAnswered d start first lines held now t = (text : List ℕ) × Replies d start first lines text t × Appends held now text

-- of the first of the lines that are left, the reader gave no more octets than a line may have, and no end
abbrev pub IsWithinLine : List (List ℕ) → Option (List ℕ) → Type 0
IsWithinLine left None = ⊥
IsWithinLine left (Some rest) = (part : List ℕ) × (left ≡ lines_of (part ++ rest)) × Lacks 10 part × (length part ≤ longest_line)

-- the fault of the first of the lines that are left, at the state t, the reader having this left: where it is `read`, the line was
-- not read, and where it is `write` or `memory`, the line is none of those that are `line` or `long`
abbrev pub HasFault : {S : Type 0} → Dialogue S → S → ℕ → FaultKind → List (List ℕ) → Option (List ℕ) → Type 0
HasFault d t number kind.Line [] rest = ⊥
HasFault d t number kind.Line (line ∷ lines) rest = HasPlace number line × (d.Knows t line → ⊥)
HasFault d t number kind.Long [] rest = ⊥
HasFault d t number kind.Long (line ∷ lines) rest = (most_lines < number) ⊎ (longest_line < length line)
HasFault d t number kind.Read left rest = IsWithinLine left rest
HasFault d t number kind.Write [] rest = Unit {0}
HasFault d t number kind.Write (line ∷ lines) rest = HasPlace number line × d.Knows t line
HasFault d t number kind.Memory [] rest = Unit {0}
HasFault d t number kind.Memory (line ∷ lines) rest = HasPlace number line × d.Knows t line

-- an answer to the first of the lines that are left, or where none is left what is said at the end
abbrev pub IsNextText : {S : Type 0} → Dialogue S → S → ℕ → List (List ℕ) → List ℕ → Type 0
IsNextText d t number [] text = d.Ends t text
IsNextText d t number (line ∷ lines) text = (u : _) × d.Replied t number line text u

-- of the lines that were left the reader gave these, and it has the others left
abbrev pub AreGiven : List (List ℕ) → List (List ℕ) → Option (List ℕ) → Type 0
AreGiven lines left None = ⊥
AreGiven lines left (Some rest) = left ≡ lines ++ lines_of rest

-- the lines that were given, of which the first has this number, are answered without a text
abbrev pub AreSilent : {S : Type 0} → Dialogue S → S → ℕ → List (List ℕ) → Option (List ℕ) → Type 0
AreSilent {S} d s number left rest = (lines : List (List ℕ)) × (t : S) × AreGiven lines left rest × Replies d s number lines [] t

-- what is held grew by a front of the text that is next, and not by all of it
abbrev pub WritesPart : {S : Type 0} → Dialogue S → S → ℕ → List (List ℕ) → Option (List ℕ) → Option (List ℕ) → Type 0
WritesPart d t number left held now =
    (part behind : List ℕ) × Appends held now part × (behind ≢ []) × IsNextText d t number left (part ++ behind)

-- What is held grew by the whole text that is next, which is not empty, and was not passed on. Of the lines that the reader gave it is the
-- last that has a text.
abbrev pub WritesLast : {S : Type 0} → Dialogue S → S → ℕ → List (List ℕ)
    → Option (List ℕ) → Option (List ℕ) → Option (List ℕ) → Type 0
WritesLast d t number [] rest held now = (text : List ℕ) × Appends held now text × (text ≢ []) × d.Ends t text
WritesLast d t number (line ∷ lines) rest held now = (text : List ℕ) × (u : _) × Appends held now text × (text ≢ [])
    × d.Replied t number line text u × AreSilent d u (number + 1) lines rest

-- What is held stays. Where a write failed it grew by a part of what was to be written next; or by all of it, where all that waited was
-- taken, and the writer could not pass it on.
abbrev pub HeldSince : {S : Type 0} → Dialogue S → S → ℕ → FaultKind → List (List ℕ)
    → Option (List ℕ) → Option (List ℕ) → Option (List ℕ) → Type 0
HeldSince d t number kind.Line left rest held now = Keeps held now
HeldSince d t number kind.Long left rest held now = Keeps held now
HeldSince d t number kind.Read left rest held now = Keeps held now
HeldSince d t number kind.Write left rest held now = WritesPart d t number left held now ⊎ WritesLast d t number left rest held now
HeldSince d t number kind.Memory left rest held now = Keeps held now

-- A run over lines, of which the first has this number, came to the line of the fault: those before it are answered, and then nothing more
-- is written, but for text of that line where a write failed.
pub record EndsFrom {S : Type 0} (d : Dialogue S) (start : S) (first : ℕ) (lines : List (List ℕ)) (fault : Fault)
    (rest held now : Option (List ℕ)) : Type 0 where
  pub before : List (List ℕ)
  pub left : List (List ℕ)
  pub parted : lines ≡ before ++ left
  pub number : fault.line ≡ first + length before
  pub then_held : Option (List ℕ)
  pub reached : S
  pub answered : AreAnswered d start first before held then_held reached
  pub kept : HeldSince d reached fault.line fault.kind left rest then_held now
  pub reason : HasFault d reached fault.line fault.kind left rest

-- the same of a whole run, whose first line is line 1
abbrev pub EndsAt : {S : Type 0} → Dialogue S → S → List (List ℕ) → Fault
    → Option (List ℕ) → Option (List ℕ) → Option (List ℕ) → Type 0
EndsAt d start lines fault rest held now = EndsFrom d start 1 lines fault rest held now

-- an allocation failed before the first line was read
pub record IsNotBegun (fault : Fault) (left rest held now : Option (List ℕ)) : Type 0 where
  pub line : fault.line ≡ 1
  pub kind_is : fault.kind ≡ kind.Memory
  pub read : Keeps left rest
  pub written : Keeps held now

-- What comes of a run: the octets that the reader had left and has left, those that the writer held and holds, and the result. Where
-- it ends well, all lines are answered. Where it ends early, an allocation failed before the first line was read, or the lines before
-- that of the fault are answered, and that line has this fault.
abbrev pub Runs : {S : Type 0} → Dialogue S → S → Option (List ℕ) → Option (List ℕ) → Option (List ℕ) → Option (List ℕ)
    → Result (Unit {0}) Fault → Type 0
Runs d start left rest held now (Ok done) = IfSome left (λ input. IsAnswered d start (lines_of input) held now)
Runs d start left rest held now (Err fault) =
    IsNotBegun fault left rest held now ⊎ IfSome left (λ input. EndsAt d start (lines_of input) fault rest held now)
