-- What a script hands out.
use Rattle.std.specs.Prelude.{◌≡◌, ◌≤◌, ◌⊎◌, ℕ, ◌+◌, ◌^◌, List, [], ◌∷◌, ◌++◌, length, take, drop}
use Rattle.sr_workers.specs.declared.script.Line.{Line}
use Rattle.sr_workers.specs.declared.script.Line.TheVariants as line
use Rattle.sr_workers.specs.declared.script.Script.{Script}
use Rattle.sr_workers.specs.Told.{Told, Framed, Timed}

-- what a line hands out
abbrev pub told_by : Line → List Told
told_by (line.Frame octets now) = Framed octets now ∷ []
told_by (line.Tick now) = Timed now ∷ []
told_by line.Idle = []

abbrev pub all_told : List Line → List Told
all_told [] = []
all_told (l ∷ ls) = told_by l ++ all_told ls

-- the first so many lines
abbrev pub told_to : ℕ → List Line → List Told
told_to n ls = all_told (take n ls)

-- what a script has handed out, what it has still to hand out, and what was put
abbrev pub has_told : Script → List Told
has_told s = told_to s.next s.lines.items

abbrev pub will_tell : Script → List Told
will_tell s = all_told (drop s.next s.lines.items)

abbrev pub was_given : Script → List (List ℕ)
was_given s = s.given.items

-- a script has nothing left to hand out: all its lines were handed out, or it has failed as often as can be counted
abbrev pub IsSpent : List Line → ℕ → ℕ → Type 0
IsSpent lines next failures = (length lines ≤ next) ⊎ (failures + 1 ≡ 2 ^ 64)

-- how many frames it was given and has not kept
abbrev pub has_lost : Script → ℕ
has_lost s = s.lost
