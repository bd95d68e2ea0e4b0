-- Which of three moments is the earliest.
use Rattle.std.specs.Prelude.{◌≡◌, ℕ, ◌<◌, ◌≤◌, Option, Some, None}
use Rattle.sr_capture_script.specs.declared.choice.Inlet.{Inlet}
use Rattle.sr_capture_script.specs.declared.choice.Inlet.TheVariants.{A, B, C}

-- the other moment, if there is one, is not earlier
abbrev pub NotBefore : Option ℕ → ℕ → Type 0
NotBefore None moment = Unit {0}
NotBefore (Some other) moment = moment ≤ other

-- the other moment, if there is one, is later
abbrev pub IsAfter : Option ℕ → ℕ → Type 0
IsAfter None moment = Unit {0}
IsAfter (Some other) moment = moment < other

-- there is no moment
abbrev pub NoneDue : Option ℕ → Option ℕ → Option ℕ → Type 0
NoneDue a b c = (a ≡ None) × (b ≡ None) × (c ≡ None)

-- this moment of this inlet is the earliest; of equal ones A goes before B, and B before C
abbrev pub IsEarliest : Inlet → ℕ → Option ℕ → Option ℕ → Option ℕ → Type 0
IsEarliest A moment a b c = (a ≡ Some moment) × NotBefore b moment × NotBefore c moment
IsEarliest B moment a b c = (b ≡ Some moment) × IsAfter a moment × NotBefore c moment
IsEarliest C moment a b c = (c ≡ Some moment) × IsAfter a moment × IsAfter b moment
