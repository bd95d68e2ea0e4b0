-- What a line of a script of events at a node asks for.
use Rattle.std.specs.Prelude.{◌≡◌, true, ℕ, ◌<◌, ◌^◌, List, [], ◌∷◌, codes, ◌⊎◌}
use Rattle.std.specs.Fmt.{decimal}
use Rattle.sr_frame.specs.declared.ports.Port.{Port}
use Rattle.sr_frame.specs.declared.ports.Port.TheVariants.{H, A, B, C}
use Rattle.sr_forwarding.specs.declared.kind.RoleKind.{RoleKind}
use Rattle.sr_script.specs.declared.reading.Command.{Command}
use Rattle.sr_script.specs.declared.reading.Command.TheVariants.{Skip, Arrive, Send, Tick}
use Rattle.sr_forwarding.specs.Kinds.{has_interlink}
use Rattle.sr_session.specs.Octets.{spaced}
use Rattle.sr_words.specs.Words.{IsHex, IsComment}

-- the letter of a port, as a word
abbrev pub letter_of : Port → List ℕ
letter_of H = codes "H"
letter_of A = codes "A"
letter_of B = codes "B"
letter_of C = codes "C"

-- frames come in there, at a node of this role
abbrev pub IsInlet : RoleKind → Port → Type 0
IsInlet r H = ⊥
IsInlet r A = Unit {0}
IsInlet r B = Unit {0}
IsInlet r C = has_interlink r ≡ true

-- time passes
abbrev pub IsTick : List ℕ → ℕ → Type 0
IsTick line time = (line ≡ spaced (codes "tick" ∷ decimal time ∷ [])) × (time < 2 ^ 64)

-- at a node of this role the line asks for this, with these octets
abbrev pub Says : RoleKind → List ℕ → Command → List ℕ → Type 0
Says r line Skip octets = ((line ≡ []) ⊎ IsComment line) × (octets ≡ [])
Says r line (Arrive port time) octets = (digits : List ℕ)
    × (line ≡ spaced (codes "in" ∷ letter_of port ∷ decimal time ∷ digits ∷ []))
    × IsInlet r port × (time < 2 ^ 64) × IsHex digits octets
Says r line (Send time) octets = (digits : List ℕ) × (line ≡ spaced (codes "send" ∷ decimal time ∷ digits ∷ []))
    × (time < 2 ^ 64) × IsHex digits octets
Says r line (Tick time) octets = IsTick line time × (octets ≡ [])

-- the line is one of a script of events at a node of this role
abbrev pub IsEventLine : RoleKind → List ℕ → Type 0
IsEventLine r line = (command : Command) × (octets : List ℕ) × Says r line command octets

-- a time, and then octets
abbrev pub IsTimed : List ℕ → ℕ → List ℕ → Type 0
IsTimed text time octets = (digits : List ℕ) × (text ≡ spaced (decimal time ∷ digits ∷ [])) × (time < 2 ^ 64) × IsHex digits octets

-- the words behind `in`: a port where frames come in, a time, and then octets
abbrev pub IsArrival : RoleKind → List ℕ → Command → List ℕ → Type 0
IsArrival r text Skip octets = ⊥
IsArrival r text (Arrive port time) octets = (digits : List ℕ) × (text ≡ spaced (letter_of port ∷ decimal time ∷ digits ∷ []))
    × IsInlet r port × (time < 2 ^ 64) × IsHex digits octets
IsArrival r text (Send time) octets = ⊥
IsArrival r text (Tick time) octets = ⊥

-- the words behind `send`
abbrev pub IsSending : List ℕ → Command → List ℕ → Type 0
IsSending text Skip octets = ⊥
IsSending text (Arrive port time) octets = ⊥
IsSending text (Send time) octets = IsTimed text time octets
IsSending text (Tick time) octets = ⊥
