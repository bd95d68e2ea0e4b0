-- What a line of a script for a plant asks for.
use Rattle.std.specs.Prelude.{◌≡◌, ℕ, ◌<◌, ◌^◌, List, [], ◌∷◌, codes, ◌⊎◌}
use Rattle.std.specs.Fmt.{decimal}
use Rattle.sr_session.specs.Octets.{spaced}
use Rattle.sr_words.specs.Words.{IsComment, IsHex}
use Rattle.sr_plant_script.specs.declared.command.Receiver.{Receiver}
use Rattle.sr_plant_script.specs.declared.command.Receiver.TheVariants.{All, Node}
use Rattle.sr_plant_script.specs.declared.command.Verb.{Verb}
use Rattle.sr_plant_script.specs.declared.command.Verb.TheVariants.{Carry, Drop, Repeat, Cut, Mend}
use Rattle.sr_plant_script.specs.declared.command.Command.{Command}
use Rattle.sr_plant_script.specs.declared.command.Command.TheVariants.{Skip, Send, On, Tick, Flow}

-- what is done to a copy or a link, as a word
abbrev pub word_of : Verb → List ℕ
word_of Carry = codes "carry"
word_of Drop = codes "drop"
word_of Repeat = codes "repeat"
word_of Cut = codes "cut"
word_of Mend = codes "mend"

-- the word names this receiver: all, or a node by its number
abbrev pub IsReceiver : List ℕ → Receiver → Type 0
IsReceiver word All = word ≡ codes "all"
IsReceiver word (Node node) = (word ≡ decimal node) × (node < 2 ^ 64)

-- this is done at this place
abbrev pub IsPlaced : List ℕ → Verb → ℕ → Type 0
IsPlaced line verb place = (line ≡ spaced (word_of verb ∷ decimal place ∷ [])) × (place < 2 ^ 64)

-- two numbers
abbrev pub AreNumbers : List ℕ → ℕ → ℕ → Type 0
AreNumbers text first second = (text ≡ spaced (decimal first ∷ decimal second ∷ [])) × (first < 2 ^ 64) × (second < 2 ^ 64)

-- time passes for a node
abbrev pub IsTick : List ℕ → ℕ → ℕ → Type 0
IsTick line node time = (line ≡ spaced (codes "tick" ∷ decimal node ∷ decimal time ∷ [])) × (node < 2 ^ 64) × (time < 2 ^ 64)

-- the words behind `send`: a sender, a receiver, and then octets
abbrev pub IsSending : List ℕ → ℕ → Receiver → List ℕ → Type 0
IsSending text node receiver octets = (word digits : List ℕ) × (text ≡ spaced (decimal node ∷ word ∷ digits ∷ []))
    × (node < 2 ^ 64) × IsReceiver word receiver × IsHex digits octets

-- the line asks for this, with these octets
abbrev pub Says : List ℕ → Command → List ℕ → Type 0
Says line Skip octets = ((line ≡ []) ⊎ IsComment line) × (octets ≡ [])
Says line (Send node receiver) octets = (word digits : List ℕ)
    × (line ≡ spaced (codes "send" ∷ decimal node ∷ word ∷ digits ∷ []))
    × (node < 2 ^ 64) × IsReceiver word receiver × IsHex digits octets
Says line (On verb place) octets = IsPlaced line verb place × (octets ≡ [])
Says line (Tick node time) octets = IsTick line node time × (octets ≡ [])
Says line Flow octets = (line ≡ codes "flow") × (octets ≡ [])

-- the line asks that the host of a node sends
abbrev pub IsSendLine : List ℕ → Type 0
IsSendLine line = (node : ℕ) × (receiver : Receiver) × (octets : List ℕ) × Says line (Send node receiver) octets

-- the line is one of a script for a plant
abbrev pub IsPlantLine : List ℕ → Type 0
IsPlantLine line = (command : Command) × (octets : List ℕ) × Says line command octets
