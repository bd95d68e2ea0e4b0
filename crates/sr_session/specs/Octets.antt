-- Octets of a text.
use Rattle.std.specs.Prelude.{◌≡◌, ◌≢◌, ◌<◌, ◌+◌, ℕ, List, [], ◌∷◌, ◌++◌, length, take, Option, None, Some}
use Rattle.std.specs.List.{join_with_byte}

-- a text still begins with what it held
abbrev pub StillHolds : List ℕ → List ℕ → Type 0
StillHolds before after = (behind : List ℕ) × (after ≡ before ++ behind)

-- no octet is this one
abbrev pub Lacks : ℕ → List ℕ → Type 0
Lacks octet [] = Unit {0}
Lacks octet (b ∷ bs) = (b ≢ octet) × Lacks octet bs

-- the first place of this octet, if there is one
abbrev pub IsPlaceOf : ℕ → List ℕ → Option ℕ → Type 0
IsPlaceOf octet octets None = Lacks octet octets
IsPlaceOf octet octets (Some at) = Lacks octet (take at octets) × (take (at + 1) octets ≡ take at octets ++ octet ∷ [])
    × (at < length octets)

-- words with single spaces between them
abbrev pub spaced : List (List ℕ) → List ℕ
spaced words = join_with_byte 32 words
