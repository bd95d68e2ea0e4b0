-- Addresses: when two are one, and how one is shown.
use Rattle.std.specs.Prelude.{ℕ, ◌+◌, ◌/◌, ◌%◌, Bool, nat_eq, nat_lt, List, [], ◌∷◌, ◌++◌, if◌then◌else◌}
use Rattle.std.specs.List.{flat_map}
use Rattle.std.specs.Cmp.Lexicographic.{pointwise}
use Rattle.sr_frame.specs.declared.fields.Mac.{Mac}

-- whether two addresses are one: their octets are the same
abbrev pub mac_eq : Mac → Mac → Bool
mac_eq x y = pointwise nat_eq x.0 y.0

-- a hexadecimal digit, in lower case
abbrev pub digit_of : ℕ → ℕ
digit_of value = if nat_lt value 10 then 48 + value else 87 + value

-- the two digits of an octet
abbrev pub pair_of : ℕ → List ℕ
pair_of octet = digit_of (octet / 16) ∷ digit_of (octet % 16) ∷ []

-- the pairs of some octets, joined by colons
abbrev pub pairs_of : List ℕ → List ℕ
pairs_of [] = []
pairs_of (octet ∷ octets) = pair_of octet ++ flat_map (λ o. 58 ∷ pair_of o) octets
