-- Octets from the front of a list as a number.
use Rattle.std.proofs.Common.{◌≡◌, ℕ, ◌≤◌, List, ◌++◌, length, take, drop, sym, ap, ◌∙◌, arith, inl, inr}
use Rattle.std.specs.Int.{w16, to_be_bytes, from_be_bytes}
use Rattle.std.proofs.lemmas.Bool.{cases_lt}
use Rattle.std.proofs.lemmas.List.{take-append-drop, length-take, get_or-take, get_or_past}
use Rattle.std.proofs.lemmas.Nat.{be_bytes_2}
use Rattle.sr_frame.specs.Frame.{AreOctets}

pub AreOctets-take : (n : ℕ) (octets : List ℕ) → AreOctets octets → AreOctets (take n octets)
AreOctets-take n octets h i =
    elim (cases_lt i n) [
      | inl lt ↦ rw (get_or-take n octets i 0 lt) (h i)
      | inr le ↦ rw (get_or_past (take n octets) i 0 (omega (arith, length-take n octets))) (omega arith)
    ]

-- two octets and the rest, by the number that the two spell
pub number_parts : (octets : List ℕ) (n : ℕ) → AreOctets octets → 2 ≤ length octets → n ≡ from_be_bytes w16 (take 2 octets) →
    octets ≡ to_be_bytes w16 n ++ drop 2 octets
number_parts octets n fits long n_is =
    let front : to_be_bytes w16 n ≡ take 2 octets = be_bytes_2 (take 2 octets) n (omega (arith, length-take 2 octets))
    (AreOctets-take 2 octets fits) n_is in
    sym (ap (λ (t : List ℕ). t ++ drop 2 octets) front ∙ take-append-drop 2 octets)
