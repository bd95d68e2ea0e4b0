-- What a line begins with.
use Rattle.std.specs.Prelude.{◌≡◌, ◌⊎◌, ℕ, List, [], ◌∷◌, ◌++◌}

-- octets begin so
abbrev pub BeginsBy : List ℕ → List ℕ → Type 0
BeginsBy front line = (rest : List ℕ) × (line ≡ front ++ rest)

-- pcap of either order of octets and either unit of time, or pcapng behind its first octet, which is an LF
abbrev pub BeginsAsCapture : List ℕ → Type 0
BeginsAsCapture line =
    BeginsBy (212 ∷ 195 ∷ 178 ∷ 161 ∷ []) line
    ⊎ (BeginsBy (161 ∷ 178 ∷ 195 ∷ 212 ∷ []) line
    ⊎ (BeginsBy (77 ∷ 60 ∷ 178 ∷ 161 ∷ []) line
    ⊎ (BeginsBy (161 ∷ 178 ∷ 60 ∷ 77 ∷ []) line
    ⊎ BeginsBy (13 ∷ 13 ∷ []) line)))
