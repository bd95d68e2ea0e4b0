-- Octets that a reader loses, where they are known.
use Rattle.std.specs.Prelude.{◌≡◌, ℕ, ◌<◌, ◌≤◌, List, [], ◌++◌, length, Option, Some, None, Bool, true, false}

-- the known octets were these, and then those that are left
abbrev pub Loses : List ℕ → Option (List ℕ) → Option (List ℕ) → Type 0
Loses octets None new = Unit {0}
Loses octets (Some xs) None = ⊥
Loses octets (Some xs) (Some ys) = xs ≡ octets ++ ys

-- fewer octets than these were lost
abbrev pub LosesBelow : ℕ → List ℕ → Option (List ℕ) → Option (List ℕ) → Type 0
LosesBelow count octets old new = Loses octets old new × (length octets < count)

-- none is left of the known octets
abbrev pub LeavesNone : Option (List ℕ) → Option (List ℕ) → Type 0
LeavesNone None new = Unit {0}
LeavesNone (Some xs) None = ⊥
LeavesNone (Some xs) (Some ys) = ys ≡ []

-- octets were taken behind those that were held
abbrev pub Gathers : List ℕ → List ℕ → Option (List ℕ) → Option (List ℕ) → Type 0
Gathers held kept old new = (more : List ℕ) × (kept ≡ held ++ more) × Loses more old new

-- octets were taken behind those that were held, till they were so many; or fewer, and then none is left
abbrev pub Fills : Bool → ℕ → List ℕ → List ℕ → Option (List ℕ) → Option (List ℕ) → Type 0
Fills true count held kept old new = Gathers held kept old new × (length kept ≡ count)
Fills false count held kept old new = Gathers held kept old new × (length kept < count) × LeavesNone old new

-- octets were taken behind those that were held, and are fewer
abbrev pub FillsBelow : ℕ → List ℕ → List ℕ → Option (List ℕ) → Option (List ℕ) → Type 0
FillsBelow count held kept old new = Gathers held kept old new × (length kept < count)

-- at least one octet and at most so many; or none, and then none is left
abbrev pub HasSome : Bool → ℕ → ℕ → Option (List ℕ) → Option (List ℕ) → Type 0
HasSome true room taken old new = (0 < taken) × (taken ≤ room)
HasSome false room taken old new = (taken ≡ 0) × LeavesNone old new

-- so many octets were lost; or fewer, and then none is left
abbrev pub TakesAll : Bool → ℕ → List ℕ → Option (List ℕ) → Option (List ℕ) → Type 0
TakesAll true count octets old new = Loses octets old new × (length octets ≡ count)
TakesAll false count octets old new = Loses octets old new × (length octets < count) × LeavesNone old new

-- at most so many were passed over; none only where none is left
abbrev pub SkipsSome : ℕ → ℕ → Option (List ℕ) → Option (List ℕ) → Type 0
SkipsSome room taken old new = (taken ≤ room) × (taken ≡ 0 → LeavesNone old new)

-- so many were passed over; or fewer, and then none is left
abbrev pub Skips : ℕ → ℕ → Option (List ℕ) → Option (List ℕ) → Type 0
Skips count taken old new = (taken ≤ count) × (taken < count → LeavesNone old new)
