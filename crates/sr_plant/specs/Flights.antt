-- The copies in flight as they are kept: each parcel once, the copies as places among the parcels, and for each link how many are on it.
use Rattle.std.specs.Prelude.{◌≡◌, ◌≢◌, ℕ, ◌+◌, ◌<◌, ◌==◌, Bool, if◌then◌else◌, List, [], ◌∷◌, map, length}
use Rattle.std.specs.Prelude.{slice_index_or, Option, None, Some, IsSome, option_to_list}
use Rattle.std.specs.List.{list_any}
use Rattle.slab.specs.Slab.{Slab, get}
use Rattle.sr_forwarding.specs.Parcels.{ParcelImage, plain_parcel}
use Rattle.sr_laws_plant.specs.Ledger.{Hop as Step}
use Rattle.sr_laws_plant.specs.Lists.{how_many}
use Rattle.sr_plant.specs.declared.hop.Hop.{Hop}
use Rattle.sr_plant.specs.declared.flight.parcels.Kept.{Kept}
use Rattle.sr_plant.specs.declared.flight.copies.Flying.{Flying}
use Rattle.sr_plant.specs.Copies.{Copy}

-- How many copies in flight a parcel has.
abbrev pub copies_of : Option Kept → ℕ
copies_of None = 0
copies_of (Some k) = k.copies

abbrev pub parcel_of : Option Kept → ParcelImage
parcel_of None = plain_parcel [] None
parcel_of (Some k) = k.parcel

-- The copy has its parcel at this place.
abbrev pub is_of : ℕ → Flying → Bool
is_of key f = f.key == key

-- The count that is kept with each parcel is the number of its copies in flight.
abbrev pub AreCounted : Slab Kept → List Flying → Type 0
AreCounted kept fs = (key : ℕ) → how_many (is_of key) fs ≡ copies_of (get kept key)

-- Each parcel that is kept has a copy in flight, the one at this place excepted.
abbrev pub AreUsedBut : ℕ → Slab Kept → Type 0
AreUsedBut place kept = (key : ℕ) → key ≢ place → IsSome (get kept key) → 0 < copies_of (get kept key)

-- Each parcel that is kept has a copy in flight: no parcel is kept longer than its last copy.
abbrev pub AreUsed : Slab Kept → Type 0
AreUsed kept = (key : ℕ) → IsSome (get kept key) → 0 < copies_of (get kept key)

-- A hop as the laws of networks have it: where it leads, and its links.
abbrev pub hop_of : Hop → Step
hop_of h = record { to = record { node = h.node; port = h.port }; links = h.first ∷ option_to_list h.second }

abbrev pub copy_in : Slab Kept → Flying → Copy
copy_in kept f = record { hop = hop_of f.hop; from = f.from; outlet = f.outlet; parcel = parcel_of (get kept f.key) }

-- The copies in flight as data.
abbrev pub copies_in : Slab Kept → List Flying → List Copy
copies_in kept fs = map (copy_in kept) fs

-- A hop goes over this link.
abbrev pub goes_over : ℕ → Hop → Bool
goes_over link h = list_any (λ l. l == link) (hop_of h).links

-- The copy is on this link, as `is_on` says it of copies as data.
abbrev pub is_over : ℕ → Flying → Bool
is_over link f = goes_over link f.hop

-- The count that is kept for each link is the number of copies in flight that are on it.
abbrev pub AreOnLinks : List ℕ → List Flying → Type 0
AreOnLinks counts fs = (link : ℕ) → link < length counts → how_many (is_over link) fs ≡ slice_index_or counts link 0

-- Of two lists of counts, one for each link, the second has one more on the links that pass the test, and as many on the others.
pub record IsOneMore (over : ℕ → Bool) (fewer more : List ℕ) : Type 0 where
  pub len : length more ≡ length fewer
  pub each : (link : ℕ) → link < length fewer
      → slice_index_or more link 0 ≡ (if over link then slice_index_or fewer link 0 + 1 else slice_index_or fewer link 0)

-- What clauses see of the queue of copies: the copies in their order, and for how many more there is room.
pub record QueueValue : Type 0 where
  pub items : List Flying
  pub room : ℕ
