-- Copies of frames, between nodes.
use Rattle.std.specs.Prelude.{◌≡◌, ℕ, ◌==◌, Bool, false, List, [], ◌∷◌, ◌++◌, Some, slice_get, slice_index_or}
use Rattle.std.specs.List.{list_any}
use Rattle.sr_frame.specs.declared.ports.Port.{Port}
use Rattle.sr_forwarding.specs.Parcels.{ParcelImage}
use Rattle.sr_laws_plant.specs.Ledger.{Hop}

-- A copy in flight: where it leads and the links that it is on, the node and the outlet that put it out, and the parcel, whose octets are
-- those that the framing of this outlet writes.
pub record Copy : Type 0 where
  pub hop : Hop
  pub from : ℕ
  pub outlet : Port
  pub parcel : ParcelImage

-- The copy is on this link.
abbrev pub is_on : ℕ → Copy → Bool
is_on link c = list_any (λ l. l == link) c.hop.links

-- A link is cut, where the list says of each link whether it is.
abbrev pub is_cut : List Bool → ℕ → Bool
is_cut cut link = slice_index_or cut link false

-- The copy is on a link that is cut.
abbrev pub is_stopped : List Bool → Copy → Bool
is_stopped cut c = list_any (is_cut cut) c.hop.links

-- The copy at a place is doubled, and the double goes last.
abbrev pub Doubles : List Copy → ℕ → List Copy → Type 0
Doubles cs place ds = (c : Copy) × (slice_get cs place ≡ Some c) × (ds ≡ cs ++ c ∷ [])
