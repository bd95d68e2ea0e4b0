-- When the two ends of a wire agree, by the logs of the workers that serve them.
use Rattle.std.specs.Prelude.{◌≡◌, ◌≢◌, ◌⊎◌, ◌↔◌, ℕ, Bool, true, IsTrue, List, [], ◌∷◌, ◌++◌, Option, None, Some, if◌then◌else◌}
use Rattle.sr_frame.specs.declared.fields.Mac.{Mac}
use Rattle.sr_frame.specs.Addresses.{mac_eq}
use Rattle.sr_forwarding.specs.Parcels.{ParcelImage}
use Rattle.sr_forwarding.specs.Framings.{FramingImage}
use Rattle.sr_forwarding.specs.Headers.{header_of}
use Rattle.sr_forwarding.specs.Encoding.{IsWritten, write_fault}
use Rattle.sr_node.specs.declared.event.Event.{Event}
use Rattle.sr_node.specs.declared.event.Event.TheVariants.{Arrive, Send, Tick, Take}
use Rattle.sr_node.specs.declared.event.Answer.{Answer}
use Rattle.sr_workers.specs.Work.{parcels_in}

-- a parcel is from a source; where none is asked for, each is
abbrev pub is_from : Option Mac → ParcelImage → Bool
is_from None p = true
is_from (Some mac) p = mac_eq (header_of p).src mac

-- the octets that arrived from a source, in order
abbrev pub arrival_in : Option Mac → Event → List (List ℕ)
arrival_in source (Arrive port p now) = if is_from source p then p.octets ∷ [] else []
arrival_in source (Send frame now) = []
arrival_in source (Tick now) = []
arrival_in source (Take port) = []

abbrev pub arrivals_in : Option Mac → List (Event × Answer) → List (List ℕ)
arrivals_in source [] = []
arrivals_in source (x ∷ xs) = arrival_in source x.0 ++ arrivals_in source xs

-- of these parcels, those that the framing can write are written so, in order
pub data AreEncodings (f : FramingImage) : List ParcelImage → List (List ℕ) → Type 0 where
  nothing : AreEncodings f [] []
  unwritten : (p : ParcelImage) (ps : List ParcelImage) (os : List (List ℕ))
      → write_fault f p ≢ None → AreEncodings f ps os → AreEncodings f (p ∷ ps) os
  written : (p : ParcelImage) (octets : List ℕ) (ps : List ParcelImage) (os : List (List ℕ))
      → write_fault f p ≡ None → IsWritten f p.form p octets → AreEncodings f ps os → AreEncodings f (p ∷ ps) (octets ∷ os)

-- the one list is among the other, in its order: its first stands there and the others behind it, or all stand further behind
abbrev pub IsAmong : List (List ℕ) → List (List ℕ) → Type 0
IsAmong [] ys = Unit {0}
IsAmong (x ∷ xs) [] = ⊥
IsAmong (x ∷ xs) (y ∷ ys) = ((x ≡ y) × IsAmong xs ys) ⊎ IsAmong (x ∷ xs) ys

-- what arrived at one end is among the encodings of what was taken out at the other, or is not
pub record Agreement (f : FramingImage) (source : Option Mac) (arrivals takes : List (Event × Answer)) (b : Bool) : Type 0 where
  pub encodings : List (List ℕ)
  pub are : AreEncodings f (parcels_in takes) encodings
  pub agrees : IsTrue b ↔ IsAmong (arrivals_in source arrivals) encodings

-- parcels have one list of encodings
abbrev pub EncodingsAreUnique : Type 0
EncodingsAreUnique =
    (f : FramingImage) (ps : List ParcelImage) (a b : List (List ℕ)) → AreEncodings f ps a → AreEncodings f ps b → a ≡ b
