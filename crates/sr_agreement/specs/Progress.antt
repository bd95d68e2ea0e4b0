-- What one answer tells of the octets that are looked for.
use Rattle.std.specs.Prelude.{◌≡◌, ◌≢◌, ℕ, List, [], ◌∷◌, None}
use Rattle.sr_forwarding.specs.Parcels.{ParcelImage}
use Rattle.sr_forwarding.specs.Framings.{FramingImage}
use Rattle.sr_forwarding.specs.Encoding.{IsWritten, write_fault}
use Rattle.sr_node.specs.declared.event.Answer.{Answer}
use Rattle.sr_workers.specs.Work.{parcel_in}

-- it hands out a parcel that is written so
pub record IsEncodingOf (f : FramingImage) (a : Answer) (octets : List ℕ) : Type 0 where
  pub parcel : ParcelImage
  pub taken : parcel_in a ≡ parcel ∷ []
  pub can : write_fault f parcel ≡ None
  pub written : IsWritten f parcel.form parcel octets

-- it hands out nothing that has an encoding
pub data HasNoEncoding (f : FramingImage) (a : Answer) : Type 0 where
  empty : parcel_in a ≡ [] → HasNoEncoding f a
  bare : (p : ParcelImage) → parcel_in a ≡ p ∷ [] → write_fault f p ≢ None → HasNoEncoding f a

-- of the octets that are looked for, the first were found, or none
pub data Progress (f : FramingImage) (a : Answer) (xs ys : List (List ℕ)) : Type 0 where
  silent : HasNoEncoding f a → ys ≡ xs → Progress f a xs ys
  same : (octets : List ℕ) → IsEncodingOf f a octets → xs ≡ octets ∷ ys → Progress f a xs ys
  other : (octets : List ℕ) → IsEncodingOf f a octets → ((zs : List (List ℕ)) → xs ≢ octets ∷ zs) → ys ≡ xs → Progress f a xs ys
