-- What is left to be found among the encodings of what is left to be seen.
use Rattle.std.proofs.Common.{◌≡◌, ◌≢◌, ℕ, Bool, true, false, List, [], ◌∷◌, ◌++◌, Option, Some, None, refl, sym, ap, ◌∙◌, subst, rules, inl, inr, ◌⊎◌}
use Rattle.std.specs.Prelude.{◌↔◌, IsTrue}
use Rattle.sr_frame.specs.declared.fields.Mac.{Mac}
use Rattle.sr_forwarding.specs.Parcels.{ParcelImage}
use Rattle.sr_forwarding.specs.Framings.{FramingImage}
use Rattle.sr_forwarding.specs.Encoding.{IsWritten, write_fault}
use Rattle.sr_node.specs.declared.event.Event.{Event}
use Rattle.sr_node.specs.declared.event.Answer.{Answer}
use Rattle.sr_agreement.specs.Agreement.{Agreement, AreEncodings, IsAmong, arrivals_in}
use Rattle.sr_workers.specs.Work.{parcel_in, parcels_in}
use Rattle.sr_agreement.specs.Progress.{IsEncodingOf, HasNoEncoding, Progress, silent, same, other}
use Rattle.sr_agreement.proofs.Parts.{part_same, part_other, part_more}

-- the encodings of all that was taken, of which these octets are the last
pub record Found (f : FramingImage) (all : List ParcelImage) (sought xs os : List (List ℕ)) : Type 0 where
  pub encodings : List (List ℕ)
  pub written : AreEncodings f all encodings
  pub part : IsAmong sought encodings ↔ IsAmong xs os

abbrev pub Left : FramingImage → List ParcelImage → List (List ℕ) → List (Event × Answer) → List (List ℕ) → Type 0
Left f all sought rest xs = (os : List (List ℕ)) → AreEncodings f (parcels_in rest) os → Found f all sought xs os

pub left_all : (f : FramingImage) (sought : List (List ℕ)) (rest : List (Event × Answer)) → Left f (parcels_in rest) sought rest sought
left_all f sought rest os are = record { encodings = os; written = are; part = ((λ p. p), λ p. p) }

left_part : (f : FramingImage) (all : List ParcelImage) (sought xs ys os os' : List (List ℕ)) → (IsAmong xs os ↔ IsAmong ys os') → Found f all sought xs os → Found f all sought ys os'
left_part f all sought xs ys os os' alike found =
    record { encodings = found.encodings; written = found.written; part = ((λ p. alike.0 (found.part.0 p)), λ p. found.part.1 (alike.1 p)) }

seen : (f : FramingImage) (a : Answer) (rest : List (Event × Answer)) (ps : List ParcelImage) (os : List (List ℕ)) → parcel_in a ≡ ps → AreEncodings f (ps ++ parcels_in rest) os → AreEncodings f (parcel_in a ++ parcels_in rest) os
seen f a rest ps os is e = subst (λ x. AreEncodings f (x ++ parcels_in rest) os) (sym is) e

further : (xs : List (List ℕ)) (y : List ℕ) (ys : List (List ℕ)) → ((zs : List (List ℕ)) → xs ≢ y ∷ zs) → IsAmong xs (y ∷ ys) → IsAmong xs ys
further [] y ys differs p = tt
further (x ∷ xs) y ys differs p = part_other x y xs ys (λ is. differs xs (ap (λ z. z ∷ xs) is)) p

nearer : (xs : List (List ℕ)) (y : List ℕ) (ys : List (List ℕ)) → IsAmong xs ys → IsAmong xs (y ∷ ys)
nearer xs y ys p = part_more xs y ys p

at_end : (xs : List (List ℕ)) → xs ≡ [] → IsAmong xs []
at_end xs is = subst (λ z. IsAmong z []) (sym is) tt

no_more : (xs : List (List ℕ)) → IsAmong xs [] → xs ≡ []
no_more [] p = refl
no_more (x ∷ xs) p = absurd p

pub left_step : (f : FramingImage) (all : List ParcelImage) (sought : List (List ℕ)) (x : Event × Answer) (rest : List (Event × Answer)) (xs ys : List (List ℕ)) → Left f all sought (x ∷ rest) xs → Progress f x.1 xs ys → Left f all sought rest ys
left_step f all sought x rest xs ys left (silent (HasNoEncoding.empty nothing) is) = λ os e. left_part f all sought xs ys os os ((λ p. subst (λ z. IsAmong z os) (sym is) p), λ p. subst (λ z. IsAmong z os) is p) (left os (seen f x.1 rest [] os nothing e))
left_step f all sought x rest xs ys left (silent (HasNoEncoding.bare p was fault) is) =
    λ os e. left_part f all sought xs ys os os ((λ p. subst (λ z. IsAmong z os) (sym is) p), λ p. subst (λ z. IsAmong z os) is p) (left os (seen f x.1 rest (p ∷ []) os was (AreEncodings.unwritten p (parcels_in rest) os fault e)))
left_step f all sought x rest xs ys left (same octets enc is) =
    λ os e. left_part f all sought xs ys (octets ∷ os) os
    ((λ p. part_same octets octets ys os refl (subst (λ z. IsAmong z (octets ∷ os)) is p)), λ p. subst (λ z. IsAmong z (octets ∷ os)) (sym is) (inl (refl, p)))
    (left (octets ∷ os) (seen f x.1 rest (enc.parcel ∷ []) (octets ∷ os) enc.taken (AreEncodings.written enc.parcel octets (parcels_in rest) os enc.can enc.written e)))
left_step f all sought x rest xs ys left (other octets enc differs is) =
    λ os e. left_part f all sought xs ys (octets ∷ os) os
    ((λ p. subst (λ z. IsAmong z os) (sym is) (further xs octets os differs p)), λ p. nearer xs octets os (subst (λ z. IsAmong z os) is p))
    (left (octets ∷ os) (seen f x.1 rest (enc.parcel ∷ []) (octets ∷ os) enc.taken (AreEncodings.written enc.parcel octets (parcels_in rest) os enc.can enc.written e)))

-- at the end all were found, or not
pub left_none : (f : FramingImage) (source : Option Mac) (arrivals takes : List (Event × Answer)) (xs : List (List ℕ)) (b : Bool) → Left f (parcels_in takes) (arrivals_in source arrivals) [] xs → (IsTrue b ↔ (xs ≡ [])) → Agreement f source arrivals takes b
left_none f source arrivals takes xs b left is =
    let found = left [] AreEncodings.nothing in
    record {
      encodings = found.encodings;
      are = found.written;
      agrees = ((λ p. found.part.1 (at_end xs (is.0 p))), λ p. is.1 (no_more xs (found.part.0 p)));
    }
