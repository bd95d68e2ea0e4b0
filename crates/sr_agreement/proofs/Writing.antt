-- What writing a parcel tells of its encoding.
use Rattle.std.proofs.Common.{◌≡◌, ◌≢◌, ℕ, List, [], ◌∷◌, ◌++◌, None, refl, sym, ap, ◌∙◌, subst}
use Rattle.std.specs.Prelude.{◌↔◌}
use Rattle.sr_forwarding.specs.declared.fault.ReadFault.{ReadFault}
use Rattle.sr_forwarding.specs.declared.fault.ReadFault.TheVariants.{NoMemory}
use Rattle.sr_forwarding.specs.Parcels.{ParcelImage}
use Rattle.sr_forwarding.specs.Framings.{FramingImage}
use Rattle.sr_forwarding.specs.Encoding.{IsWritten, write_fault, Appends}
use Rattle.sr_node.specs.declared.event.Answer.{Answer}
use Rattle.sr_workers.specs.Work.{parcel_in}
use Rattle.sr_agreement.specs.Progress.{IsEncodingOf}

-- a parcel was written into an empty list
pub encoded : (f : FramingImage) (a : Answer) (p q : ParcelImage) (old new : List ℕ) → parcel_in a ≡ p ∷ [] → q ≡ p → old ≡ [] → write_fault f q ≡ None → Appends f q old new → IsEncodingOf f a new
encoded f a p q old new taken view none can appended =
    let appends : Appends f p old new = subst (λ x. Appends f x old new) view appended in
    let same : new ≡ appends.written = appends.appended ∙ ap (λ l. l ++ appends.written) none in
    record {
      parcel = p;
      taken = taken;
      can = sym (ap (λ x. write_fault f x) view) ∙ can;
      written = subst (λ x. IsWritten f p.form p x) (sym same) appends.is_written;
    }

-- a parcel that was refused, and not for a failed allocation, can't be written
pub unwritable : (f : FramingImage) (p q : ParcelImage) (e : ReadFault) → q ≡ p → ((e ≡ NoMemory) ↔ (write_fault f q ≡ None)) → e ≢ NoMemory → write_fault f p ≢ None
unwritable f p q e view exact other none = other (exact.1 (ap (λ x. write_fault f x) view ∙ none))
