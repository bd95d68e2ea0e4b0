-- Parcels have one list of encodings.
use Rattle.std.proofs.Common.{◌≡◌, ◌≢◌, ℕ, List, [], ◌∷◌, None, refl, ap, ◌∙◌}
use Rattle.sr_forwarding.specs.Parcels.{ParcelImage}
use Rattle.sr_forwarding.specs.Framings.{FramingImage}
use Rattle.sr_forwarding.specs.Encoding.{IsWritten}
use Rattle.sr_agreement.specs.Agreement.{AreEncodings}

-- a framing writes a parcel in one way at most
abbrev pub AreUnique : Type 0
AreUnique = (f : FramingImage) (p : ParcelImage) (a b : List ℕ) → IsWritten f p.form p a → IsWritten f p.form p b → a ≡ b

pub encodings_are_unique : AreUnique → (f : FramingImage) (ps : List ParcelImage) (a b : List (List ℕ)) → AreEncodings f ps a → AreEncodings f ps b → a ≡ b
encodings_are_unique unique f ps a b AreEncodings.nothing AreEncodings.nothing = refl
encodings_are_unique unique f ps a b (AreEncodings.unwritten p rest os bare e) (AreEncodings.unwritten q more xs bare' e') = encodings_are_unique unique f rest os xs e e'
encodings_are_unique unique f ps a b (AreEncodings.unwritten p rest os bare e) (AreEncodings.written q octets more xs can is e') = absurd (bare can)
encodings_are_unique unique f ps a b (AreEncodings.written p octets rest os can is e) (AreEncodings.unwritten q more xs bare e') = absurd (bare can)
encodings_are_unique unique f ps a b (AreEncodings.written p octets rest os can is e) (AreEncodings.written q others more xs can' is' e') =
    ap (λ x. x ∷ os) (unique f p octets others is is') ∙ ap (λ l. others ∷ l) (encodings_are_unique unique f rest os xs e e')
