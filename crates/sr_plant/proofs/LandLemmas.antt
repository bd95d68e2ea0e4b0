-- What becomes of a copy at its receiver.
use Rattle.std.proofs.Common.{◌≡◌, ℕ, true, false, List, Result, Ok, Err, IfOk, IfErr, inr, subst, sym}
use Rattle.sr_frame.specs.declared.ports.Port.{Port}
use Rattle.sr_node.specs.declared.fault.StepFault.{StepFault}
use Rattle.sr_node.specs.Images.{State}
use Rattle.sr_node.specs.Octets.{OctetsRefused}
use Rattle.sr_forwarding.specs.Framings.{FramingImage}
use Rattle.sr_plant.specs.declared.fault.PlantFault.{PlantFault}
use Rattle.sr_plant.specs.declared.fault.PlantFault.TheVariants.{Node}
use Rattle.sr_plant.specs.declared.arriving.Landing.{Landing}
use Rattle.sr_plant.specs.declared.arriving.Landing.TheVariants.{Lost}
use Rattle.sr_plant.specs.Steps.{is_loss}
use Rattle.sr_forwarding.specs.Parcels.{ParcelImage}
use Rattle.sr_plant.specs.Carrying.{Lands, FailsToLand}

-- a refusal that is no loss is the plant's
pub fails : (framing : FramingImage) (s : State) (port : Port) (octets : List ℕ) (now : ℕ) (fault : StepFault) (r : Result Landing PlantFault) →
    OctetsRefused framing s port octets now fault → IfErr r (λ f. (is_loss fault ≡ false) × (f ≡ Node fault)) →
    IfErr r (λ f. FailsToLand framing s port octets now f)
fails framing s port octets now fault (Ok l) refused told = told
fails framing s port octets now fault (Err f) refused told = inr (fault, refused, told.0, told.1)

-- of a refusal that is a loss nothing comes
pub loses : (framing : FramingImage) (s : State) (port : Port) (octets : List ℕ) (now : ℕ) (fault : StepFault) (r : Result Landing PlantFault)
    (before up_after : List ParcelImage) (u : State) →
    OctetsRefused framing s port octets now fault → u ≡ s → up_after ≡ before →
    IfOk r (λ l. (is_loss fault ≡ true) × (l ≡ Lost)) → IfOk r (λ l. Lands framing s port octets now l before up_after u)
loses framing s port octets now fault (Ok l) before up_after u refused same up told =
    subst (λ x. Lands framing s port octets now x before up_after u) (sym told.1)
    (record { fault = fault; refused = refused; loss = told.0; same = same; up = up })
loses framing s port octets now fault (Err f) before up_after u refused same up told = told
