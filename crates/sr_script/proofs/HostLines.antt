-- What a port's framing writes is what goes out there.
use Rattle.std.proofs.Common.{◌≡◌, ℕ, List, subst}
use Rattle.sr_frame.specs.declared.ports.Port.{Port}
use Rattle.sr_forwarding.specs.Encoding.{IsWritten}
use Rattle.sr_forwarding.specs.Framings.{FramingImage}
use Rattle.sr_forwarding.specs.Kinds.{carriage}
use Rattle.sr_forwarding.specs.Parcels.{ParcelImage}
use Rattle.sr_forwarding.specs.declared.kind.RoleKind.{RoleKind}
use Rattle.sr_script.specs.Texts.{GoesAs}

pub goes_as_carried : (role : RoleKind) (port : Port) (p : ParcelImage) (octets : List ℕ) (f : FramingImage)
    → f ≡ carriage role port → IsWritten f p.form p octets → GoesAs role port p octets
goes_as_carried role port p octets f is written = subst (λ (g : FramingImage). IsWritten g p.form p octets) is written
