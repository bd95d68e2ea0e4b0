-- What an answer says of a payload.
use Rattle.std.specs.Prelude.{List, ℕ, Result, Ok, Err}
use Rattle.sr_supervision.specs.declared.fault.SupFault.{SupFault}
use Rattle.sr_supervision.specs.declared.fault.SupFault.TheVariants.{NotSupervision, Version, FirstTlv, Truncated}
use Rattle.sr_supervision.specs.declared.message.Supervision.{Supervision}
use Rattle.sr_supervision.specs.Supervised.{Says, HasOtherVersion, HasOtherHead, HasOtherFirst, IsCutShort, EndsEarly}

-- why there is no first TLV
abbrev pub FirstRefused : List ℕ → SupFault → Type 0
FirstRefused octets NotSupervision = ⊥
FirstRefused octets Version = ⊥
FirstRefused octets FirstTlv = HasOtherHead octets
FirstRefused octets Truncated = IsCutShort octets

-- what the answer to a supervision frame with this payload means
abbrev pub Means : List ℕ → Result Supervision SupFault → Type 0
Means payload (Ok s) = Says payload s
Means payload (Err NotSupervision) = ⊥
Means payload (Err Version) = HasOtherVersion payload
Means payload (Err FirstTlv) = HasOtherFirst payload
Means payload (Err Truncated) = EndsEarly payload
