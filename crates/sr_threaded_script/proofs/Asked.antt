-- What a line of a threaded script asks for is a command of a plant's.
use Rattle.std.proofs.Common.{◌≡◌, ℕ, List, [], Option, Some, None, refl}
use Rattle.sr_session.specs.declared.fault.FaultKind.{FaultKind}
use Rattle.sr_session.specs.declared.fault.FaultKind.TheVariants as kind
use Rattle.sr_plant_script.specs.declared.command.Receiver.{Receiver}
use Rattle.sr_plant_script.specs.declared.command.Command.{Command}
use Rattle.sr_plant_script.specs.declared.command.Command.TheVariants.{Skip, Send}
use Rattle.sr_plant_script.specs.Commands.{Says}
use Rattle.sr_threaded_script.specs.Lines.{Asks}

-- where such a line is refused, memory is the reason
pub known : (line : List ℕ) (fault : FaultKind) (asked : Option (ℕ × Receiver)) (os : List ℕ) → Asks line asked os
    → ((command : Command) (octets : List ℕ) → Says line command octets → fault ≡ kind.Memory) → fault ≡ kind.Memory
known line fault None os h only = only Skip [] (h, refl)
known line fault (Some parts) os h only = only (Send parts.0 parts.1) os h
