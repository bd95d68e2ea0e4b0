-- Why a cable loses a frame that it is given.
use Rattle.std.specs.Prelude.{◌≡◌, ◌<◌, ◌⊎◌, ◌^◌, ◌-◌, ℕ, List, length}
use Rattle.sr_frame.specs.Frame.{least_len}
use Rattle.sr_forwarding.specs.Limits.{longest_frame}
use Rattle.sr_wires.specs.Wired.{WasFull}

-- Octets of no frame's length are lost, and a frame where the wire was full, by what was sent on it and by what was seen to be taken from
-- it, or where memory ran out and no failure more can be counted.
abbrev pub MayLose : List (List ℕ) → List (List ℕ) → List ℕ → ℕ → Type 0
MayLose sent seen octets failures =
    ((length octets < least_len octets) ⊎ (longest_frame < length octets)) ⊎ (WasFull sent seen ⊎ (failures ≡ 2 ^ 64 - 1))
