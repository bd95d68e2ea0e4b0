-- What the octets of a file determine.
use Rattle.std.specs.Prelude.{◌≡◌, ℕ, List}
use Rattle.sr_capture.specs.Records.{Captured}
use Rattle.sr_pcapng.specs.declared.track.Track.{Track}
use Rattle.sr_pcapng.specs.Steps.{AreBlocks}

-- octets have one list of packets of the interface that is wanted
abbrev pub PacketsAreUnique : Type 0
PacketsAreUnique = (track : Track) (octets : List ℕ) (xs ys : List Captured) (s t : Track) → AreBlocks track octets xs s
    → AreBlocks track octets ys t → xs ≡ ys
