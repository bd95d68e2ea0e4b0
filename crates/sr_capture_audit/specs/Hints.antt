-- What looks wrong in the counts of captures as a whole.
use Rattle.std.specs.Prelude.{ℕ, ◌/◌, nat_lt, Bool, not, ◌&&◌, Option, None, Some, if◌then◌else◌}
use Rattle.sr_capture_audit.specs.declared.counts.SideCounts.{SideCounts}
use Rattle.sr_capture_audit.specs.declared.counts.Counts.{Counts}
use Rattle.sr_capture_audit.specs.declared.hints.Hint.{Hint}
use Rattle.sr_capture_audit.specs.declared.hints.Hint.TheVariants.{Checked, Tagged, Untagged, Cut}
use Rattle.sr_capture_audit.specs.declared.network.Network.{Network}
use Rattle.sr_capture_audit.specs.declared.network.Network.TheVariants.{Prp, Hsr}

-- frames are numbered, and more than half of them have the other LAN's id
abbrev pub is_swapped : SideCounts → Bool
is_swapped c = nat_lt 0 c.numbered && nat_lt (c.numbered / 2) c.wrong_lan

abbrev pub are_swapped : Counts → Bool
are_swapped c = is_swapped c.a && is_swapped c.b

-- no frame is numbered, but some are of such a kind
abbrev pub are_all_but : SideCounts → ℕ → Bool
are_all_but c others = not (nat_lt 0 c.numbered) && nat_lt 0 others

-- what looks wrong in the capture of a port of a ring: frames, and no tag
abbrev pub ring_hint : SideCounts → Option Hint
ring_hint c = if are_all_but c c.plain then Some (Untagged c.packets) else None

-- what looks wrong in a capture, if something does: tags, then check sequences, then cut packets
abbrev pub hint_of : Network → SideCounts → Option Hint
hint_of Hsr c = ring_hint c
hint_of Prp c = if are_all_but c c.tagged then Some (Tagged c.tagged)
    else if are_all_but c c.checked then Some (Checked c.packets c.checked)
    else if nat_lt 0 c.cut then Some (Cut c.cut) else None
