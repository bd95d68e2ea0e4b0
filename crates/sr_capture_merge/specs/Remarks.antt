-- What is said of a packet by a comment.
use Rattle.std.specs.Prelude.{ℕ, List, [], ◌++◌, codes, Option, None, Some, if◌then◌else◌}
use Rattle.std.specs.Fmt.{decimal}
use Rattle.sr_audit.specs.declared.side.Side.{Side}
use Rattle.sr_audit.specs.declared.side.Side.TheVariants.{A, B}
use Rattle.sr_audit.specs.Lanes.{other_side}
use Rattle.sr_capture_audit.specs.declared.network.Network.{Network}
use Rattle.sr_capture_audit.specs.declared.network.Network.TheVariants.{Prp, Hsr}
use Rattle.sr_merge.specs.declared.came.FrameId.{FrameId}
use Rattle.sr_merge.specs.declared.waiting.Verdict.{Verdict}
use Rattle.sr_merge.specs.declared.waiting.Verdict.TheVariants.{Alone}
use Rattle.sr_merge.specs.Merging.{Read}

-- the word for a side of a network, and its letter
abbrev pub side_word : Network → List ℕ
side_word Prp = codes "LAN"
side_word Hsr = codes "port"

abbrev pub side_letter : Side → List ℕ
side_letter A = codes "A"
side_letter B = codes "B"

-- where a packet is found: its side and its number there, and the number of its frame
abbrev pub whereabouts : Side → ℕ → ℕ → List ℕ
whereabouts side number seq = codes "; packet " ++ side_letter side ++ codes " " ++ decimal number ++ codes ", number " ++ decimal seq

-- no copy of a frame came by the other side
abbrev pub alone_remark : Network → Side → ℕ → ℕ → List ℕ
alone_remark network side number seq = side_word network ++ codes " " ++ side_letter side ++ codes " alone: no copy by "
    ++ side_word network ++ codes " " ++ side_letter (other_side side) ++ whereabouts side number seq

-- the first copy of a frame has the trailer of the other LAN
abbrev pub astray_remark : Network → Side → ℕ → ℕ → List ℕ
astray_remark network side number seq = codes "by " ++ side_word network ++ codes " " ++ side_letter side ++ codes " with the id of "
    ++ side_word network ++ codes " " ++ side_letter (other_side side) ++ whereabouts side number seq

-- what is said of a frame: that it came alone, or else that its first copy has the other LAN's trailer
abbrev pub frame_remark : Network → Option Verdict → Read → FrameId → List ℕ
frame_remark network (Some Alone) p f = alone_remark network p.came.side p.number f.seq.0
frame_remark network verdict p f = if p.is_astray then astray_remark network p.came.side p.number f.seq.0 else []

-- what is said of a packet; nothing of one without a number
abbrev pub remark_by : Network → Option Verdict → Read → Option FrameId → List ℕ
remark_by network verdict p None = []
remark_by network verdict p (Some f) = frame_remark network verdict p f

abbrev pub remark_of : Network → Option Verdict → Read → List ℕ
remark_of network verdict p = remark_by network verdict p p.came.frame
