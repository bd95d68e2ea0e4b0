-- The codes of faults (choice of this project).
use Rattle.std.specs.Prelude.{ℕ, List, codes}
use Rattle.sr_hsr_tag.specs.declared.fault.TagFault.{TagFault}
use Rattle.sr_hsr_tag.specs.declared.fault.TagFault.TheVariants as tag
use Rattle.sr_hsr_tag.specs.declared.fault.UntagFault.{UntagFault}
use Rattle.sr_hsr_tag.specs.declared.fault.UntagFault.TheVariants as untag

abbrev pub tag_code : TagFault → List ℕ
tag_code tag.NotTagged = codes "H1"
tag_code tag.Truncated = codes "H2"

abbrev pub untag_code : UntagFault → List ℕ
untag_code untag.NotTagged = codes "H1"
untag_code untag.Truncated = codes "H2"
untag_code untag.TooShort = codes "F1"
untag_code untag.NoMemory = codes "F3"
