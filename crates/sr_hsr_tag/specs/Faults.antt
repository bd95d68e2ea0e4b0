-- A fault of reading a tag, among the faults of taking it out.
use Rattle.sr_hsr_tag.specs.declared.fault.TagFault.{TagFault}
use Rattle.sr_hsr_tag.specs.declared.fault.TagFault.TheVariants as tag
use Rattle.sr_hsr_tag.specs.declared.fault.UntagFault.{UntagFault}
use Rattle.sr_hsr_tag.specs.declared.fault.UntagFault.TheVariants as untag

abbrev pub untag_fault_of : TagFault → UntagFault
untag_fault_of tag.NotTagged = untag.NotTagged
untag_fault_of tag.Truncated = untag.Truncated
