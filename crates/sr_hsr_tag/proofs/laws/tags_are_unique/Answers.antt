use Rattle.sr_hsr_tag.specs.TagLemmas.{tagged_once}
use Rattle.sr_hsr_tag.proofs.laws.tags_are_unique.Goals as goal

pub returns : goal.returns
returns c = tagged_once
