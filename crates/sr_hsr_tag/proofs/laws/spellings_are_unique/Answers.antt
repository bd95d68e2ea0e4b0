use Rattle.sr_hsr_tag.specs.TagLemmas.{tagged_spelled_once}
use Rattle.sr_hsr_tag.proofs.laws.spellings_are_unique.Goals as goal

pub returns : goal.returns
returns c = tagged_spelled_once
