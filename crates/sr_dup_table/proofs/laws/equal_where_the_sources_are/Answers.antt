use Rattle.sr_dup_table.specs.EqualityLemmas.{Decides-same_sources}
use Rattle.sr_dup_table.proofs.laws.equal_where_the_sources_are.Goals as goal

pub returns : goal.returns
returns c = Decides-same_sources
