use Rattle.sr_sources.proofs.SourceLemmas.{shows_events}
use Rattle.sr_sources.proofs.laws.sources_show_events.Goals as goal

pub returns : goal.returns
returns c = shows_events
