use Rattle.sr_slots.proofs.IndexLemmas.{found_at}
use Rattle.sr_slots.proofs.places.sought.Goals as goal

pub returns-clause-at : goal.returns-clause-at
returns-clause-at g c = found_at c.args.key c.args.map.now.entries c.get_index_of.result c.get_index_of.ensures.index c.get_index_of.ensures.value c.get_index_of.ensures.found
