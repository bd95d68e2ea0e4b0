use Rattle.sr_laws_plant.proofs.RingLanLemmas.{ring_lan_loses_nothing}
use Rattle.sr_laws_plant.proofs.laws.ring_lan_loses_nothing.Goals as goal

pub returns : goal.returns
returns c = ring_lan_loses_nothing
