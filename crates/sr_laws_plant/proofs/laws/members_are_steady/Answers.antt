use Rattle.sr_laws_plant.proofs.SteadyLemmas.{members_are_steady}
use Rattle.sr_laws_plant.proofs.laws.members_are_steady.Goals as goal

pub returns : goal.returns
returns c = members_are_steady
