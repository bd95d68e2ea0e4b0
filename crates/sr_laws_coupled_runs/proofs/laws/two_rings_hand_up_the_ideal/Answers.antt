use Rattle.sr_laws_coupled_runs.proofs.CoupledLemmas.{two_rings_told}
use Rattle.sr_laws_coupled_runs.proofs.laws.two_rings_hand_up_the_ideal.Goals as goal

pub returns : goal.returns
returns c = two_rings_told c.two_rings_hand_up_the_ideal.ensures c.members_are_steady.ensures c.two_rings_lose_nothing.ensures
