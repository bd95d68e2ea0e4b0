use Rattle.sr_laws_coupled_runs.proofs.NoneBackLemmas.{none_goes_back_into}
use Rattle.sr_laws_coupled_runs.proofs.laws.no_frame_goes_back_into_a_lan.Goals as goal

pub returns : goal.returns
returns c = none_goes_back_into
