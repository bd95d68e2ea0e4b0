use Rattle.sr_redbox.proofs.NetLemmas.{paths_name_nets, no_frame_goes_back}
use Rattle.sr_redbox.proofs.laws.no_frame_goes_back_into_its_network.Goals as goal

pub returns-clause-paths : goal.returns-clause-paths
returns-clause-paths c = paths_name_nets

pub returns-clause-routes : goal.returns-clause-routes
returns-clause-routes c = no_frame_goes_back
