use Rattle.sr_laws_coupled_runs.proofs.CoupledLemmas.{ring_lans_told}
use Rattle.sr_laws_coupled_runs.proofs.laws.ring_lans_hand_up_the_ideal.Goals as goal

pub returns : goal.returns
returns c =
    ring_lans_told c.ring_lan_hands_up_the_ideal.ensures c.members_are_steady.ensures c.ring_lan_loses_nothing.ensures
    c.whole_chains_bring_frames.ensures c.no_frame_goes_back.ensures
