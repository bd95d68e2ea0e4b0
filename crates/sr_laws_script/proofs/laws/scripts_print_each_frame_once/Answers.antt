use Rattle.sr_laws_script.proofs.NodeLemmas.{scripts_print_each_once}
use Rattle.sr_laws_script.proofs.laws.scripts_print_each_frame_once.Goals as goal

pub returns : goal.returns
returns c =
    scripts_print_each_once c.what_waits_can_be_taken.ensures.outlets c.what_waits_can_be_taken.ensures.taken c.each_frame_goes_out_once.ensures.once
