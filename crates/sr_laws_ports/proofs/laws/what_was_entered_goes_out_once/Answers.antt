use Rattle.sr_laws_ports.proofs.TurnLemmas.{entered_once, entered_once_in_all}
use Rattle.sr_laws_ports.proofs.laws.what_was_entered_goes_out_once.Goals as goal

pub returns-clause-one : goal.returns-clause-one
returns-clause-one c = entered_once c.each_frame_goes_out_once.ensures.once

pub returns-clause-all : goal.returns-clause-all
returns-clause-all c = entered_once_in_all c.each_frame_goes_out_once.ensures.once
