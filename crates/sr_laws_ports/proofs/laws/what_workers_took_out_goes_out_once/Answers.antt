use Rattle.sr_laws_ports.proofs.Logged.{logged_once}
use Rattle.sr_laws_ports.proofs.laws.what_workers_took_out_goes_out_once.Goals as goal

pub returns : goal.returns
returns c = logged_once c.a_take_alone_is_answered_taken.ensures c.what_was_entered_goes_out_once.ensures.one
