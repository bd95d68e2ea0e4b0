use Rattle.sr_script.proofs.Arrivals.{sends}
use Rattle.sr_script.proofs.reading.sending_at.Goals as goal

pub returns : goal.returns
returns c role = sends role c.args.text.now c.in_ok-behind_send.field-0.now _ c.in_ok-line.line c.in_ok-behind_send.ensures.found c.in_ok-line.ensures
