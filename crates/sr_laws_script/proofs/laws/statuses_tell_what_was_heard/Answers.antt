use Rattle.sr_laws_script.proofs.StatusLemmas.{statuses_tell}
use Rattle.sr_laws_script.proofs.laws.statuses_tell_what_was_heard.Goals as goal

pub returns : goal.returns
returns c = statuses_tell c.what_waits_can_be_taken.ensures.nodes c.status_is_of_what_was_heard.ensures.tells
