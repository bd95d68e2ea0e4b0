use Rattle.std.proofs.Common.{◌∙◌}
use Rattle.sr_dup_window.proofs.SameLemmas.{same-as-shown}
use Rattle.sr_dup_window.proofs.record.Record.is_same.Goals as goal

pub returns : goal.returns
returns g c = c.eq.ensures ∙ same-as-shown c.args.self.now c.args.other.now
