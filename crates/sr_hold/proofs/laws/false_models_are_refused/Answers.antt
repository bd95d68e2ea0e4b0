use Rattle.sr_hold.proofs.CaseLemmas.{refused}
use Rattle.sr_hold.proofs.laws.false_models_are_refused.Goals as goal

pub returns : goal.returns
returns c = refused
