use Rattle.std.proofs.Common.{rules, refl}
use Rattle.sr_lines.proofs.Spread.{took_as}
use Rattle.sr_lines.proofs.lan.Lan.read.Goals as goal

pub returns-in-Some-clause-handed : goal.returns-in-Some-clause-handed
returns-in-Some-clause-handed g c = (refl, took_as _ c.in-Some.frame _ _ _ _ _ (search rules) c.in-Some.ensures.taken)
