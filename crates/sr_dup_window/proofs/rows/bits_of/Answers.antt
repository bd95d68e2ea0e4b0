use Rattle.std.proofs.Common.{refl, ◌-◌}
use Rattle.sr_dup_window.proofs.WordLemmas.{pair_bits}
use Rattle.sr_dup_window.proofs.rows.bits_of.Goals as goal

pub returns-clause-value : goal.returns-clause-value
returns-clause-value c = pair_bits c.args.first c.args.second (63 - c.args.bit) c.args.bit c.requires refl
