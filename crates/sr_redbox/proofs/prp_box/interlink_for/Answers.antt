use Rattle.std.proofs.Common.{arith, rules}
use Rattle.std.proofs.lemmas.Bool.Decides.{nat_tests}
use Rattle.sr_redbox.proofs.prp_box.interlink_for.Goals as goal

pub returns-then-header-number : goal.returns-then-header-number
returns-then-header-number c = search (rules, arith, nat_tests)
