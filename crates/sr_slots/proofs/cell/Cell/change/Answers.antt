use Rattle.std.proofs.Common.{rules}
use Rattle.sr_slots.proofs.cell.Cell.change.Goals as goal

pub returns-clause-some : goal.returns-clause-some
returns-clause-some g c = (c.in_ok-value.value.now, c.change-answer.new.arg2, search rules, search rules, search rules)
