use Rattle.std.proofs.Common.{rules}
use Rattle.sr_slots.proofs.cell.Cell.clear_below.Goals as goal

pub returns-clause-kept : goal.returns-clause-kept
returns-clause-kept g c = search rules

pub returns-clause-gone : goal.returns-clause-gone
returns-clause-gone g c = search rules
