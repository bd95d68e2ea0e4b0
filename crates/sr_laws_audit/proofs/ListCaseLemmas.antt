-- The lines of a list of copies, worked out.
use Rattle.std.proofs.Common.{refl}
use Rattle.sr_laws_audit.specs.ListCases.{ListsAsWorkedOut}

pub worked_out : ListsAsWorkedOut
worked_out = record { lines = refl; with_repeat = refl; with_late_one = refl; of_other = refl; before_first = refl }
