-- The first sources that something is told of, and how many more there are.
use Rattle.std.specs.Prelude.{ℕ, Bool, not, Option, None, Some, is_some, if◌then◌else◌}
use Rattle.sr_frame.specs.declared.fields.Mac.{Mac}
use Rattle.sr_audit.specs.Shown.{bounded_sum}
use Rattle.sr_verdict.specs.declared.names.Names.{Names}

abbrev pub no_names : Names
no_names = record { first = None; second = None; third = None; more = 0 }

-- with one more: it takes the first of three places that is free, or is counted
abbrev pub names_with : Mac → Names → Names
names_with mac n =
    if not (is_some n.first) then record n { first = Some mac }
    else if not (is_some n.second) then record n { second = Some mac }
    else if not (is_some n.third) then record n { third = Some mac }
    else record n { more = bounded_sum n.more 1 }
