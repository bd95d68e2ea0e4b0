-- The verdict of a page.
use Rattle.std.specs.Prelude.{ℕ, ◌==◌, if◌then◌else◌}
use Rattle.sr_page.specs.declared.outcome.Outcome.{Outcome}
use Rattle.sr_page.specs.declared.outcome.Outcome.TheVariants.{Pass, Fail, Open}

-- by the exit status of a check: 0 where no figure tells of a fault, 3 where one does, and another where nothing can be judged
abbrev pub outcome_by : ℕ → Outcome
outcome_by status = if status == 0 then Pass else (if status == 3 then Fail else Open)
