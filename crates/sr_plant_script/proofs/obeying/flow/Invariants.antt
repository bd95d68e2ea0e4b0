use Rattle.std.proofs.Common.{◌≡◌, ◌++◌, ℕ, List}
use Rattle.sr_plant_script.specs.Happenings.{Carries}
use Rattle.sr_plant_script.proofs.obeying.flow.Given as goal

-- so many carries so far, and their lines
abbrev pub invariant-loop-carries : goal.invariant-loop-carries
invariant-loop-carries l = (ups : List ℕ) × Carries l.fn.network l.carries ups l.network × (l.text ≡ l.fn.text ++ ups)
