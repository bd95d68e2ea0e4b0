use Rattle.std.proofs.Common.{◌≡◌, drop}
use Rattle.sr_plant.specs.Images.{states_of}
use Rattle.sr_plant.specs.Coupled.{box_place}
use Rattle.sr_plant.proofs.coupled.box_place.Given as goal

-- what is left to look at says the place
abbrev pub invariant-loop-place : goal.invariant-loop-place
invariant-loop-place g l =
    box_place l.sought l.from 0 (states_of g.R.Role.meaning l.nodes)
    ≡ box_place l.sought l.from l.place (drop l.place (states_of g.R.Role.meaning l.nodes))
