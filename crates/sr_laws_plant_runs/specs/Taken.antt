-- Runs of a plant in which what its nodes handed up is taken away after each event.
use Rattle.std.specs.Prelude.{◌≡◌, true, List, [], ◌∷◌, ◌++◌, length, map, replicate, None}
use Rattle.sr_forwarding.specs.Parcels.{ParcelImage}
use Rattle.sr_node.specs.Starts.{Start, begun_as}
use Rattle.sr_plant.specs.declared.topology.Topology.{Topology}
use Rattle.sr_plant.specs.Building.{is_plant, opening}
use Rattle.sr_plant.specs.Plants.{Plant}
use Rattle.sr_plant.specs.Steps.{PlantStep, plant_refusal}
use Rattle.sr_laws_plant_runs.specs.PlantRuns.{Turn, PlantRun}
use Rattle.sr_laws_plant_runs.specs.Histories.{Zip}

abbrev pub taken_away : Plant → Plant
taken_away s = record s { handed = replicate (length s.handed) [] }

-- what was handed up so far, and what was handed up now
abbrev pub joined_up : List (List ParcelImage) → List (List ParcelImage) → List (List ParcelImage)
joined_up [] hs = []
joined_up (u ∷ us) [] = u ∷ us
joined_up (u ∷ us) (h ∷ hs) = (u ++ h) ∷ joined_up us hs

-- the plant after the last event, before anything is taken away, and all that was ever handed up
abbrev pub TakenRun : Topology → List Start → List Turn → Plant → List (List ParcelImage) → Type 0
TakenRun t starts [] s ups = (is_plant t (map begun_as starts) ≡ true) × (s ≡ opening t (map begun_as starts)) × (ups ≡ s.handed)
TakenRun t starts (turn ∷ before) s ups =
    (v : Plant) × (all : List (List ParcelImage)) × TakenRun t starts before v all × (turn.before ≡ taken_away v)
    × (plant_refusal turn.before turn.event ≡ None) × PlantStep turn.before turn.event s × (ups ≡ joined_up all s.handed)

-- It is a run of the plant that keeps all that was handed up, with the same events.
abbrev pub TakenRunsAreRuns : Type 0
TakenRunsAreRuns =
    (t : Topology) (starts : List Start) (turns : List Turn) (s : Plant) (ups : List (List ParcelImage)) → TakenRun t starts turns s ups →
    (kept : List Turn) × Zip (λ a b. a.event ≡ b.event) turns kept × PlantRun t starts kept (record s { handed = ups })
