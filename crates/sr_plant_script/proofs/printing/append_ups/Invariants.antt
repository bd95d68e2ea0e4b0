use Rattle.std.proofs.Common.{◌≡◌, ◌++◌, take}
use Rattle.sr_plant_script.specs.Texts.{up_lines}
use Rattle.sr_plant_script.proofs.printing.append_ups.Given as goal

-- the lines of those that were passed
abbrev pub invariant-loop-parcel : goal.invariant-loop-parcel
invariant-loop-parcel l = l.text ≡ l.fn.text ++ up_lines l.node (take l.parcel-index l.parcels)
