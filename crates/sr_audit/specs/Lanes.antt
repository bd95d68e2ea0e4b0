-- Sides, and the lanes of a duplicate record on which copies are noted.
use Rattle.sr_dup_window.specs.declared.lane_sets.Lane.{Lane}
use Rattle.sr_dup_window.specs.declared.lane_sets.Lane.TheVariants.{GotA, GotB}
use Rattle.sr_audit.specs.declared.side.Side.{Side}
use Rattle.sr_audit.specs.declared.side.Side.TheVariants.{A, B}

-- the lane on which a copy is noted that came in at a side
abbrev pub side_lane : Side → Lane
side_lane A = GotA
side_lane B = GotB

abbrev pub other_side : Side → Side
other_side A = B
other_side B = A
