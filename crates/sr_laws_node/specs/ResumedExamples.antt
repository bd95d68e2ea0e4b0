-- A node that is resumed with one number of one source: within 400 ms that number is held back, and after that it is another frame's.
use Rattle.std.specs.Prelude.{◌≡◌, ℕ, ◌-◌, ◌≤◌, ◌<◌, ◌+◌, ℤ, ◌+ℤ◌, pos, true, false, [], ◌∷◌, filter}
use Rattle.sr_frame.specs.declared.fields.Mac.{Mac}
use Rattle.sr_frame.specs.declared.ports.Port.TheVariants.{H}
use Rattle.sr_frame.specs.Addresses.{mac_eq}
use Rattle.sr_sequence.specs.Numbers.{wire}
use Rattle.sr_dup_window.specs.declared.lane_sets.Lane.TheVariants as lane
use Rattle.sr_dup_window.specs.declared.lane_sets.Lanes.{Lanes}
use Rattle.sr_dup_window.specs.LaneSets as lanes
use Rattle.sr_dup_window.specs.LaneSets.{is_empty}
use Rattle.sr_dup_window.specs.Windows.{no_marks}
use Rattle.sr_dup_table.specs.declared.width.Width.{Width}
use Rattle.sr_dup_table.specs.Limits.{forget_time}
use Rattle.sr_dup_table.specs.Widths.{numbers_in}
use Rattle.sr_dup_table.specs.Sources.{Sources}
use Rattle.sr_forwarding.specs.declared.role_image.RoleImage.{RoleImage}
use Rattle.sr_forwarding.specs.Outlets.{has}
use Rattle.sr_node.specs.declared.mode.Mode.{Mode}
use Rattle.sr_laws_node.specs.Origins.{Origin, resumed, stands_before}
use Rattle.sr_laws_node.specs.NodeRuns.{Turn}
use Rattle.sr_laws_node.specs.Brought.{brings, went_after}
use Rattle.sr_laws_node.specs.SteadyNodes.{IsSteadyFrom}
use Rattle.sr_laws_node.specs.SteadyExamples.{ComesIn}

-- a table of one source that has one number, noted on these lanes, and was heard at this time
abbrev pub one_number : ℕ → Mac → ℤ → Lanes → ℕ → Sources
one_number w src n noted time =
    (src, record { seen = record { reference = wire n; marks = noted ∷ no_marks (w - 1) }; time = time }) ∷ []

-- a node that is resumed with it
abbrev pub resumed_with_one : RoleImage → Mode → Width → Mac → ℤ → Lanes → ℕ → Origin
resumed_with_one role mode width src n noted time =
    resumed role mode width (one_number (numbers_in width) src n noted time) (λ mac. n)

-- where the number is noted as handed up, a frame of it that comes in within 400 ms makes a steady run, and goes up to nobody
abbrev pub RepeatsAreHeldBack : Type 0
RepeatsAreHeldBack =
    (role : RoleImage) (mode : Mode) (width : Width) (src : Mac) (n : ℤ) (noted : Lanes) (time now : ℕ) (turn : Turn)
    → mac_eq role.mac src ≡ false → is_empty noted ≡ false → lanes.has noted lane.H ≡ true → now < time + forget_time
    → ComesIn src now n turn
    → IsSteadyFrom (resumed_with_one role mode width src n noted time) (turn ∷ [])
    × (went_after (stands_before (resumed_with_one role mode width src n noted time)) H (turn ∷ []) ≡ [])

-- one with the same 16 bits that comes in at 400 ms or later makes a steady run as another frame, and goes up where it is wanted there
abbrev pub LaterFramesGoUp : Type 0
LaterFramesGoUp =
    (role : RoleImage) (mode : Mode) (width : Width) (src : Mac) (n : ℤ) (noted : Lanes) (time now : ℕ) (turn : Turn)
    → mac_eq role.mac src ≡ false → is_empty noted ≡ false → time + forget_time ≤ now
    → ComesIn src now (n +ℤ pos 65536) turn
    → IsSteadyFrom (resumed_with_one role mode width src n noted time) (turn ∷ [])
    × (went_after (stands_before (resumed_with_one role mode width src n noted time)) H (turn ∷ [])
    ≡ filter (λ b. has b.wanted H) (brings [] turn))
