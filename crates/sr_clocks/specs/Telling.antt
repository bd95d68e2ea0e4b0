-- What the frames that both recorders saw tell of their clocks.
use Rattle.std.specs.Prelude.{◌≡◌, ℕ, ◌/◌, ◌+◌, nat_eq, nat_lt, Bool, true, false, List}
use Rattle.sr_clocks.specs.declared.pair.Pair.{Pair}
use Rattle.sr_clocks.specs.declared.line.Line.{Line}
use Rattle.sr_clocks.specs.declared.window.Dense.{Dense}
use Rattle.sr_clocks.specs.declared.clocks.Clocks.{Clocks}
use Rattle.sr_clocks.specs.declared.clocks.Clocks.TheVariants.{Unknown, Two, One}
use Rattle.sr_clocks.specs.Lines.{IsClockLine}
use Rattle.sr_clocks.specs.Windows.{window_width, densest, near, far}

-- the densest window, and the densest of the frames that are far from it
abbrev pub best_of : List Pair → Dense
best_of ps = densest ps (window_width ps)

abbrev pub runner_up : List Pair → Dense
runner_up ps = densest (far ps (window_width ps) (best_of ps).from) (window_width ps)

-- another window holds more than half as many frames as the densest one
abbrev pub is_doubtful : List Pair → Bool
is_doubtful ps = nat_lt ((best_of ps).held / 2) (runner_up ps).held

abbrev pub AreClocksIf : Bool → Bool → List Pair → Clocks → Type 0
AreClocksIf true doubtful ps clocks = clocks ≡ Unknown
AreClocksIf false true ps clocks = clocks ≡ Two (best_of ps).held (runner_up ps).held
AreClocksIf false false ps clocks = (line : Line) × (clocks ≡ One line (best_of ps).held)
    × IsClockLine (near ps (window_width ps) (best_of ps).from) line

-- no frame tells of an offset, or frames tell of two, or of one and the line through them
abbrev pub AreClocks : List Pair → Clocks → Type 0
AreClocks ps clocks = AreClocksIf (nat_eq (best_of ps).held 0) (is_doubtful ps) ps clocks
