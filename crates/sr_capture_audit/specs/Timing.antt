-- Times of B by the clock of A.
use Rattle.std.specs.Prelude.{◌≡◌, ℕ, List, map, Option, None, Some}
use Rattle.std.specs.List.{FoldsTo}
use Rattle.sr_clocks.specs.declared.line.Line.{Line}
use Rattle.sr_clocks.specs.Lines.{corrected}
use Rattle.sr_capture_script.specs.declared.choice.Inlet.{Inlet}
use Rattle.sr_capture_script.specs.declared.choice.Inlet.TheVariants.{A, B, C}
use Rattle.sr_capture_script.specs.declared.choice.Choice.{Choice}
use Rattle.sr_capture_script.specs.Coming.{AllCame}
use Rattle.sr_capture_script.specs.Items.{Item}
use Rattle.sr_capture_script.specs.Merging.{Feed}
use Rattle.sr_capture_script.specs.Passing.{Handed, wanted}
use Rattle.sr_capture_audit.specs.declared.timing.Timed.{Timed}

-- a time at an inlet: that of B put right by a line, if there is one
abbrev pub time_by : Option Line → Inlet → ℕ → ℕ
time_by (Some clock) B time = corrected clock time
time_by (Some clock) A time = time
time_by (Some clock) C time = time
time_by None inlet time = time

-- a packet at that time, and packets
abbrev pub put_right : Option Line → Handed → Handed
put_right clock x = record x { time = time_by clock x.inlet x.time }

abbrev pub all_put_right : Option Line → List Handed → List Handed
all_put_right clock xs = map (put_right clock) xs

-- a pass took a packet at the time by the clock of A
pub record TakesTimed {P : Type 0} (takes : P → Handed → P → Type 0) (x : Handed) (old new : Timed P) : Type 0 where
  pub clock : new.clock ≡ old.clock
  pub taken : takes old.pass (put_right old.clock x) new.pass

-- a pass took each packet of three files that is wanted, once, in order of time, at its time by the clock of A
pub record TakesAllTimed {P : Type 0} (takes : P → Handed → P → Type 0) (clock : Option Line) (choice : Choice) (x y z : Feed) (old new : P)
    : Type 0 where
  pub merged : List Item
  pub came : AllCame x y z merged
  pub taken : FoldsTo takes old (all_put_right clock (wanted choice merged)) new
