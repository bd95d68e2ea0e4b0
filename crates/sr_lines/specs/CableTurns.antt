-- What a cable shows of a turn in which nothing came, and of a frame that was lost.
use Rattle.std.specs.Prelude.{◌≡◌, ℕ, List}
use Rattle.sr_wires.specs.Wired.{WasEmpty}
use Rattle.sr_workers.specs.declared.feed.Given.{Given}
use Rattle.sr_workers.specs.declared.feed.Given.TheVariants.{Lost}
use Rattle.sr_workers.specs.declared.feed.Turn.{Turn}
use Rattle.sr_workers.specs.declared.feed.Turn.TheVariants.{Idle}
use Rattle.sr_lines.specs.declared.cable.Cable.{Cable}
use Rattle.sr_lines.specs.Handed.{failed_by}
use Rattle.sr_lines.specs.Losing.{MayLose}

-- a cable has nothing to hand out only where it looked at its wire, and that was empty
abbrev pub AnswersAsItsWire : Cable → Turn → List ℕ → Cable → Type 0
AnswersAsItsWire before turn octets after = turn ≡ Idle → WasEmpty before.ends.take.frames before.ends.take.seen

-- a cable loses a frame only where it may
abbrev pub LosesFor : Cable → List ℕ → Given → Type 0
LosesFor before octets given = given ≡ Lost → MayLose before.ends.send.frames before.ends.send.seen octets (failed_by before)

abbrev pub TakesForItsWire : Cable → List ℕ → Given → Cable → Type 0
TakesForItsWire before octets given after = LosesFor before octets given
