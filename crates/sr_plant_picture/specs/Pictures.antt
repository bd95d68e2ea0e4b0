-- What comes of a script whose run is drawn.
use Rattle.std.specs.Prelude.{◌≡◌, []}
use Rattle.sr_session.specs.Runs.{Dialogue}
use Rattle.sr_plant_script.specs.Commands.{IsPlantLine}

-- the lines are those of scripts of plants; nothing is printed for a line, and at the end comes a picture, whichever
abbrev pub picture_dialogue : Dialogue (Unit {0})
picture_dialogue = record {
  Knows = λ s line. IsPlantLine line;
  Replied = λ s number line text t. text ≡ [];
  Ends = λ s text. Unit {0};
}
