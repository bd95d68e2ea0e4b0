-- Three files, part of the way through their packets.
use Rattle.std.specs.Prelude.{◌≡◌, ℕ, List, Option}
use Rattle.std.specs.Io.KnownBytes.{Appends}
use Rattle.sr_capture_script.specs.declared.choice.Choice.{Choice}
use Rattle.sr_capture_script.specs.declared.choice.Inlet.TheVariants.{A, B, C}
use Rattle.sr_capture_script.specs.declared.merge.Clock.{Clock}
use Rattle.sr_capture_script.specs.declared.source.Source.{Source}
use Rattle.sr_capture_script.specs.Items.{Item, came_at, IsInOrder, AllToDue}
use Rattle.sr_capture_script.specs.SourceViews.{IsFed}
use Rattle.sr_capture_script.specs.Texts.{first_moment, last_line, lines_of}

-- some items are printed, in order, and none of them comes behind one that is due
pub record Going {R : Type 0} (remaining : R → Option (List ℕ)) (choice : Choice) (start_a start_b start_c : Option (List ℕ))
    (a b c : Source R)
    (clock : Clock) (held now : Option (List ℕ)) : Type 0 where
  pub out : List Item
  pub fed_a : IsFed remaining A start_a a (came_at A out)
  pub fed_b : IsFed remaining B start_b b (came_at B out)
  pub fed_c : IsFed remaining C start_c c (came_at C out)
  pub order : IsInOrder out
  pub to_a : AllToDue A a.due out
  pub to_b : AllToDue B b.due out
  pub to_c : AllToDue C c.due out
  pub base : clock.base ≡ first_moment out
  pub last : clock.last ≡ last_line choice out
  pub wrote : Appends held now (lines_of choice out)
