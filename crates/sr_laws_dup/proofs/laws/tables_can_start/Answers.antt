use Rattle.sr_laws_dup.proofs.laws.tables_can_start.Goals as goal

pub returns : goal.returns
returns c = λ from top at. record {
  keys = c.tables_are_sound.ensures.0.unique;
  each = λ src h found. let choice = at src h found in record {
    whole = c.tables_are_sound.ensures.1 src h found;
    reference = choice.0;
    time = choice.1;
  };
}
