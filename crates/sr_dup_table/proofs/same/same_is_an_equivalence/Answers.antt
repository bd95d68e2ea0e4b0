use Rattle.std.proofs.Common.{refl, sym, ◌∙◌}
use Rattle.sr_dup_table.proofs.same.same_is_an_equivalence.Goals as goal

pub returns : goal.returns
returns c = record {
  reflexive = λ s src. refl;
  symmetric = λ s t same src. sym (same src);
  transitive = λ s t u first second src. first src ∙ second src;
}
