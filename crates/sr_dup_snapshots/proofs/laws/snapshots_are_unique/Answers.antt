use Rattle.std.proofs.Common.{sym, ap, ◌∙◌}
use Rattle.sr_dup_table.specs.Widths.{numbers_in}
use Rattle.sr_dup_snapshots.specs.Snapshots.{spelling}
use Rattle.sr_dup_snapshots.proofs.OrderLemmas.{same-order}
use Rattle.sr_dup_snapshots.proofs.laws.snapshots_are_unique.Goals as goal

pub returns : goal.returns
returns c width octets others s t one two same =
    one.spelled
    ∙ ap (spelling (numbers_in width)) (same-order one.ordered two.ordered one.ascending two.ascending (λ src. sym (one.same src) ∙ same src ∙ two.same src))
    ∙ sym two.spelled
