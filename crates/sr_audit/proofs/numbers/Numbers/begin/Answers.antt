use Rattle.std.proofs.Common.{arith, refl, ap, ◌∙◌}
use Rattle.sr_dup_window.specs.LaneSets.{only}
use Rattle.sr_dup_window.specs.Windows.{window_begun}
use Rattle.sr_audit.proofs.FollowLemmas.{begun_follows}
use Rattle.sr_audit.proofs.numbers.Numbers.begin.Goals as goal

pub returns : goal.returns
returns c = begun_follows c.args.x _ _ (omega arith) refl
    (c.begin.ensures.value ∙ ap (window_begun 1024 c.args.x.seq.0) (c.only.ensures ∙ ap only c.lane.ensures)) refl c.with.ensures
