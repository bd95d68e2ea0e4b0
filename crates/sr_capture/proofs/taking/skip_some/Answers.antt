use Rattle.std.proofs.Common.{[], sym, refl, ◌∙◌, eqb-true, arith}
use Rattle.sr_capture.specs.TakingLemmas.{at_end}
use Rattle.sr_capture.proofs.taking.skip_some.Goals as goal

pub returns-then-is_empty-clause-some : goal.returns-then-is_empty-clause-some
returns-then-is_empty-clause-some g c =
    let ended = at_end _ _ _ c.fill_buf.follows.holds-at-none.0 c.in-Ok.ensures.end (eqb-true _ 0 (sym c.is_empty.ensures ∙ c.if-is_empty.true)) in
    ([], refl, ended.0, (omega arith, λ _. ended.1))
