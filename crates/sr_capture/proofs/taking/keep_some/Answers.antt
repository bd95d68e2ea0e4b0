use Rattle.std.proofs.Common.{[], sym, refl, ◌∙◌, eqb-true}
use Rattle.std.proofs.lemmas.List.{append-nil}
use Rattle.sr_capture.specs.TakingLemmas.{at_end}
use Rattle.sr_capture.proofs.taking.keep_some.Goals as goal

pub returns-then-is_empty-clause-kept : goal.returns-then-is_empty-clause-kept
returns-then-is_empty-clause-kept g c =
    let ended = at_end _ _ _ c.fill_buf.follows.holds-at-none.0 c.in-Ok.ensures.end (eqb-true _ 0 (sym c.is_empty.ensures ∙ c.if-is_empty.true)) in
    ([], sym (append-nil c.args.kept.now.items), ended.0, (refl, ended.1))
