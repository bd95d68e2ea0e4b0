use Rattle.std.proofs.Common.{eqb-true, sym, refl, [], ◌∙◌, arith, rules}
use Rattle.std.proofs.lemmas.Grind.{common_steps}
use Rattle.std.proofs.lemmas.List.{append-nil}
use Rattle.sr_session.proofs.Pieces.{at_end}
use Rattle.sr_session.proofs.lines.take_piece.Goals as goal

pub returns-then-is_empty-clause-taken : goal.returns-then-is_empty-clause-taken
returns-then-is_empty-clause-taken g c =
    let ended = at_end _ _ _ c.fill_buf.follows.holds-at-none.0 c.in-Ok.ensures.end (eqb-true _ 0 (sym c.is_empty.ensures ∙ c.if-is_empty.true)) in
    ([], sym (append-nil c.args.line.now.items), tt, ended.0, refl, ended.1)

pub unwrap-requires-in-None : goal.unwrap-requires-in-None
unwrap-requires-in-None g c = search rules

pub returns-in-Some-clause-taken : goal.returns-in-Some-clause-taken
returns-in-Some-clause-taken g c = grind (arith, common_steps)

pub returns-in-None-clause-taken : goal.returns-in-None-clause-taken
returns-in-None-clause-taken g c = grind (arith, common_steps)
