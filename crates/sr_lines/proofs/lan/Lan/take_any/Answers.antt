use Rattle.std.proofs.Common.{sym, ◌∙◌}
use Rattle.std.proofs.lemmas.List.{length-map}
use Rattle.sr_lines.proofs.Spread.{took_round}
use Rattle.sr_lines.proofs.lan.Lan.take_any.Goals as goal

pub returns-in-None-clause-taken : goal.returns-in-None-clause-taken
returns-in-None-clause-taken g c =
    let count = c.len-count.ensures ∙ c.args.self.now.ends.ok.0 ∙ sym (length-map c.args.self.now.ends.items (λ e. e.take.frames)) in
    took_round c.take_between-in-None.result c.args.self.now.turn c.len-count.result _ _ _ _ _ _ (sym count) c.in-None.ensures.taken.1 c.in-None.ensures.taken.0 c.in-None.ensures.seen c.take_between-in-None.ensures.taken
