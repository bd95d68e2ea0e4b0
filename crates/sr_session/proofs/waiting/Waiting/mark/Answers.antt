use Rattle.std.proofs.Common.{◌≡◌, ◌++◌, ◌<◌, [], ℕ, List, length, drop, sym, ap, ◌∙◌, arith}
use Rattle.std.proofs.lemmas.List.{length-drop}
use Rattle.sr_session.specs.declared.waiting.Mark.{Mark}
use Rattle.sr_session.specs.Turns.{marked}
use Rattle.sr_session.proofs.WaitingTexts.{marked_there}
use Rattle.sr_session.proofs.waiting.Waiting.mark.Goals as goal

pub returns-in-Ok-clause-marks : goal.returns-in-Ok-clause-marks
returns-in-Ok-clause-marks c =
    let text = c.args.self.now.text in
    let marks = c.args.self.now.marks.items in
    let here = drop c.args.start text in
    let some : 0 < length here = omega (arith, length-drop c.args.start text) in
    let end : c.len-end.result ≡ length text = omega arith in
    c.in-Ok.ensures.items
    ∙ ap (λ (l : List Mark). marks ++ l) (sym (marked_there c.args.line c.len-end.result here some))
    ∙ ap (λ (n : ℕ). marks ++ marked c.args.line n here []) end
