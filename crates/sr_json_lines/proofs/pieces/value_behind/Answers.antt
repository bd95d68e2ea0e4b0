use Rattle.std.proofs.Common.{◌++◌, ◌∷◌, sym, ◌∙◌, true≢false}
use Rattle.sr_json_lines.proofs.Labels.{seen_label}
use Rattle.sr_json_lines.proofs.pieces.value_behind.Goals as goal

pub returns-in_err-rest : goal.returns-in_err-rest
returns-in_err-rest c value rest lacks e =
    absurd (true≢false (sym (seen_label c.args.label.now c.args.text.now (value ++ 32 ∷ rest) e) ∙ c.in_err-rest.ensures.cases))
