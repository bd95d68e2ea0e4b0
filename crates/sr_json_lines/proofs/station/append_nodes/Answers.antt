use Rattle.std.proofs.Common.{rules, ◌≡◌, ◌++◌, ℕ, List, codes, ap, ◌∙◌}
use Rattle.std.proofs.lemmas.Result.{on_ok_weaker}
use Rattle.std.specs.Fmt.{decimal}
use Rattle.sr_json_lines.proofs.Joins.{in_two}
use Rattle.sr_json_lines.proofs.station.append_nodes.Goals as goal

pub returns : goal.returns
returns c =
    let digits : c.as_bytes.result.now ≡ decimal c.args.count = search rules in
    let front = ap (λ (l : List ℕ). c.args.text.now ++ (codes ",\"lreCntNodes\":" ++ l)) digits in
    on_ok_weaker c.append_value.result
    (λ of_nodes. in_two _ _ _ _ _ (c.in_ok-append_two.ensures ∙ front) of_nodes)
    c.append_value.ensures
