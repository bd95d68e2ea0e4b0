use Rattle.std.proofs.Common.{◌++◌, ◌∷◌, codes}
use Rattle.std.proofs.lemmas.Result.{on_ok_weaker}
use Rattle.sr_json_lines.proofs.Joins.{in_two}
use Rattle.sr_json_lines.proofs.elements.append_numbers.Goals as goal

pub returns-clause-text : goal.returns-clause-text
returns-clause-text c n rest words e =
    let last = codes "if2_seq " ++ (n.seq_b ++ 32 ∷ rest) in
    let of_a = c.in_ok-rest.ensures.text n.seq_a last words.seq_a e in
    let from_a = c.in_ok-rest.ensures.rest n.seq_a last words.seq_a e in
    on_ok_weaker c.append_labelled-2.result
    (λ of_b. in_two _ _ _ _ _ of_a of_b)
    (c.append_labelled-2.ensures.text n.seq_b rest words.seq_b from_a)
