use Rattle.std.proofs.Common.{◌++◌, ◌∷◌, codes}
use Rattle.std.proofs.lemmas.Result.{on_ok_weaker}
use Rattle.sr_json_lines.proofs.Joins.{in_two}
use Rattle.sr_json_lines.proofs.elements.append_indices.Goals as goal

pub returns-clause-text : goal.returns-clause-text
returns-clause-text c n rest words e =
    let last = codes "if2_ifindex " ++ (n.index_b ++ 32 ∷ rest) in
    let of_a = c.in_ok-rest.ensures.text n.index_a last words.index_a e in
    let from_a = c.in_ok-rest.ensures.rest n.index_a last words.index_a e in
    on_ok_weaker c.append_labelled-2.result
    (λ of_b. in_two _ _ _ _ _ of_a of_b)
    (c.append_labelled-2.ensures.text n.index_b rest words.index_b from_a)

pub returns-clause-rest : goal.returns-clause-rest
returns-clause-rest c n rest words e =
    let last = codes "if2_ifindex " ++ (n.index_b ++ 32 ∷ rest) in
    c.append_labelled-2.ensures.rest n.index_b rest words.index_b (c.in_ok-rest.ensures.rest n.index_a last words.index_a e)
