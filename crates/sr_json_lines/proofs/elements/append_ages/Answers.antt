use Rattle.std.proofs.Common.{◌++◌, ◌∷◌, codes}
use Rattle.std.proofs.lemmas.Result.{on_ok_weaker}
use Rattle.sr_json_lines.proofs.Joins.{in_three}
use Rattle.sr_json_lines.proofs.elements.append_ages.Goals as goal

pub returns-clause-text : goal.returns-clause-text
returns-clause-text c n rest words e =
    let last = codes "if2_age " ++ (n.age_b ++ 32 ∷ rest) in
    let behind = codes "if1_age " ++ (n.age_a ++ 32 ∷ last) in
    let of_mac = c.in_ok-rest.ensures.text n.mac behind words.mac e in
    let from_mac = c.in_ok-rest.ensures.rest n.mac behind words.mac e in
    let of_a = c.in_ok-rest-2.ensures.text n.age_a last words.age_a from_mac in
    let from_a = c.in_ok-rest-2.ensures.rest n.age_a last words.age_a from_mac in
    on_ok_weaker c.append_labelled-3.result
    (λ of_b. in_three _ _ _ _ _ _ _ of_mac of_a of_b)
    (c.append_labelled-3.ensures.text n.age_b rest words.age_b from_a)
