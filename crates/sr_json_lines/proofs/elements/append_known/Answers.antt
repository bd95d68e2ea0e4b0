use Rattle.std.proofs.Common.{◌++◌, ◌∷◌, [], codes}
use Rattle.std.proofs.lemmas.Result.{on_ok_weaker}
use Rattle.sr_json_lines.specs.StatusObjects.{numbers_told, indices_told}
use Rattle.sr_json_lines.proofs.Joins.{in_four}
use Rattle.sr_json_lines.proofs.elements.append_known.Goals as goal

pub returns-clause-none : goal.returns-clause-none
returns-clause-none c n words e =
    let last = indices_told n [] in
    let behind = numbers_told n last in
    let of_ages = c.in_ok-rest.ensures.text n behind words e in
    let from_ages = c.in_ok-rest.ensures.rest n behind words e in
    let of_numbers = c.in_ok-rest-2.ensures.text n last words from_ages in
    let from_numbers = c.in_ok-rest-2.ensures.rest n last words from_ages in
    let of_indices = c.in_ok-rest-3.ensures.text n [] words from_numbers in
    let from_indices = c.in_ok-rest-3.ensures.rest n [] words from_numbers in
    on_ok_weaker c.append_redbox.result
    (λ of_redbox. in_four _ _ _ _ _ _ _ _ _ of_ages of_numbers of_indices of_redbox)
    (c.append_redbox.ensures.none from_indices)

pub returns-clause-some : goal.returns-clause-some
returns-clause-some c n mac words lacks_mac e =
    let redbox = codes "redbox " ++ (mac ++ 32 ∷ []) in
    let last = indices_told n redbox in
    let behind = numbers_told n last in
    let of_ages = c.in_ok-rest.ensures.text n behind words e in
    let from_ages = c.in_ok-rest.ensures.rest n behind words e in
    let of_numbers = c.in_ok-rest-2.ensures.text n last words from_ages in
    let from_numbers = c.in_ok-rest-2.ensures.rest n last words from_ages in
    let of_indices = c.in_ok-rest-3.ensures.text n redbox words from_numbers in
    let from_indices = c.in_ok-rest-3.ensures.rest n redbox words from_numbers in
    on_ok_weaker c.append_redbox.result
    (λ of_redbox. in_four _ _ _ _ _ _ _ _ _ of_ages of_numbers of_indices of_redbox)
    (c.append_redbox.ensures.some mac lacks_mac from_indices)
