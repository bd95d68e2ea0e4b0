use Rattle.std.proofs.Common.{◌++◌, ◌∷◌, [], ℕ, List, codes, ap, ◌∙◌}
use Rattle.std.proofs.lemmas.Result.{on_ok_weaker}
use Rattle.sr_json_lines.specs.StatusObjects.{node_down_element}
use Rattle.sr_json_lines.proofs.Joins.{in_three}
use Rattle.sr_json_lines.proofs.elements.append_node_down.Goals as goal

pub returns : goal.returns
returns c mac at lacks_mac lacks_at e =
    let behind = codes "at " ++ (at ++ 32 ∷ []) in
    let of_mac = c.in_ok-rest.ensures.text mac behind lacks_mac e in
    let from_mac = c.in_ok-rest.ensures.rest mac behind lacks_mac e in
    let of_at = c.in_ok-append_labelled.ensures.text at [] lacks_at from_mac in
    let others = ap (λ (l : List ℕ). l ++ node_down_element mac at) c.in_ok-append_comma.ensures in
    on_ok_weaker c.extend_from_slice.result
    (λ end. in_three _ _ _ _ _ _ _ of_mac of_at end ∙ others)
    c.extend_from_slice.ensures.ok
