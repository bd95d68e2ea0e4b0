use Rattle.std.proofs.Common.{◌++◌, ◌∷◌, [], ℕ, List, codes, ap, ◌∙◌}
use Rattle.sr_json_lines.specs.StatusObjects.{port_members}
use Rattle.sr_json_lines.proofs.Joins.{in_three}
use Rattle.sr_json_lines.proofs.elements.append_port.Goals as goal

pub returns : goal.returns
returns c port frames wrong_lan refused lacks_port lacks_frames lacks_wrong lacks_refused e =
    let last = codes "refused " ++ (refused ++ 32 ∷ []) in
    let middle = codes "wrong_lan " ++ (wrong_lan ++ 32 ∷ last) in
    let counts = codes "frames " ++ (frames ++ 32 ∷ middle) in
    let from_port = c.first_word.ensures.rest port counts lacks_port e in
    let of_frames = c.in_ok-rest.ensures.text frames middle lacks_frames from_port in
    let from_frames = c.in_ok-rest.ensures.rest frames middle lacks_frames from_port in
    let of_wrong = c.in_ok-rest-2.ensures.text wrong_lan last lacks_wrong from_frames in
    let from_wrong = c.in_ok-rest-2.ensures.rest wrong_lan last lacks_wrong from_frames in
    let of_refused = c.in_ok-append_count.ensures.text refused [] lacks_refused from_wrong in
    in_three _ _ _ _ _ _ _ of_frames of_wrong of_refused
    ∙ ap (λ (l : List ℕ). c.args.counts.now ++ port_members l frames wrong_lan refused) (c.first_word.ensures.word port counts lacks_port e)
