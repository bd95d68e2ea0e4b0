use Rattle.std.proofs.Common.{◌++◌, ◌∷◌, [], ℕ, List, ap, sym, append_assoc, ◌∙◌}
use Rattle.std.specs.Prelude.{codes}
use Rattle.std.specs.Fmt.{decimal}
use Rattle.sr_frame.specs.Addresses.{pairs_of}
use Rattle.sr_script.specs.Commands.{letter_of}
use Rattle.sr_script.proofs.status_lines.append_ring_error.Goals as goal

pub returns-in-Ok-clause-ok : goal.returns-in-Ok-clause-ok
returns-in-Ok-clause-ok c =
    let mac = pairs_of c.args.mac.0 in
    let time = codes " at " ++ decimal c.args.at in
    let front = c.args.text.now.items in
    c.in-Ok.ensures.bytes
    ∙ ap (λ (l : List ℕ). front ++ (codes "alarm RingError " ++ (mac ++ (codes " port " ++ (l ++ (time ++ 10 ∷ [])))))) c.name_of.ensures
    ∙ ap (λ (l : List ℕ). front ++ (codes "alarm RingError " ++ (mac ++ (codes " port " ++ l)))) (sym (append_assoc (letter_of c.args.port) time (10 ∷ [])))
    ∙ ap (λ (l : List ℕ). front ++ (codes "alarm RingError " ++ l)) (sym (append_assoc mac (codes " port " ++ (letter_of c.args.port ++ time)) (10 ∷ [])))
