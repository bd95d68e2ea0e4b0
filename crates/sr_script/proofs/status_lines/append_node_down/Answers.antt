use Rattle.std.proofs.Common.{◌++◌, ◌∷◌, [], ℕ, List, ap, sym, append_assoc, ◌∙◌}
use Rattle.std.specs.Prelude.{codes}
use Rattle.std.specs.Fmt.{decimal}
use Rattle.sr_frame.specs.Addresses.{pairs_of}
use Rattle.sr_script.proofs.status_lines.append_node_down.Goals as goal

pub returns-in-Ok-clause-ok : goal.returns-in-Ok-clause-ok
returns-in-Ok-clause-ok c =
    c.in-Ok.ensures.bytes
    ∙ ap (λ (l : List ℕ). c.args.text.now.items ++ (codes "alarm NodeDown " ++ l))
    (sym (append_assoc (pairs_of c.args.mac.0) (codes " at " ++ decimal c.args.at) (10 ∷ [])))
