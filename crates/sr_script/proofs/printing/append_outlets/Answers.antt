use Rattle.std.proofs.Common.{ℕ, List, ◌++◌, ap, refl, ◌∙◌}
use Rattle.sr_node.specs.Images.{node_state}
use Rattle.sr_script.proofs.PrintedLines.{four_parts}
use Rattle.sr_script.proofs.printing.append_outlets.Goals as goal

pub returns-clause-ok : goal.returns-clause-ok
returns-clause-ok g c =
    let h = c.in_ok-append_waiting.ensures.ok in
    let a = c.in_ok-append_waiting-2.ensures.ok in
    let b = c.in_ok-append_waiting-3.ensures.ok in
    let d = c.in_ok-append_waiting-4.ensures.ok in
    let u = node_state (g.R.Role.meaning c.append_waiting.new.node.role) c.append_waiting.new.node.core in
    let v = node_state (g.R.Role.meaning c.append_waiting-2.new.node.role) c.append_waiting-2.new.node.core in
    let w = node_state (g.R.Role.meaning c.append_waiting-3.new.node.role) c.append_waiting-3.new.node.core in
    let text =
    d.2
    ∙ ap (λ (t : List ℕ). t ++ d.0) (b.2 ∙ ap (λ (t : List ℕ). t ++ b.0) (a.2 ∙ ap (λ (t : List ℕ). t ++ a.0) h.2))
    ∙ four_parts c.args.text.now h.0 a.0 b.0 d.0 in
    (h.0 ++ (a.0 ++ (b.0 ++ d.0)), (h.0, a.0, b.0, d.0, u, v, w, h.1, a.1, b.1, d.1, refl), text)
