use Rattle.std.proofs.Common.{◌≡◌, ◌∷◌, [], ℕ, List, OnOk, drop, subst}
use Rattle.std.specs.Prelude.{codes}
use Rattle.sr_script.specs.StatusTexts.{redbox_part, age_words, number_words}
use Rattle.sr_script.proofs.StatusLines.{in_parts}
use Rattle.sr_script.proofs.status_lines.append_node.Goals as goal

pub returns-clause-ok : goal.returns-clause-ok
returns-clause-ok c =
    let s = c.args.status.now in
    let first = c.append_ages.new.text.items in
    let both = c.append_numbers.new.text.items in
    subst
    (λ (l : List ℕ). OnOk c.append_redbox.result (c.append_redbox.new.text.items ≡ l))
    (in_parts c.args.text.now.items first both (codes "node") (drop 1 (age_words s)) (codes "if1_seq") (drop 1 (number_words s)) (redbox_part s.redbox) (10 ∷ [])
    c.in_ok-append_ages.ensures.ok c.in_ok-append_numbers.ensures.ok)
    c.append_redbox.ensures.ok
