use Rattle.std.proofs.Common.{◌+◌, ◌++◌, ◌∷◌, ℕ, List, take, sym, ap, subst, ◌∙◌}
use Rattle.std.proofs.lemmas.List.{take_rest}
use Rattle.sr_session.specs.Octets.{Lacks}
use Rattle.sr_session.specs.OctetLemmas.{around_place, one_place, no_place}
use Rattle.sr_words.proofs.words.split_word.Goals as goal

pub returns-in_err-at-clause-only : goal.returns-in_err-at-clause-only
returns-in_err-at-clause-only c word rest lacks e = absurd (no_place 32 word rest (subst (Lacks 32) e c.in_err-at.ensures))

pub returns-clause-found : goal.returns-clause-found
returns-clause-found c =
    let at = c.in_ok-at.at in
    around_place 32 c.args.text.now at c.in_ok-at.ensures.1
    ∙ ap (λ (l : List ℕ). take at c.args.text.now ++ 32 ∷ l) (sym (take_rest c.args.text.now (at + 1)))

pub returns-clause-only : goal.returns-clause-only
returns-clause-only c word rest lacks e =
    let at = c.in_ok-at.at in
    let parts = one_place 32 _ _ word rest c.in_ok-at.ensures.0 lacks (sym (around_place 32 c.args.text.now at c.in_ok-at.ensures.1) ∙ e) in
    (parts.0, take_rest c.args.text.now (at + 1) ∙ parts.1)
