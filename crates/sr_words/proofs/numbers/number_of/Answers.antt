use Rattle.std.proofs.Common.{◌≡◌, length, false, true, sym, ◌∙◌, eqb-true, arith}
use Rattle.std.proofs.lemmas.Bool.{eqb-false}
use Rattle.sr_words.proofs.Numerals.{number_found, number_only, no_empty_number, no_zero_before}
use Rattle.sr_words.proofs.numbers.number_of.Goals.{then-is_empty-via-then-is_empty, then-is_empty-via-else-is_empty+then-has_leading_zero}
use Rattle.sr_words.proofs.numbers.number_of.Goals as goal

pub returns-then-is_empty-clause-only : goal.returns-then-is_empty-clause-only
returns-then-is_empty-clause-only c n lt e = elim c.then-is_empty.branch [
  | then-is_empty-via-then-is_empty w ↦ absurd (no_empty_number c.args.word.now n lt e (eqb-true (length c.args.word.now) 0 (sym c.is_empty.ensures ∙ w.if-is_empty.true)))
  | then-is_empty-via-else-is_empty+then-has_leading_zero w ↦ absurd (no_zero_before c.args.word.now n lt e (w.has_leading_zero.ensures.0 w.if-has_leading_zero.true))
]

pub returns-clause-found : goal.returns-clause-found
returns-clause-found c =
    let some : length c.args.word.now ≡ 0 → ⊥ = eqb-false (length c.args.word.now) 0 (sym c.is_empty.ensures ∙ c.if-is_empty.false) in
    number_found c.args.word.now c.value_of.result (omega arith) (λ h. let p : true ≡ false = sym (c.has_leading_zero.ensures.1 h) ∙ c.if-has_leading_zero.false in absurd cc) c.value_of.ensures

pub returns-clause-only : goal.returns-clause-only
returns-clause-only c n lt e = number_only c.args.word.now c.value_of.result n lt e c.value_of.ensures
