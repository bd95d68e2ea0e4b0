-- There are as many lines of each kind as the figures of a source say.
use Rattle.std.proofs.Common.{◌≡◌, ◌+◌, Bool, cond, List, [], ◌∷◌, ◌++◌, ℤ, refl, sym, ap, ◌∙◌}
use Rattle.std.specs.Prelude.{count_by, sum_by}
use Rattle.std.proofs.lemmas.List.Sums.{sum_by-append, sum_by-cons}
use Rattle.sr_frame.specs.declared.fields.Mac.{Mac}
use Rattle.sr_audit.specs.declared.listing.Copied.{Copied}
use Rattle.sr_audit.specs.declared.listing.Listed.{Listed}
use Rattle.sr_audit.specs.declared.side.Side.TheVariants.{A, B}
use Rattle.sr_audit.specs.declared.span.Spans.{Spans}
use Rattle.sr_audit.specs.Pendings.{arrivals_from}
use Rattle.sr_audit.specs.Stretches.{Placed, stretches}
use Rattle.sr_audit.proofs.FrameLemmas.{count-cons}
use Rattle.sr_laws_audit.specs.Lists.{line_as, number_line, number_lines, before_stretch, all_lines, copies_from, lines_from, is_lost_at, is_pair, is_of_none, ListsAsFiguresSay}
use Rattle.sr_laws_audit.specs.Outcomes.{Outcome, Paired, OnlyA, OnlyB, EdgeA, EdgeB, Neither, same_outcome, outcome_of, stretch_numbers, numbers_with}
use Rattle.sr_laws_audit.proofs.OutcomeLemmas.{each_number}
use Rattle.sr_laws_audit.proofs.RunLemmas.{each_once}

-- the lines of a kind are those of the numbers with its outcome
abbrev IsKindOf : (Listed → Bool) → Outcome → Type 0
IsKindOf test o = (out : Outcome) (src : Mac) (n : ℤ) (s : List Placed) (copies : List Copied) →
    count_by test (line_as out src n s copies) ≡ cond (same_outcome o out) 1 0

numbers_of_kind : (spans : Spans) (src : Mac) (test : Listed → Bool) (o : Outcome) → IsKindOf test o → (s : List Placed) (copies : List Copied)
    (ns : List ℤ) → count_by test (number_lines spans src s copies ns) ≡ count_by (λ n. same_outcome o (outcome_of spans s n)) ns
numbers_of_kind spans src test o kind s copies [] = refl
numbers_of_kind spans src test o kind s copies (n ∷ ns) =
    sum_by-append (λ l. cond (test l) 1 0) (number_line spans src s copies n) (number_lines spans src s copies ns)
    ∙ ap (λ k. k + count_by test (number_lines spans src s copies ns)) (kind (outcome_of spans s n) src n s copies)
    ∙ ap (λ k. cond (same_outcome o (outcome_of spans s n)) 1 0 + k) (numbers_of_kind spans src test o kind s copies ns)
    ∙ sym (count-cons (λ k. same_outcome o (outcome_of spans s k)) n ns)

all_of_kind : (spans : Spans) (src : Mac) (test : Listed → Bool) (o : Outcome) → IsKindOf test o → (ss : List (List Placed))
    (copies : List Copied) → count_by test (all_lines spans src ss copies) ≡ sum_by (numbers_with spans o) ss
all_of_kind spans src test o kind [] copies = refl
all_of_kind spans src test o kind (s ∷ rest) copies =
    sum_by-append (λ l. cond (test l) 1 0) (number_lines spans src s copies (stretch_numbers s)) (all_lines spans src rest (before_stretch s copies))
    ∙ ap (λ k. k + count_by test (all_lines spans src rest (before_stretch s copies)))
    (numbers_of_kind spans src test o kind s copies (stretch_numbers s))
    ∙ ap (λ k. numbers_with spans o s + k) (all_of_kind spans src test o kind rest (before_stretch s copies))
    ∙ sym (sum_by-cons (numbers_with spans o) s rest)

pairs_are : IsKindOf is_pair Paired
pairs_are Paired src n s copies = refl
pairs_are OnlyA src n s copies = refl
pairs_are OnlyB src n s copies = refl
pairs_are EdgeA src n s copies = refl
pairs_are EdgeB src n s copies = refl
pairs_are Neither src n s copies = refl

only_a_are : IsKindOf (is_lost_at A) OnlyA
only_a_are Paired src n s copies = refl
only_a_are OnlyA src n s copies = refl
only_a_are OnlyB src n s copies = refl
only_a_are EdgeA src n s copies = refl
only_a_are EdgeB src n s copies = refl
only_a_are Neither src n s copies = refl

only_b_are : IsKindOf (is_lost_at B) OnlyB
only_b_are Paired src n s copies = refl
only_b_are OnlyA src n s copies = refl
only_b_are OnlyB src n s copies = refl
only_b_are EdgeA src n s copies = refl
only_b_are EdgeB src n s copies = refl
only_b_are Neither src n s copies = refl

none_are : IsKindOf is_of_none Neither
none_are Paired src n s copies = refl
none_are OnlyA src n s copies = refl
none_are OnlyB src n s copies = refl
none_are EdgeA src n s copies = refl
none_are EdgeB src n s copies = refl
none_are Neither src n s copies = refl

pub as_figures_say : ListsAsFiguresSay
as_figures_say spans first copies sources lines last m few listed run ends =
    let ss = stretches (arrivals_from m copies) in
    let told = each_number spans (arrivals_from m copies) in
    record {
      pairs = wanted is_pair ∙ all_of_kind spans m is_pair Paired pairs_are ss (copies_from m copies) ∙ sym told.pairs;
      only_a = wanted (is_lost_at A) ∙ all_of_kind spans m (is_lost_at A) OnlyA only_a_are ss (copies_from m copies) ∙ sym told.only_a;
      only_b = wanted (is_lost_at B) ∙ all_of_kind spans m (is_lost_at B) OnlyB only_b_are ss (copies_from m copies) ∙ sym told.only_b;
      neither = wanted is_of_none ∙ all_of_kind spans m is_of_none Neither none_are ss (copies_from m copies) ∙ sym told.neither;
    }
  where
    wanted : (test : Listed → Bool) → count_by test (lines_from m (lines ++ last))
        ≡ count_by test (all_lines spans m (stretches (arrivals_from m copies)) (copies_from m copies))
    wanted test =
        each_once spans first copies sources lines last m few run ends test
        ∙ ap (λ b. count_by test (cond b (all_lines spans m (stretches (arrivals_from m copies)) (copies_from m copies)) [])) listed
