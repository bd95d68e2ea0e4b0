use Rattle.std.proofs.Common.{◌≡◌, ◌<◌, length, take, get_or, true, false, sym, ◌∙◌, arith}
use Rattle.sr_words.proofs.FrontNumbers.{front_decimal, no_front_zero, read_number, some_front, space_behind, spelled_number}
use Rattle.sr_words.proofs.numbers.front_number.Goals.{then-text-count-ne32-via-then-text-count-ne32, then-text-count-ne32-via-else-text-count-ne32+then-has_leading_zero}
use Rattle.sr_words.proofs.numbers.front_number.Goals as goal

pub returns-then-count-eq0-clause-only : goal.returns-then-count-eq0-clause-only
returns-then-count-eq0-clause-only c n rest small long e =
    let front = c.front_value-value.ensures in
    let is = front_decimal c.args.text.now rest c.front_value-value.result.1 n small e front.within front.all front.end in
    absurd (omega (arith, (some_front c.args.text.now rest c.front_value-value.result.1 n small e is).0))

pub returns-then-text-count-ne32-clause-only : goal.returns-then-text-count-ne32-clause-only
returns-then-text-count-ne32-clause-only c n rest small long e =
    let text = c.args.text.now in
    let count = c.front_value-value.result.1 in
    let front = c.front_value-value.ensures in
    let is = front_decimal text rest count n small e front.within front.all front.end in
    elim c.then-text-count-ne32.branch [
      | then-text-count-ne32-via-then-text-count-ne32 w ↦ let space = space_behind text rest count n e is in absurd (w.if-text-count-ne32.true space)
      | then-text-count-ne32-via-else-text-count-ne32+then-has_leading_zero w ↦ absurd (no_front_zero text rest count n small e is (w.has_leading_zero.ensures.0 w.if-has_leading_zero.true))
    ]

pub returns-clause-found : goal.returns-clause-found
returns-clause-found c =
    let text = c.args.text.now in
    let front = c.front_value-value.ensures in
    let none : (1 < length (take c.front_value-value.result.1 text)) × (get_or (take c.front_value-value.result.1 text) 0 0 ≡ 48) → ⊥ =
    λ h. let p : true ≡ false = sym (c.has_leading_zero.ensures.1 h) ∙ c.if-has_leading_zero.false in absurd cc in
    (spelled_number text c.front_value-value.result.0 c.front_value-value.result.1 (omega arith) (omega arith) front.few front.all none front.value c.if-text-count-ne32.false).0

pub returns-clause-few : goal.returns-clause-few
returns-clause-few c =
    let text = c.args.text.now in
    let front = c.front_value-value.ensures in
    let none : (1 < length (take c.front_value-value.result.1 text)) × (get_or (take c.front_value-value.result.1 text) 0 0 ≡ 48) → ⊥ =
    λ h. let p : true ≡ false = sym (c.has_leading_zero.ensures.1 h) ∙ c.if-has_leading_zero.false in absurd cc in
    (spelled_number text c.front_value-value.result.0 c.front_value-value.result.1 (omega arith) (omega arith) front.few front.all none front.value c.if-text-count-ne32.false).1

pub returns-clause-only : goal.returns-clause-only
returns-clause-only c n rest small long e =
    let front = c.front_value-value.ensures in
    let is = front_decimal c.args.text.now rest c.front_value-value.result.1 n small e front.within front.all front.end in
    read_number c.args.text.now rest c.front_value-value.result.0 c.front_value-value.result.1 n small e is front.value
