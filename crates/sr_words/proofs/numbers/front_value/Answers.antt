use Rattle.std.proofs.Common.{◌≡◌, get_or, arith, sym, ◌∙◌}
use Rattle.std.proofs.lemmas.Int.Digits.{digits_more, digits_value_more}
use Rattle.sr_words.proofs.Numerals.{digit_value_is, front_fits}
use Rattle.sr_words.proofs.numbers.front_value.Goals as goal

pub overflow_mul-value : goal.overflow_mul-value
overflow_mul-value c = omega (arith, front_fits c.args.octets.now c.loop-at.at (omega arith) (omega arith) c.loop-at.invariant.all, c.loop-at.invariant.value)

pub overflow_add-value : goal.overflow_add-value
overflow_add-value c =
    let digit = digit_value_is (get_or c.args.octets.now c.loop-at.at 0) (sym c.is_ascii_digit.ensures.value ∙ c.if-not-is_ascii_digit.false) in
    omega (arith, front_fits c.args.octets.now c.loop-at.at (omega arith) (omega arith) c.loop-at.invariant.all, digit.1, c.from.ensures, c.loop-at.invariant.value)

pub loop-at-preserved : goal.loop-at-preserved
loop-at-preserved c =
    let digit = digit_value_is (get_or c.args.octets.now c.loop-at.at 0) (sym c.is_ascii_digit.ensures.value ∙ c.if-not-is_ascii_digit.false) in
    record {
      all = digits_more 10 c.args.octets.now c.loop-at.at (omega arith) c.loop-at.invariant.all (omega (arith, digit.0, digit.1));
      value = omega (arith, digits_value_more 10 c.args.octets.now c.loop-at.at (omega arith), digit.0, c.from.ensures, c.loop-at.invariant.value);
    }
