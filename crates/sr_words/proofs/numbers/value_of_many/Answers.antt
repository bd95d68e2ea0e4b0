use Rattle.std.proofs.Common.{◌≡◌, take, get_or, arith, sym, ap, subst, ◌∙◌, take_all}
use Rattle.std.specs.Str.Parse.{AllDigits, digits_value}
use Rattle.std.proofs.lemmas.Int.Digits.{digits_more, digits_value_more}
use Rattle.sr_words.proofs.Numerals.{no_digit, digit_value_is, value_front}
use Rattle.sr_words.proofs.numbers.value_of_many.Goals as goal

pub returns-then-not-is_ascii_digit : goal.returns-then-not-is_ascii_digit
returns-then-not-is_ascii_digit c h =
    no_digit c.args.digits.now c.loop-digit.digit-index c.loop-digit-test.true (sym c.is_ascii_digit.ensures.value ∙ c.if-not-is_ascii_digit.true) h.0

pub returns-in_err-checked_mul : goal.returns-in_err-checked_mul
returns-in_err-checked_mul c =
    let front = value_front c.args.digits.now c.loop-digit.digit-index c.loop-digit-test.true in
    rw c.from_residual.ensures (λ h. c.in_err-checked_mul.ensures (omega (arith, front, c.loop-digit.invariant.value, h.1)))

pub returns-in_err-value : goal.returns-in_err-value
returns-in_err-value c =
    let front = value_front c.args.digits.now c.loop-digit.digit-index c.loop-digit-test.true in
    let digit = digit_value_is (get_or c.args.digits.now c.loop-digit.digit-index 0) (sym c.is_ascii_digit.ensures.value ∙ c.if-not-is_ascii_digit.false) in
    rw c.from_residual-in_err-value.ensures
    (λ h. c.in_err-value.ensures (omega (arith, front, digit.0, c.in_ok-checked_mul.ensures.1, c.from.ensures, c.loop-digit.invariant.value, h.1)))

pub loop-digit-preserved : goal.loop-digit-preserved
loop-digit-preserved c =
    let digit = digit_value_is (get_or c.args.digits.now c.loop-digit.digit-index 0) (sym c.is_ascii_digit.ensures.value ∙ c.if-not-is_ascii_digit.false) in
    record {
      all = digits_more 10 c.args.digits.now c.loop-digit.digit-index c.loop-digit-test.true c.loop-digit.invariant.all (omega (arith, digit.0, digit.1));
      value = omega (arith, digits_value_more 10 c.args.digits.now c.loop-digit.digit-index c.loop-digit-test.true, digit.0, c.in_ok-checked_mul.ensures.1, c.in_ok-value.ensures.1, c.from.ensures, c.loop-digit.invariant.value);
      small = omega (arith, c.in_ok-value.ensures.0, c.in_ok-value.ensures.1);
    }

pub returns : goal.returns
returns c =
    let whole : take c.loop-digit.digit-index c.args.digits.now ≡ c.args.digits.now = take_all c.loop-digit.digit-index c.args.digits.now (omega arith) in
    let value : c.loop-digit.value ≡ digits_value 10 c.args.digits.now = c.loop-digit.invariant.value ∙ ap (digits_value 10) whole in
    ((subst (AllDigits 10) whole c.loop-digit.invariant.all, omega (arith, value, c.loop-digit.invariant.small)), value)
