use Rattle.std.proofs.Common.{◌≡◌, length, take, ap, subst, ◌∙◌, take_all, arith}
use Rattle.std.specs.Str.Parse.{AllDigits, digits_value}
use Rattle.sr_words.proofs.Numerals.{no_digit}
use Rattle.sr_words.proofs.numbers.value_of_few.Goals as goal

pub returns-then-count-digits : goal.returns-then-count-digits
returns-then-count-digits c h =
    let front = c.front_value-value.ensures in
    no_digit c.args.digits.now c.front_value-value.result.1 (omega arith) (front.end (omega arith) (omega arith)) h

pub returns : goal.returns
returns c =
    let front = c.front_value-value.ensures in
    let whole : take c.front_value-value.result.1 c.args.digits.now ≡ c.args.digits.now = take_all c.front_value-value.result.1 c.args.digits.now (omega arith) in
    (subst (AllDigits 10) whole front.all, front.value ∙ ap (digits_value 10) whole)
