use Rattle.std.proofs.Common.{◌≡◌, ◌<◌, ◌^◌, take}
use Rattle.std.specs.Str.Parse.{AllDigits, digits_value}
use Rattle.sr_words.proofs.numbers.value_of_many.Given as goal

abbrev pub invariant-loop-digit : goal.invariant-loop-digit
invariant-loop-digit l = record {
  all : AllDigits 10 (take l.digit-index l.digits);
  value : l.value ≡ digits_value 10 (take l.digit-index l.digits);
  small : l.value < 2 ^ 64;
}
