use Rattle.std.proofs.Common.{◌≡◌, take}
use Rattle.std.specs.Str.Parse.{AllDigits, digits_value}
use Rattle.sr_words.proofs.numbers.front_value.Given as goal

abbrev pub invariant-loop-at : goal.invariant-loop-at
invariant-loop-at l = record {
  all : AllDigits 10 (take l.at l.octets);
  value : l.value ≡ digits_value 10 (take l.at l.octets);
}
