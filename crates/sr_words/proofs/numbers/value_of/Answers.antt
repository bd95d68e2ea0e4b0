use Rattle.std.proofs.Common.{rules}
use Rattle.sr_words.proofs.numbers.value_of.Goals as goal

pub value_of_few-requires : goal.value_of_few-requires
value_of_few-requires c = search rules
