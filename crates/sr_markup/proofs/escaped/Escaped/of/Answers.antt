use Rattle.std.proofs.Common.{string_bytes, rules}
use Rattle.sr_markup.proofs.Plain.{exact_is_plain}
use Rattle.sr_markup.proofs.escaped.Escaped.of.Goals as goal

pub returns-clause-plain : goal.returns-clause-plain
returns-clause-plain c = exact_is_plain (string_bytes c.in_ok-text.text) c.args.text.now (search rules)
