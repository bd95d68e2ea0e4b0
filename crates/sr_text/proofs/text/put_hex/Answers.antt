use Rattle.std.proofs.Common.{eqb-true, sym, ◌∙◌}
use Rattle.sr_text.proofs.Pieces.{no_digits}
use Rattle.sr_text.proofs.text.put_hex.Goals as goal

pub returns-then-is_empty-clause-put : goal.returns-then-is_empty-clause-put
returns-then-is_empty-clause-put c = no_digits _ c.args.octets.now (eqb-true _ 0 (sym c.is_empty.ensures ∙ c.if-is_empty.true))
