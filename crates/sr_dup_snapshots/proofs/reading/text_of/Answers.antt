use Rattle.std.proofs.Common.{◌∙◌, sym}
use Rattle.sr_dup_snapshots.proofs.TextLemmas.{no-table}
use Rattle.sr_dup_snapshots.proofs.reading.text_of.Goals as goal

pub returns-else-are_in_order-clause-none : goal.returns-else-are_in_order-clause-none
returns-else-are_in_order-clause-none c width s is =
    no-table c.in_ok-text.text.width c.args.octets.now c.in_ok-text.text.count c.in_ok-text.text.sources.now c.in_ok-text.ensures.text
    (sym c.are_in_order.ensures ∙ c.if-are_in_order.false) width s is
