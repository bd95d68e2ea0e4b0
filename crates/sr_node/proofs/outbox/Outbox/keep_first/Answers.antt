use Rattle.std.proofs.Common.{ap, drop, sym, ◌∙◌}
use Rattle.sr_node.proofs.OutboxLemmas.{next_left}
use Rattle.sr_node.proofs.outbox.Outbox.keep_first.Goals as goal

pub returns-then-self-len : goal.returns-then-self-len
returns-then-self-len c = sym (next_left c.self.inside.queue.items c.self.inside.spares) ∙ ap (drop 1) c.self.view_is
