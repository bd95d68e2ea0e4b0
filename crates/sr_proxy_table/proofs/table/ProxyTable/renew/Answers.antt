use Rattle.sr_proxy_table.proofs.HeldLemmas.{none_held}
use Rattle.sr_proxy_table.proofs.table.ProxyTable.renew.Goals as goal

pub invariant_of-self-2 : goal.invariant_of-self-2
invariant_of-self-2 c =
    none_held c.self.inside.slots.held c.update_at.new.self.held c.args.mac c.self.invariant
    c.in_ok-answer.ensures.others c.in_ok-answer.ensures.used
