use Rattle.std.proofs.Common.{◌∙◌, ap, rules}
use Rattle.sr_proxy_table.proofs.HeldLemmas.{none_held}
use Rattle.sr_proxy_table.proofs.table.ProxyTable.begin.Goals as goal

pub invariant_of-self-2 : goal.invariant_of-self-2
invariant_of-self-2 c =
    none_held c.is_full_now.new.self.held c.append.new.self.held c.args.mac
    (ap (λ t. t.held) c.if-is_full_now.ensures.same ∙ c.self.invariant) c.in_ok-append.ensures.others c.in_ok-append.ensures.used

pub invariant_of-self : goal.invariant_of-self
invariant_of-self c = search rules

pub returns-clause-answer : goal.returns-clause-answer
returns-clause-answer c = search rules

pub returns-then-is_full_now-clause-answer : goal.returns-then-is_full_now-clause-answer
returns-then-is_full_now-clause-answer c = search rules

pub returns-then-is_full_now-clause-after : goal.returns-then-is_full_now-clause-after
returns-then-is_full_now-clause-after c = search rules

pub returns-in_err-append-clause-full : goal.returns-in_err-append-clause-full
returns-in_err-append-clause-full c = search rules

pub returns-clause-after : goal.returns-clause-after
returns-clause-after c = search rules

pub returns-clause-full : goal.returns-clause-full
returns-clause-full c = search rules
