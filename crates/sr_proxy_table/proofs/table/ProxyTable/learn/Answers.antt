use Rattle.std.proofs.Common.{◌≤◌, ◌∙◌, refl, sym, ap, subst, Ok, length}
use Rattle.sr_frame.specs.declared.learn_outcome.LearnOutcome.TheVariants.{New, Full}
use Rattle.sr_aged_slots.specs.FullLemmas.{kept_again, new_is_kept, full_where}
use Rattle.sr_proxy_table.specs.Proxied.{forget_time, most_proxied, is_live, live_others, answer_of}
use Rattle.sr_proxy_table.proofs.table.ProxyTable.learn.Goals as goal

pub returns-in-Some-clause-full : goal.returns-in-Some-clause-full
returns-in-Some-clause-full c =
    let exactly = full_where (λ e. e.time) forget_time most_proxied c.args.mac c.args.now c.args.self.now
    (λ o. answer_of o c.args.self.now c.args.now) New Full new_is_kept (λ e. kept_again (is_live c.args.now e)) refl c.in-Some.ensures.few in
    (λ e. exactly.0 (sym c.in-Some.ensures.answer ∙ cc), λ e. ap Ok (c.in-Some.ensures.answer ∙ exactly.1 e))

pub returns-in-None-clause-full : goal.returns-in-None-clause-full
returns-in-None-clause-full c =
    let was = c.in-None.ensures.none in
    let few = subst (λ t. length t ≤ most_proxied) (sym was) c.in-None.ensures.few in
    let same = ap (λ t. length (live_others c.args.mac c.args.now t)) was in
    let exactly = full_where (λ e. e.time) forget_time most_proxied c.args.mac c.args.now c.renew.new.self
    (λ o. answer_of o c.renew.new.self c.args.now) New Full new_is_kept (λ e. kept_again (is_live c.args.now e)) refl few in
    (λ e. sym same ∙ exactly.0 (sym ((rw e at c.begin.ensures.answer))), λ e. c.begin.ensures.full (exactly.1 (same ∙ e)))
