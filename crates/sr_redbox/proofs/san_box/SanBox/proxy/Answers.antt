use Rattle.std.proofs.Common.{◌≡◌, ◌∙◌, sym, ap, subst, IfOk}
use Rattle.std.proofs.lemmas.Result.{on_ok_weaker}
use Rattle.sr_forwarding.specs.Proxies.{proxy_answer, proxied_after}
use Rattle.sr_proxy_table.specs.Proxied.{times_of}
use Rattle.sr_redbox.specs.SanBoxes.{san_of}
use Rattle.sr_redbox.proofs.SanLemmas.{learnt_where, learned_where}
use Rattle.sr_redbox.proofs.san_box.SanBox.proxy.Goals as goal

pub returns-clause-answer : goal.returns-clause-answer
returns-clause-answer c =
    let answer = sym (learnt_where c.args.mac c.self.inside.proxied c.args.now) ∙ ap (λ b. proxy_answer (times_of b.proxied) c.args.mac c.args.now) c.self.view_is in
    subst (λ a. IfOk c.learn.result (λ learnt. learnt ≡ a)) answer c.learn.ensures.answer

pub returns-clause-after : goal.returns-clause-after
returns-clause-after c =
    let es = c.self.inside.proxied in
    let after = sym (learned_where c.args.mac es c.args.now c.learn.ensures.few) in
    on_ok_weaker c.learn.result (λ e. ap (λ ps. record (san_of (record { mac = c.self.inside.mac; proxied = es })) { proxied = ps }) (ap times_of e ∙ after)
    ∙ ap (λ b. record (san_of b) { proxied = proxied_after (times_of b.proxied) c.args.mac c.args.now }) c.self.view_is) c.learn.ensures.after
