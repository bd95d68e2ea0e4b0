use Rattle.std.proofs.lemmas.Result.{on_ok_weaker}
use Rattle.sr_plant_script.proofs.FlowLemmas.{refused, refusal_told}
use Rattle.sr_plant_script.proofs.obeying.happen.Goals as goal

pub returns-in-Err-clause-ok : goal.returns-in-Err-clause-ok
returns-in-Err-clause-ok c =
    on_ok_weaker c.tell_refusal.result
    (λ tells. (
    let r = refusal_told c.args.network.now c.serve.new.self c.args.number c.args.event.now c.in-Err.fault c.args.text.now c.serve.new.text c.tell_refusal.new.text c.in-Err.ensures.err tells in
    refused c.args.network.now c.serve.new.self c.args.number c.args.event.now c.in-Err.fault c.args.text.now
    c.tell_refusal.new.text r.0 r.2 r.1))
    c.tell_refusal.ensures.ok
