use Rattle.std.proofs.Common.{◌≡◌, ◌≤◌, length, arith}
use Rattle.std.proofs.lemmas.Result.{on_ok_weaker}
use Rattle.sr_plant_script.proofs.FlowLemmas.{carried_more, flow_empty, flow_full, flow_refused, refusal_told}
use Rattle.sr_plant.specs.declared.event.PlantEvent.TheVariants as event
use Rattle.sr_plant_script.proofs.obeying.flow.Goals as goal

pub returns-then-in_flight-eq0-clause-ok : goal.returns-then-in_flight-eq0-clause-ok
returns-then-in_flight-eq0-clause-ok c =
    let none : length c.loop-carries.network.flight ≡ 0 = omega arith in
    let small : c.loop-carries.carries ≤ 100000 = omega arith in
    on_ok_weaker c.append_flow.result
    (λ told. flow_empty c.args.network.now c.loop-carries.network c.args.number c.loop-carries.carries c.args.text.now
    c.loop-carries.text c.append_flow.new.text small c.loop-carries.invariant none told)
    c.append_flow.ensures.ok

pub returns-in-Err-clause-ok : goal.returns-in-Err-clause-ok
returns-in-Err-clause-ok c =
    let small : c.loop-carries.carries ≤ 100000 = omega arith in
    on_ok_weaker c.tell_refusal.result
    (λ tells. (
    let r = refusal_told c.loop-carries.network c.serve.new.self c.args.number (event.Carry 0) c.in-Err.fault c.loop-carries.text c.serve.new.text c.tell_refusal.new.text c.in-Err.ensures.err tells in
    flow_refused c.args.network.now c.loop-carries.network c.serve.new.self c.args.number c.loop-carries.carries c.in-Err.fault
    c.args.text.now c.loop-carries.text c.tell_refusal.new.text small c.loop-carries.invariant r.0 r.2 r.1))
    c.tell_refusal.ensures.ok

pub loop-carries-preserved : goal.loop-carries-preserved
loop-carries-preserved c =
    carried_more c.args.network.now c.loop-carries.network c.serve.new.self c.loop-carries.carries c.args.text.now
    c.loop-carries.text c.serve.new.text c.loop-carries.invariant c.in_default.ensures.ok

pub returns-clause-ok : goal.returns-clause-ok
returns-clause-ok c =
    let full : c.loop-carries.carries ≡ 100000 = omega arith in
    on_ok_weaker c.append_flow-2.result
    (λ told. flow_full c.args.network.now c.loop-carries.network c.args.number c.loop-carries.carries c.args.text.now
    c.loop-carries.text c.append_flow-2.new.text full c.loop-carries.invariant told)
    c.append_flow-2.ensures.ok
