use Rattle.std.proofs.Common.{arith, refl, inr}
use Rattle.sr_capture.proofs.Bodies.{record_done, ends_early, lacks_body}
use Rattle.sr_capture.proofs.record.take_in_parts.Goals as goal

pub returns-in-Ok-true-clause-taken : goal.returns-in-Ok-true-clause-taken
returns-in-Ok-true-clause-taken g c =
    let h = rw c.in-Some.is at c.in_ok-head.ensures.taken in
    let body = rw c.in-Ok-true.field-0-test at c.in-Ok-true.ensures.taken in
    record_done c.args.form _ c.in-Some.head h.0 c.take_body.new.kept.items _ _ _ _ h.1 h.2 body
    c.wanted_of-wanted.ensures refl refl c.from-packet.ensures refl (omega (arith, c.from.ensures))

pub returns-in-Ok-false-clause-fault : goal.returns-in-Ok-false-clause-fault
returns-in-Ok-false-clause-fault g c =
    let h = rw c.in-Some.is at c.in_ok-head.ensures.taken in
    let body = rw c.in-Ok-false.field-0-test at c.in-Ok-false.ensures.taken in
    inr (refl, refl, ends_early _ _ _ c.args.form c.in-Some.head h.0 c.take_body.new.kept.items c.wanted_of-wanted.result h.1 h.2 body)

pub returns-in-Err-clause-fault : goal.returns-in-Err-clause-fault
returns-in-Err-clause-fault g c =
    let h = rw c.in-Some.is at c.in_ok-head.ensures.taken in
    lacks_body c.args.form c.in-Some.head _ c.in-Err.fault.reason c.in-Err.fault.at h.0 _ _ _ h.1 h.2 c.in-Err.ensures.fault refl refl
