use Rattle.std.proofs.Common.{arith, ◌≡◌, ◌-◌, inl, refl}
use Rattle.sr_capture.proofs.Bodies.{body_done, body_ends, lacks_far}
use Rattle.sr_capture.proofs.record.take_body.Goals as goal

pub returns-in-Ok-clause-taken : goal.returns-in-Ok-clause-taken
returns-in-Ok-clause-taken g c =
    let s = c.in-Ok.ensures.taken in
    let front = rw c.in-Ok-true.field-0-test at c.in-Ok-true.ensures.taken in
    body_ends c.args.held c.args.wanted c.kept_of-near.result (c.args.held - c.kept_of-near.result) c.in-Ok.skipped c.keep.new.kept.items c.keep.new.kept.items _ _ _ front (s.0, s.1, s.2)
    (omega (arith, c.if-skipped-far.true, c.from.ensures)) (s.3.1 (omega (arith, c.if-skipped-far.true))) (omega (arith, c.kept_of-near.ensures.few))

pub returns-in-Ok-2-clause-taken : goal.returns-in-Ok-2-clause-taken
returns-in-Ok-2-clause-taken g c =
    let s = c.in-Ok-2.ensures.taken in
    let same : c.in-Ok.skipped ≡ c.in-Ok-2.field-0 = cc in
    let front = rw c.in-Ok-true.field-0-test at c.in-Ok-true.ensures.taken in
    body_done c.args.held c.args.wanted c.kept_of-near.result c.in-Ok-2.field-0 c.keep.new.kept.items _ _ _ front (s.0, s.1, s.2)
    (omega (arith, s.3.0, c.if-skipped-far.false, c.from.ensures, c.kept_of-near.ensures.few)) c.kept_of-near.ensures.all

pub returns-in-Err-skip-clause-fault : goal.returns-in-Err-skip-clause-fault
returns-in-Err-skip-clause-fault g c =
    let front = rw c.in-Ok-true.field-0-test at c.in-Ok-true.ensures.taken in (
      inl refl,
      lacks_far c.args.held c.kept_of-near.result (c.from.result - c.kept_of-near.result) c.in-Err-skip.skipped c.keep.new.kept.items _ _ _ front c.in-Err-skip.ensures.err
          (omega (arith, c.kept_of-near.ensures.few, c.from.ensures)),
    )
