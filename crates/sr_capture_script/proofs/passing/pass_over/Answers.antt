use Rattle.std.proofs.Common.{inl, arith}
use Rattle.sr_capture_script.specs.Merging.{feed_of}
use Rattle.sr_capture_script.proofs.Coming.{come_none}
use Rattle.sr_capture_script.proofs.Outcomes.{handed_on}
use Rattle.sr_capture_script.proofs.Passes.{passing_on, passes_all, passing_stuck, passing_endless}
use Rattle.sr_capture_script.proofs.passing.pass_over.Goals as goal

pub returns-in_default-clause-takes : goal.returns-in_default-clause-takes
returns-in_default-clause-takes g c sa sb sc fa fb fc =
    let all = c.args.captures.now in
    passes_all g.R.Read.remaining g.P.Pass.takes c.args.choice.now c.start_of-start.result (feed_of all.a sa) (feed_of all.b sb) (feed_of all.c sc)
    c.packets.counter c.packets.captures c.packets.next c.args.pass.now c.packets.pass c.in_default.is
    (c.packets.invariant (feed_of all.a sa) (feed_of all.b sb) (feed_of all.c sc) (come_none g.R.Read.remaining sa sb sc all fa fb fc))

pub returns-in_err-advance-clause-ends : goal.returns-in_err-advance-clause-ends
returns-in_err-advance-clause-ends g c =
    handed_on c.from_residual-in_err-advance.result _ _ c.from_residual-in_err-advance.ensures.1 (λ sa sb sc fa fb fc.
    let all = c.args.captures.now in
    inl (passing_stuck g.R.Read.remaining g.P.Pass.takes c.args.choice.now c.start_of-start.result (feed_of all.a sa) (feed_of all.b sb) (feed_of all.c sc)
    c.packets.counter c.packets.captures c.advance.new.self c.packets.next c.in-Some.front _ c.args.pass.now c.packets.pass c.in-Some.is c.in_err-advance.ensures.stops
    (c.packets.invariant (feed_of all.a sa) (feed_of all.b sb) (feed_of all.c sc) (come_none g.R.Read.remaining sa sb sc all fa fb fc))))

pub packets-preserved : goal.packets-preserved
packets-preserved g c x y z h =
    passing_on g.R.Read.remaining g.P.Pass.takes c.args.choice.now c.start_of-start.result x y z c.packets.counter c.packets.captures c.advance.new.self c.packets.next
    c.front-next-in-packets.result c.in-Some.front c.packet.result.now c.args.pass.now c.packets.pass c.hand.new.pass c.in-Some.is c.packet.ensures
    c.in_ok-hand.ensures.taken c.in_ok-advance.ensures.goes c.advance.ensures.others c.front-next-in-packets.ensures.some
    c.front-next-in-packets.ensures.none (c.packets.invariant x y z h)

pub returns-clause-ends : goal.returns-clause-ends
returns-clause-ends g c sa sb sc fa fb fc =
    let all = c.args.captures.now in
    inl (passing_endless g.R.Read.remaining g.P.Pass.takes c.args.choice.now c.start_of-start.result (feed_of all.a sa) (feed_of all.b sb) (feed_of all.c sc)
    c.packets.counter c.packets.captures c.packets.next c.args.pass.now c.packets.pass (omega arith)
    (c.packets.invariant (feed_of all.a sa) (feed_of all.b sb) (feed_of all.c sc) (come_none g.R.Read.remaining sa sb sc all fa fb fc)))
