use Rattle.std.proofs.Common.{ℕ, List, subst}
use Rattle.sr_node.specs.Arriving.{arrival_answer}
use Rattle.sr_node.specs.Images.{time_at}
use Rattle.sr_node.specs.Octets.{OctetsRefused}
use Rattle.sr_node.specs.States.{state_of}
use Rattle.sr_forwarding.specs.PortFramings.{carried_as}
use Rattle.sr_plant.proofs.GivenLemmas.{arrived_few}
use Rattle.sr_plant.proofs.LandLemmas.{fails, loses}
use Rattle.sr_plant.proofs.arriving.arrive_out.Goals as goal

pub returns-in-Err-clause-err : goal.returns-in-Err-clause-err
returns-in-Err-clause-err g c =
    let framing = carried_as c.args.framing in
    let s = state_of g.R.Role.meaning c.args.node.now in
    let a = c.args.arriving.now in
    let refused = subst (λ (octets : List ℕ). OctetsRefused framing s a.port octets c.args.now c.in-Err.fault) c.octets.ensures.whole c.in-Err.ensures.err in
    fails framing s a.port a.octets c.args.now c.in-Err.fault c.refused.result refused c.refused.ensures.err

pub returns-in-Err-clause-ok : goal.returns-in-Err-clause-ok
returns-in-Err-clause-ok g c =
    let framing = carried_as c.args.framing in
    let s = state_of g.R.Role.meaning c.args.node.now in
    let a = c.args.arriving.now in
    let refused = subst (λ (octets : List ℕ). OctetsRefused framing s a.port octets c.args.now c.in-Err.fault) c.octets.ensures.whole c.in-Err.ensures.err in
    loses framing s a.port a.octets c.args.now c.in-Err.fault c.refused.result _ _ _ refused c.in-Err.ensures.same c.in_ok-reserve.ensures.items c.refused.ensures.ok

pub take_out-requires-clause-few : goal.take_out-requires-clause-few
take_out-requires-clause-few g c =
    let s = state_of g.R.Role.meaning c.args.node.now in
    let o = c.in_default.ensures.ok in
    arrived_few s c.args.arriving.now.port o.0 (time_at s c.args.now) (arrival_answer c.in_default.field-0) (state_of g.R.Role.meaning c.arrive.new.node) c.requires o.3
