use Rattle.std.proofs.Common.{◌≡◌, length, refl, ◌∙◌, arith, rules}
use Rattle.std.proofs.lemmas.List.{length-map}
use Rattle.sr_node.specs.States.{state_of}
use Rattle.sr_plant.specs.declared.event.PlantEvent.TheVariants.{Carry}
use Rattle.sr_plant.specs.Images.{plant_state, states_of}
use Rattle.sr_plant.specs.Plants.{IsEmptied}
use Rattle.sr_plant.specs.Steps.{Fails, without}
use Rattle.sr_plant.proofs.ActLemmas.{each_at, joined_for, put_back, node_acted}
use Rattle.sr_plant.proofs.CarryLemmas.{copy_within, receiver_inside, receiver_there, carry_fails, taken_comes, lost_goes, carried_in_order}
use Rattle.sr_plant.proofs.plant.PlantOf.bring.Goals as goal

pub arrive_out-requires : goal.arrive_out-requires
arrive_out-requires g c =
    let p = c.args.self.now in
    let a = c.args.arriving.now in
    let state = state_of g.R.Role.meaning in
    let inside = receiver_inside state p.nodes.items (plant_state g.R.Role.meaning p) c.args.place a refl c.requires.in_order c.requires.there in
    each_at IsEmptied state p.nodes.items a.node c.index_mut.result.now c.index_mut.ensures.value inside c.requires.in_order.emptied

pub remove-requires : goal.remove-requires
remove-requires g c =
    rw c.in_ok-reserve.ensures.copies (copy_within (plant_state g.R.Role.meaning c.args.self.now) c.args.place c.args.arriving.now c.requires.there)

pub put-requires-clause-node : goal.put-requires-clause-node
put-requires-clause-node g c =
    let p = c.args.self.now in
    let inside = receiver_inside (state_of g.R.Role.meaning) p.nodes.items (plant_state g.R.Role.meaning p) c.args.place c.args.arriving.now refl c.requires.in_order c.requires.there in
    omega (arith, inside, c.len-nodes.ensures, p.nodes.ok)

pub returns-in_err-landing-clause-err : goal.returns-in_err-landing-clause-err
returns-in_err-landing-clause-err g c =
    let p = c.args.self.now in
    let a = c.args.arriving.now in
    let s = plant_state g.R.Role.meaning p in
    let state = state_of g.R.Role.meaning in
    let n = c.index_mut.result.now in
    let f = c.in_err-landing.field-0.0 in
    let there = receiver_there state p.nodes.items s c.args.place a n refl c.requires.in_order c.requires.there c.index_mut.ensures.value in
    let clock = c.clock-now.ensures ∙ c.in_ok-reserve.ensures.rest.1 in
    let told : Fails s (Carry c.args.place) f =
    carry_fails s c.args.place c.clock-now.result a (state n) f c.requires.there there clock (rw c.framing_of-framing.ensures at c.in_err-landing.ensures.err) in
    search rules

pub returns-in_err-landing-clause-same : goal.returns-in_err-landing-clause-same
returns-in_err-landing-clause-same g c =
    let p = c.args.self.now in
    let r = c.in_ok-reserve.ensures in
    let h = c.in_err-landing.ensures.same in
    let same = put_back (state_of g.R.Role.meaning) (λ h. h.items) p.nodes.items p.handed.items p.topology c.reserve.new.self _ _ _ c.args.arriving.now.node
    c.index_mut.result.now c.arrive_out.new.node c.index_mut-2.result.now c.arrive_out.new.up
    h.0 c.index_mut.ensures.value h.1 c.index_mut-2.ensures.value r.copies r.rest.0 r.rest.1 in
    search rules

pub returns-in-Taken-clause-ok : goal.returns-in-Taken-clause-ok
returns-in-Taken-clause-ok g c =
    let p = c.args.self.now in
    let a = c.args.arriving.now in
    let s = plant_state g.R.Role.meaning p in
    let state = state_of g.R.Role.meaning in
    let n = c.index_mut.result.now in
    let r = c.in_ok-reserve.ensures in
    let v = c.remove.ensures in
    let inside = receiver_inside state p.nodes.items s c.args.place a refl c.requires.in_order c.requires.there in
    let there = receiver_there state p.nodes.items s c.args.place a n refl c.requires.in_order c.requires.there c.index_mut.ensures.value in
    let out = rw (c.in-Taken.is, c.framing_of-framing.ensures) at c.in_ok-landing.ensures.ok in
    let count : c.len-nodes.result ≡ length (states_of g.R.Role.meaning p.nodes.items) =
    omega (arith, c.len-nodes.ensures, p.nodes.ok, length-map p.nodes.items state) in
    let plant = node_acted state (λ h. h.items) p.nodes.items p.handed.items (without s c.args.place) a.node s.clock out.after c.in-Taken.given
    c.arrive_out.new.node c.index_mut-2.result.now c.arrive_out.new.up c.put.new.self
    refl refl c.requires.in_order.hosts inside c.index_mut-2.ensures.value out.gives
    (rw (v.copies, r.copies, v.rest.0, r.rest.0, count) at c.put.ensures.copies)
    (c.put.ensures.rest.0 ∙ (v.rest.0 ∙ r.rest.0))
    (c.put.ensures.rest.1 ∙ (v.rest.1 ∙ r.rest.1)) in
    taken_comes s c.args.place c.clock-now.result a (state n) c.in-Taken.given _ _ _ _ c.requires.there there (c.clock-now.ensures ∙ r.rest.1) out plant

pub returns-in-Taken-clause-in_order : goal.returns-in-Taken-clause-in_order
returns-in-Taken-clause-in_order g c =
    carried_in_order (plant_state g.R.Role.meaning c.args.self.now) c.args.place _ c.requires.in_order (returns-in-Taken-clause-ok g c)

pub returns-in_default-clause-ok : goal.returns-in_default-clause-ok
returns-in_default-clause-ok g c =
    let p = c.args.self.now in
    let a = c.args.arriving.now in
    let s = plant_state g.R.Role.meaning p in
    let state = state_of g.R.Role.meaning in
    let n = c.index_mut.result.now in
    let r = c.in_ok-reserve.ensures in
    let v = c.remove.ensures in
    let there = receiver_there state p.nodes.items s c.args.place a n refl c.requires.in_order c.requires.there c.index_mut.ensures.value in
    let lost = rw (c.in_default.is, c.framing_of-framing.ensures) at c.in_ok-landing.ensures.ok in
    let plant = put_back state (λ h. h.items) p.nodes.items p.handed.items p.topology c.remove.new.self _ _ _ a.node
    n c.arrive_out.new.node c.index_mut-2.result.now c.arrive_out.new.up
    lost.same c.index_mut.ensures.value lost.up c.index_mut-2.ensures.value
    (rw r.copies at v.copies) (v.rest.0 ∙ r.rest.0) (v.rest.1 ∙ r.rest.1) in
    lost_goes s c.args.place c.clock-now.result a (state n) _ _ _ _ c.requires.there there (c.clock-now.ensures ∙ r.rest.1) lost plant

pub returns-in_default-clause-in_order : goal.returns-in_default-clause-in_order
returns-in_default-clause-in_order g c =
    carried_in_order (plant_state g.R.Role.meaning c.args.self.now) c.args.place _ c.requires.in_order (returns-in_default-clause-ok g c)

pub put-requires-clause-joined : goal.put-requires-clause-joined
put-requires-clause-joined g c =
    let p = c.args.self.now in
    joined_for (state_of g.R.Role.meaning) p.nodes.items p.topology c.len-nodes.result c.requires.in_order.joined (omega (arith, c.len-nodes.ensures, p.nodes.ok))
