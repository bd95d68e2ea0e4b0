use Rattle.std.proofs.Common.{◌≡◌, ◌⊎◌, length, refl, ap, ◌∙◌, inl, inr, arith, rules}
use Rattle.std.proofs.lemmas.List.{length-map}
use Rattle.sr_node.specs.States.{state_of}
use Rattle.sr_plant.specs.declared.fault.PlantFault.TheVariants.{NoMemory}
use Rattle.sr_plant.specs.Images.{plant_state, states_of}
use Rattle.sr_plant.specs.Plants.{TrafficValue, IsEmptied}
use Rattle.sr_plant.specs.Steps.{NodeRefuses}
use Rattle.sr_plant.proofs.ActLemmas.{each_at, at_map, joined_for, put_back, node_acted}
use Rattle.sr_plant.proofs.OrderLemmas.{acts_in_order}
use Rattle.sr_plant.proofs.plant.PlantOf.act.Goals as goal

pub step_out-requires : goal.step_out-requires
step_out-requires g c =
    each_at IsEmptied (state_of g.R.Role.meaning) c.args.self.now.nodes.items c.args.node c.index_mut.result.now c.index_mut.ensures.value c.requires.there c.requires.in_order.emptied

pub returns-in_err-given-clause-err : goal.returns-in_err-given-clause-err
returns-in_err-given-clause-err g c =
    let p = c.args.self.now in
    let state = state_of g.R.Role.meaning in
    let n = c.index_mut.result.now in
    let there = at_map state p.nodes.items c.args.node n c.index_mut.ensures.value c.requires.there in
    let told : (c.in_err-given.field-0.0 ≡ NoMemory) ⊎ NodeRefuses (plant_state g.R.Role.meaning p) c.args.node c.args.event.now c.in_err-given.field-0.0 =
    elim c.in_err-given.ensures.err [
      | inl memory ↦ inl memory
      | inr refused ↦ inr (state n, there, refused)
    ] in
    search rules

pub returns-in_err-given-clause-same : goal.returns-in_err-given-clause-same
returns-in_err-given-clause-same g c =
    let p = c.args.self.now in
    let r = c.in_ok-reserve.ensures in
    let h = c.in_err-given.ensures.same in
    let same = put_back (state_of g.R.Role.meaning) (λ h. h.items) p.nodes.items p.handed.items p.topology c.reserve.new.self _ _ _ c.args.node
    c.index_mut.result.now c.step_out.new.node c.index_mut-2.result.now c.step_out.new.up
    h.0 c.index_mut.ensures.value h.1 c.index_mut-2.ensures.value r.copies r.rest.0 r.rest.1 in
    search rules

pub returns-clause-ok : goal.returns-clause-ok
returns-clause-ok g c =
    let p = c.args.self.now in
    let s = plant_state g.R.Role.meaning p in
    let state = state_of g.R.Role.meaning in
    let h = c.in_ok-given.ensures.ok in
    let n = c.index_mut.result.now in
    let r = c.in_ok-reserve.ensures in
    let count : c.len-nodes.result ≡ length (states_of g.R.Role.meaning p.nodes.items) =
    omega (arith, c.len-nodes.ensures, p.nodes.ok, length-map p.nodes.items state) in
    record {
      before = state n;
      answer = h.answer;
      after = h.after;
      there = at_map state p.nodes.items c.args.node n c.index_mut.ensures.value c.requires.there;
      fits = h.fits;
      step = h.step;
      plant = node_acted state (λ h. h.items) p.nodes.items p.handed.items s c.args.node c.args.now h.after c.in_ok-given.given
          c.step_out.new.node c.index_mut-2.result.now c.step_out.new.up c.set_clock.new.self
          refl refl c.requires.in_order.hosts c.requires.there c.index_mut-2.ensures.value h.gives
          (ap (λ (t : TrafficValue). t.flight.copies) c.set_clock.ensures ∙ (rw (r.copies, r.rest.0, count) at c.put.ensures.copies))
          (ap (λ (t : TrafficValue). t.cut) c.set_clock.ensures ∙ (c.put.ensures.rest.0 ∙ r.rest.0))
          (ap (λ (t : TrafficValue). t.clock) c.set_clock.ensures);
    }

pub returns-clause-in_order : goal.returns-clause-in_order
returns-clause-in_order g c =
    acts_in_order (plant_state g.R.Role.meaning c.args.self.now) c.args.node c.args.now c.args.event.now _ c.requires.in_order (returns-clause-ok g c)

pub put-requires-clause-joined : goal.put-requires-clause-joined
put-requires-clause-joined g c =
    let p = c.args.self.now in
    joined_for (state_of g.R.Role.meaning) p.nodes.items p.topology c.len-nodes.result c.requires.in_order.joined (omega (arith, c.len-nodes.ensures, p.nodes.ok))
