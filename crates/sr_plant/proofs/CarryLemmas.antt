-- A plant after one of its copies was carried.
use Rattle.std.proofs.Common.{◌≡◌, ◌∙◌, ℕ, ◌<◌, List, length, map, get_or, slice_get, Some, None, inl, inr, sym, ap, subst, arith}
use Rattle.std.proofs.lemmas.List.{length-map}
use Rattle.sr_forwarding.specs.Parcels.{ParcelImage}
use Rattle.sr_node.specs.Images.{State, time_at}
use Rattle.sr_plant.specs.declared.event.PlantEvent.TheVariants.{Carry}
use Rattle.sr_plant.specs.declared.fault.PlantFault.{PlantFault}
use Rattle.sr_plant.specs.declared.node_step.Given.{Given}
use Rattle.sr_plant.specs.declared.arriving.Arriving.{Arriving}
use Rattle.sr_plant.specs.Copies.{Copy}
use Rattle.sr_plant.specs.Topologies.{framing_of}
use Rattle.sr_plant.specs.Plants.{Plant, IsInOrder}
use Rattle.sr_plant.specs.Steps.{Carried, Fails, acted, without}
use Rattle.sr_plant.specs.Carrying.{OneComesAs, TakesOut, LosesThem, FailsToLand}
use Rattle.sr_plant.proofs.ActLemmas.{at_map}
use Rattle.sr_plant.proofs.OrderLemmas.{each_got, got_within, arrived_kind, acted_in_order, without_in_order}

-- the place is one of the copies'
pub copy_within : (s : Plant) (place : ℕ) (a : Arriving) → OneComesAs s.topology s.flight place (Some a) → place < length s.flight
copy_within s place a one = got_within s.flight place one.0 one.1

-- the receiver is a node of the plant
receiver_within : (s : Plant) (place : ℕ) (a : Arriving) → IsInOrder s → OneComesAs s.topology s.flight place (Some a) →
    a.node < length s.nodes
receiver_within s place a order one =
    let got = each_got (λ (c : Copy). c.hop.to.node < length s.nodes) s.flight place one.0 order.receivers one.1 in
    rw one.2.node got.1

-- the receiver is one of these nodes, of which the plant is made
pub receiver_inside : {N : Type 0} (f : N → State) (ns : List N) (s : Plant) (place : ℕ) (a : Arriving) → s.nodes ≡ map f ns → IsInOrder s →
    OneComesAs s.topology s.flight place (Some a) → a.node < length ns
receiver_inside f ns s place a nodes order one =
    omega (arith, receiver_within s place a order one, ap length nodes, length-map ns f)

-- the plant has the receiver at the place that the copy leads to
pub receiver_there : {N : Type 0} (f : N → State) (ns : List N) (s : Plant) (place : ℕ) (a : Arriving) (n : N) → s.nodes ≡ map f ns → IsInOrder s →
    OneComesAs s.topology s.flight place (Some a) → n ≡ get_or ns a.node n → slice_get s.nodes a.node ≡ Some (f n)
receiver_there f ns s place a n nodes order one here =
    ap (λ (q : List State). slice_get q a.node) nodes ∙ at_map f ns a.node n here (receiver_inside f ns s place a nodes order one)

-- what the receiver refuses for its own sake
pub carry_fails : (s : Plant) (place now : ℕ) (a : Arriving) (before : State) (f : PlantFault) →
    OneComesAs s.topology s.flight place (Some a) → slice_get s.nodes a.node ≡ Some before → now ≡ s.clock →
    FailsToLand (framing_of s.topology a.node a.port) before a.port a.octets now f → Fails s (Carry place) f
carry_fails s place now a before f one there clock fails = elim fails [
  | inl memory ↦ inl memory
  | inr told ↦ inr (
    one.0,
    told.0,
    one.1,
    record {
      octets = a.octets;
      before = before;
      written = one.2.written;
      there = rw one.2.node at there;
      refused = rw (one.2.node, one.2.port, clock) at told.1;
    },
    told.2,
    told.3,
  )
]

-- what the receiver takes
pub taken_comes : (s : Plant) (place now : ℕ) (a : Arriving) (before : State) (given : Given)
    (up up_after : List ParcelImage) (u : State) (t : Plant) →
    OneComesAs s.topology s.flight place (Some a) → slice_get s.nodes a.node ≡ Some before → now ≡ s.clock →
    (out : TakesOut (framing_of s.topology a.node a.port) before a.port a.octets now given up up_after u) →
    t ≡ acted (without s place) a.node out.after s.clock → Carried s place t
taken_comes s place now a before given up up_after u t one there clock out plant = (
  one.0,
  one.1,
  inl (record {
    octets = a.octets;
    before = before;
    answer = out.answer;
    after = out.after;
    written = one.2.written;
    there = rw one.2.node at there;
    taken = rw (one.2.node, one.2.port, clock) at out.taken;
    plant = rw one.2.node at plant;
  }),
)

-- what the receiver refuses for the copy's sake
pub lost_goes : (s : Plant) (place now : ℕ) (a : Arriving) (before : State) (up up_after : List ParcelImage) (u : State) (t : Plant) →
    OneComesAs s.topology s.flight place (Some a) → slice_get s.nodes a.node ≡ Some before → now ≡ s.clock →
    LosesThem (framing_of s.topology a.node a.port) before a.port a.octets now up up_after u → t ≡ without s place → Carried s place t
lost_goes s place now a before up up_after u t one there clock lost plant = (
  one.0,
  one.1,
  inr (
    inl (
      lost.fault,
      lost.loss,
      record {
        octets = a.octets;
        before = before;
        written = one.2.written;
        there = rw one.2.node at there;
        refused = rw (one.2.node, one.2.port, clock) at lost.refused;
      },
    ),
    plant,
  ),
)

-- what has no octets
pub none_goes : (s : Plant) (place : ℕ) (t : Plant) → OneComesAs s.topology s.flight place None → t ≡ without s place → Carried s place t
none_goes s place t one plant = (one.0, one.1, inr (inr one.2, plant))

-- whatever becomes of the copy, the plant stays in order
pub carried_in_order : (s : Plant) (place : ℕ) (t : Plant) → IsInOrder s → Carried s place t → IsInOrder t
carried_in_order s place t order went = elim went.2 [
  | inl comes ↦
      let kind = arrived_kind comes.before went.0.hop.to.port comes.taken.0 (time_at comes.before s.clock) comes.answer comes.after comes.taken.3 in
      subst IsInOrder (sym comes.plant) (acted_in_order (without s place) went.0.hop.to.node s.clock comes.before comes.after (without_in_order s place order) comes.there kind)
  | inr lost ↦ subst IsInOrder (sym lost.1) (without_in_order s place order)
]
