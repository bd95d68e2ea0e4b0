-- The run of two nodes of a ring with a cut link, worked out.
use Rattle.std.proofs.Common.{◌≡◌, inl, ℕ, true, false, List, [], ◌∷◌, ◌++◌, map, None, Some, refl, sym, ap, ◌∙◌, arith}
use Rattle.std.specs.Prelude.{replicate}
use Rattle.sr_frame.specs.Frame.{HasFrameLength, Fields, padded, spelling}
use Rattle.sr_frame.specs.declared.ports.Port.TheVariants.{H, A, B}
use Rattle.sr_hsr_tag.specs.declared.tag.HsrTag.{HsrTag}
use Rattle.sr_hsr_tag.specs.Tagged.{IsTagged, tag_octets}
use Rattle.sr_dup_table.specs.declared.width.Width.{Width}
use Rattle.sr_forwarding.specs.declared.form.Form.TheVariants as form
use Rattle.sr_forwarding.specs.declared.kind.RoleKind.TheVariants.{Danh}
use Rattle.sr_forwarding.specs.Decoding.{IsTaggedParcel}
use Rattle.sr_forwarding.specs.Encoding.{IsTaggedAnew}
use Rattle.sr_forwarding.specs.Octets.{is_supervision}
use Rattle.sr_forwarding.specs.OctetLemmas.{supervision_is}
use Rattle.sr_forwarding.specs.Outlets.{to}
use Rattle.sr_forwarding.specs.Parcels.{ParcelImage, plain_parcel}
use Rattle.sr_forwarding.specs.RoleImages.{role_of}
use Rattle.sr_node.specs.declared.event.Answer.TheVariants as answer
use Rattle.sr_node.specs.Arriving.{going_on, passed}
use Rattle.sr_node.specs.Images.{State}
use Rattle.sr_node.specs.declared.mode.Mode.{Mode}
use Rattle.sr_node.specs.declared.mode.Mode.TheVariants as mode
use Rattle.sr_node.specs.declared.mode.Settings.{Settings}
use Rattle.sr_node.specs.Octets.{OctetsArrived}
use Rattle.sr_node.specs.Sending.{sent, sent_parcel, send_outlets}
use Rattle.sr_node.specs.Starts.{Start, begun_as}
use Rattle.sr_supervision.specs.Supervised.{IsSupervision}
use Rattle.sr_supervision.specs.declared.message.Supervision.{Supervision}
use Rattle.sr_plant.specs.declared.topology.Topology.TheVariants.{Ring}
use Rattle.sr_plant.specs.declared.event.PlantEvent.TheVariants.{Send, Carry, Cut}
use Rattle.sr_plant.specs.Building.{opening}
use Rattle.sr_plant.specs.Copies.{Copy}
use Rattle.sr_plant.specs.Plants.{Plant}
use Rattle.sr_plant.specs.Steps.{acted, without, PlantStep}
use Rattle.sr_plant.specs.Topologies.{framing_of}
use Rattle.sr_laws_plant_runs.specs.PlantRuns.{Turn, PlantRun}
use Rattle.sr_laws_plant_runs.specs.TableWidths.{least_width, greatest_width}
use Rattle.sr_laws_plant_runs.specs.Traffic.{IsWithinLimits}
use Rattle.sr_laws_plant_runs.specs.WorkedRun.{address, greeting}
use Rattle.sr_laws_plant_runs.proofs.WidthLemmas.{at_least, at_most}
use Rattle.sr_laws_network_cases.proofs.OneFrame.{number, few, none_few, timely}
use Rattle.sr_laws_network_cases.specs.CutRing.{ring_of_two, PassesTheCut, CutRingsMeetThePremises}

-- the frame as it goes over the ring from A of the first node
abbrev tag : HsrTag
tag = record { path = 0; size = 52; seq = number; inner = 0x0800 }

abbrev filling : List ℕ
filling = replicate 46 0

abbrev fields : Fields
fields = record { dst = (address 2).0; src = (address 1).0; vlan = None; ethertype = 0x892F; payload = tag_octets tag ++ filling }

abbrev carried : List ℕ
carried = spelling fields

abbrev parcel_over : ParcelImage
parcel_over = record { form = form.Hsr; octets = carried; seq = Some number; path = 0; wrong_lan = false }

is_frame : HasFrameLength (padded greeting)
is_frame = record { least = omega arith; most = omega arith }

tagged : IsTagged carried (padded greeting) tag
tagged = record {
  fields = fields;
  rest = filling;
  legal = record { dst = refl; src = refl; vlan = λ control e. cc; ethertype = omega arith; untagged = λ e f. absurd (omega (arith, f)); size = omega arith };
  spelled = refl;
  ethertype = refl;
  payload = refl;
  plain_is = refl;
  tag = record { path = omega arith; size = omega arith; seq = omega arith; inner = omega arith };
}

written : IsTaggedAnew 0 (plain_parcel greeting (Some number)) carried
written = record { tag = tag; tagged = tagged; seq = refl; path_is = refl; size = refl; place = refl }

read : IsTaggedParcel carried parcel_over
read = record { plain = padded greeting; tag = tag; tagged = tagged; frame = is_frame; parcel = refl }

-- it says nothing of a node
says_nothing : (said : Supervision) → IsSupervision (padded greeting) said → ⊥
says_nothing said is =
    let there : true ≡ is_supervision (spelling is.fields) = supervision_is is.fields true is.legal (λ _. is.addressed, λ _. refl) in
    let none : true ≡ false = there ∙ ap is_supervision (sym is.spelled) in
    absurd cc

-- The plants, from event to event. The first node has any settings. Those of the second are given by mode and width, since what it
-- answers is worked out by these.
abbrev starts : Settings → Mode → Width → List Start
starts x m w = ring_of_two x (record { mode = m; width = w })

abbrev new_plant : Settings → Mode → Width → Plant
new_plant x m w = opening Ring (map begun_as (starts x m w))

abbrev cut_plant : Settings → Mode → Width → Plant
cut_plant x m w = record (new_plant x m w) { cut = true ∷ false ∷ [] }

cuts : (x : Settings) (m : Mode) (w : Width) → PlantStep (new_plant x m w) (Cut 0) (cut_plant x m w)
cuts x m w = refl

-- the sender before and after
abbrev sender : Settings → State
sender x = begun_as (record { role = role_of Danh (address 1); settings = x })

abbrev sender_later : Settings → State
sender_later x = record (sender x) { core = sent (sender x) (sent_parcel (sender x) greeting) (send_outlets (sender x) greeting 0) 0 }

abbrev sent_plant : Settings → Mode → Width → Plant
sent_plant x m w = acted (cut_plant x m w) 0 (sender_later x) 0

sends : (x : Settings) (m : Mode) (w : Width) → PlantStep (cut_plant x m w) (Send 0 greeting) (sent_plant x m w)
sends x m w = record {
  before = sender x;
  answer = answer.Sent number;
  after = sender_later x;
  there = refl;
  fits = refl;
  step = (refl, refl);
  plant = refl;
}

-- the copy that is left, on its way from A of the first node to B of the second
abbrev copy : Copy
copy = record { hop = record { to = record { node = 1; port = B }; links = 1 ∷ [] }; from = 0; outlet = A; parcel = plain_parcel greeting (Some number) }

one_left : (x : Settings) (m : Mode) (w : Width) → (sent_plant x m w).flight ≡ copy ∷ []
one_left x m w = refl

-- the receiver before and after
abbrev receiver : Mode → Width → State
receiver m w = begun_as (record { role = role_of Danh (address 2); settings = record { mode = m; width = w } })

abbrev with_copy : Mode → Width → State
with_copy m w = passed (receiver m w) B (going_on (receiver m w) B parcel_over) (receiver m w).core.next 0 (to (H ∷ [])) None

abbrev carried_plant : Settings → Mode → Width → Plant
carried_plant x m w = acted (without (sent_plant x m w) 0) 1 (with_copy m w) 0

taken : (m : Mode) (w : Width) → OctetsArrived (framing_of Ring 1 B) (receiver m w) B carried 0 (answer.Passed (H ∷ [])) (with_copy m w)
taken mode.H w = (parcel_over, read, refl, (refl, (None, says_nothing, refl, refl)))
taken mode.X w = (parcel_over, read, refl, (refl, (None, says_nothing, refl, refl)))

carries : (x : Settings) (m : Mode) (w : Width) → PlantStep (sent_plant x m w) (Carry 0) (carried_plant x m w)
carries x m w = (
  copy,
  refl,
  inl (record {
    octets = carried;
    before = receiver m w;
    answer = answer.Passed (H ∷ []);
    after = with_copy m w;
    written = written;
    there = refl;
    taken = taken m w;
    plant = refl;
  }),
)

abbrev turns : Settings → Mode → Width → List Turn
turns x m w =
    record { before = sent_plant x m w; event = Carry 0 } ∷ record { before = cut_plant x m w; event = Send 0 greeting }
    ∷ record { before = new_plant x m w; event = Cut 0 } ∷ []

runs : (x : Settings) (m : Mode) (w : Width) → PlantRun Ring (starts x m w) (turns x m w) (carried_plant x m w)
runs x m w = ((((refl, refl), refl, cuts x m w), refl, sends x m w), refl, carries x m w)

within : (x : Settings) (m : Mode) (w : Width) → IsWithinLimits (starts x m w) (turns x m w)
within x m w =
    let some = at_least (starts x m w) in
    let small = at_most (starts x m w) in
    let most = greatest_width (starts x m w) in (
      ((tt, tt, none_few most small), tt, few 0 most small),
      timely 0 (least_width (starts x m w)) some (sent_plant x m w) refl,
      few 0 most small,
    )

passes : (x : Settings) (m : Mode) (w : Width) → PassesTheCut (starts x m w) (turns x m w) (carried_plant x m w)
passes x m w = record {
  events = refl;
  run = runs x m w;
  own = ((refl, refl), ((refl, refl), tt));
  limits = within x m w;
  quiet = refl;
  parcel = going_on (receiver m w) B parcel_over;
  up = refl;
  sent = (refl, refl);
}

pub cut_rings_meet_the_premises : CutRingsMeetThePremises
cut_rings_meet_the_premises x y = (turns x y.mode y.width, carried_plant x y.mode y.width, passes x y.mode y.width)
