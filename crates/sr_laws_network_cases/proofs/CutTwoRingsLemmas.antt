-- The run of two rings in which links are cut, worked out.
use Rattle.std.proofs.Common.{◌≡◌, inl, ℕ, true, false, List, [], ◌∷◌, ◌++◌, map, None, Some, refl, sym, ap, ◌∙◌, arith}
use Rattle.std.specs.Prelude.{replicate}
use Rattle.sr_frame.specs.Frame.{HasFrameLength, Fields, padded, spelling}
use Rattle.sr_frame.specs.declared.ports.Port.TheVariants.{H, A, B, C}
use Rattle.sr_hsr_tag.specs.declared.tag.HsrTag.{HsrTag}
use Rattle.sr_hsr_tag.specs.Tagged.{IsTagged, tag_octets}
use Rattle.sr_dup_table.specs.declared.width.Width.{Width}
use Rattle.sr_forwarding.specs.declared.form.Form.TheVariants as form
use Rattle.sr_forwarding.specs.declared.kind.RoleKind.TheVariants.{Danh, Hsr}
use Rattle.sr_forwarding.specs.Decoding.{IsTaggedParcel}
use Rattle.sr_forwarding.specs.Encoding.{IsTaggedAnew}
use Rattle.sr_forwarding.specs.Octets.{is_supervision}
use Rattle.sr_forwarding.specs.OctetLemmas.{supervision_is}
use Rattle.sr_forwarding.specs.Outlets.{to}
use Rattle.sr_forwarding.specs.Parcels.{ParcelImage, plain_parcel}
use Rattle.sr_node.specs.declared.event.Answer.TheVariants as answer
use Rattle.sr_node.specs.Arriving.{passed}
use Rattle.sr_node.specs.Images.{State}
use Rattle.sr_node.specs.declared.mode.Mode.{Mode}
use Rattle.sr_node.specs.declared.mode.Mode.TheVariants as mode
use Rattle.sr_node.specs.declared.mode.Settings.{Settings}
use Rattle.sr_node.specs.Octets.{OctetsArrived}
use Rattle.sr_node.specs.Sending.{sent, sent_parcel, send_outlets}
use Rattle.sr_node.specs.Starts.{Start, begun_as}
use Rattle.sr_supervision.specs.Supervised.{IsSupervision}
use Rattle.sr_supervision.specs.declared.message.Supervision.{Supervision}
use Rattle.sr_plant.specs.declared.topology.Topology.{Topology}
use Rattle.sr_plant.specs.declared.topology.Topology.TheVariants.{TwoRings}
use Rattle.sr_plant.specs.declared.event.PlantEvent.TheVariants.{Send, Carry, Cut}
use Rattle.sr_plant.specs.Building.{opening}
use Rattle.sr_plant.specs.Copies.{Copy}
use Rattle.sr_plant.specs.Plants.{Plant}
use Rattle.sr_plant.specs.Steps.{acted, without, PlantStep}
use Rattle.sr_plant.specs.Topologies.{framing_of}
use Rattle.sr_laws_plant_runs.specs.PlantRuns.{Turn, PlantRun}
use Rattle.sr_laws_plant_runs.specs.TableWidths.{least_width, greatest_width}
use Rattle.sr_laws_plant_runs.specs.Traffic.{IsWithinLimits}
use Rattle.sr_laws_plant_runs.specs.WorkedRun.{address}
use Rattle.sr_laws_plant_runs.proofs.WidthLemmas.{at_least, at_most}
use Rattle.sr_laws_network_cases.proofs.OneFrame.{number, few, none_few, timely}
use Rattle.sr_laws_network_cases.specs.CutNetworks.{node_of, frame_between, pair_shape, small_two_rings, CrossesPastCuts, CutTwoRingsMeetThePremises}

abbrev net : Topology
net = TwoRings pair_shape

abbrev crossing : List ℕ
crossing = frame_between 2 4

is_frame : HasFrameLength (padded crossing)
is_frame = record { least = omega arith; most = omega arith }

-- the frame as it goes over both rings and the join, from A of the sender on
abbrev tag : HsrTag
tag = record { path = 0; size = 52; seq = number; inner = 0x0800 }

abbrev filling : List ℕ
filling = replicate 46 0

abbrev fields : Fields
fields = record { dst = (address 4).0; src = (address 2).0; vlan = None; ethertype = 0x892F; payload = tag_octets tag ++ filling }

abbrev carried : List ℕ
carried = spelling fields

abbrev parcel_over : ParcelImage
parcel_over = record { form = form.Hsr; octets = carried; seq = Some number; path = 0; wrong_lan = false }

tagged : IsTagged carried (padded crossing) tag
tagged = record {
  fields = fields;
  rest = filling;
  legal = record { dst = refl; src = refl; vlan = λ control e. cc; ethertype = omega arith; untagged = λ e f. absurd (omega (arith, f)); size = omega arith };
  spelled = refl;
  ethertype = refl;
  payload = refl;
  plain_is = refl;
  tag = record { path = omega arith; size = omega arith; seq = omega arith; inner = omega arith };
}

written : IsTaggedAnew 0 (plain_parcel crossing (Some number)) carried
written = record { tag = tag; tagged = tagged; seq = refl; path_is = refl; size = refl; place = refl }

read : IsTaggedParcel carried parcel_over
read = record { plain = padded crossing; tag = tag; tagged = tagged; frame = is_frame; parcel = refl }

-- it says nothing of a node
says_nothing : (said : Supervision) → IsSupervision (padded crossing) said → ⊥
says_nothing said is =
    let there : true ≡ is_supervision (spelling is.fields) = supervision_is is.fields true is.legal (λ _. is.addressed, λ _. refl) in
    let none : true ≡ false = there ∙ ap is_supervision (sym is.spelled) in
    absurd cc

abbrev settings : Mode → Width → Settings
settings m w = record { mode = m; width = w }

-- the boxes and the receiver, which are given by mode and width, since what they answer is worked out by these
abbrev left_box : Mode → Width → State
left_box m w = begun_as (node_of Hsr 1 (settings m w))

abbrev left_later : Mode → Width → State
left_later m w = passed (left_box m w) B parcel_over number 0 (to (A ∷ C ∷ [])) None

left_takes : (m : Mode) (w : Width) → OctetsArrived (framing_of net 0 B) (left_box m w) B carried 0 (answer.Passed (A ∷ C ∷ [])) (left_later m w)
left_takes mode.H w = (parcel_over, read, refl, (refl, (None, says_nothing, refl, refl)))
left_takes mode.X w = (parcel_over, read, refl, (refl, (None, says_nothing, refl, refl)))

abbrev right_box : Mode → Width → State
right_box m w = begun_as (node_of Hsr 3 (settings m w))

abbrev right_later : Mode → Width → State
right_later m w = passed (right_box m w) C parcel_over number 0 (to (A ∷ B ∷ [])) None

right_takes : (m : Mode) (w : Width) → OctetsArrived (framing_of net 2 C) (right_box m w) C carried 0 (answer.Passed (A ∷ B ∷ [])) (right_later m w)
right_takes mode.H w = (parcel_over, read, refl, (refl, (None, says_nothing, refl, refl)))
right_takes mode.X w = (parcel_over, read, refl, (refl, (None, says_nothing, refl, refl)))

abbrev receiver : Mode → Width → State
receiver m w = begun_as (node_of Danh 4 (settings m w))

abbrev receiver_later : Mode → Width → State
receiver_later m w = passed (receiver m w) A parcel_over number 0 (to (H ∷ [])) None

receiver_takes : (m : Mode) (w : Width) → OctetsArrived (framing_of net 3 A) (receiver m w) A carried 0 (answer.Passed (H ∷ [])) (receiver_later m w)
receiver_takes mode.H w = (parcel_over, read, refl, (refl, (None, says_nothing, refl, refl)))
receiver_takes mode.X w = (parcel_over, read, refl, (refl, (None, says_nothing, refl, refl)))

-- the three copies: to the box of the left ring, over the join, and to the receiver
abbrev first_copy : Copy
first_copy = record {
  hop = record { to = record { node = 0; port = B }; links = 0 ∷ [] };
  from = 1;
  outlet = A;
  parcel = plain_parcel crossing (Some number);
}

abbrev over_the_join : Copy
over_the_join = record { hop = record { to = record { node = 2; port = C }; links = 4 ∷ [] }; from = 0; outlet = C; parcel = parcel_over }

abbrev last_copy : Copy
last_copy = record { hop = record { to = record { node = 3; port = A }; links = 2 ∷ [] }; from = 2; outlet = B; parcel = parcel_over }

-- the sender has any settings
abbrev sender : Settings → State
sender x = begun_as (node_of Danh 2 x)

abbrev sender_later : Settings → State
sender_later x = record (sender x) { core = sent (sender x) (sent_parcel (sender x) crossing) (send_outlets (sender x) crossing 0) 0 }

-- The plants, from event to event.
module _ (x : Settings) (m : Mode) (w : Width) (n : Mode) (v : Width) (o : Mode) (u : Width) where
  abbrev starts : List Start
  starts = small_two_rings (settings m w) x (settings n v) (settings o u)

  abbrev new_plant : Plant
  new_plant = opening net (map begun_as starts)

  abbrev once_cut : Plant
  once_cut = record new_plant { cut = false ∷ true ∷ false ∷ false ∷ false ∷ [] }

  cuts_left : PlantStep new_plant (Cut 1) once_cut
  cuts_left = refl

  abbrev twice_cut : Plant
  twice_cut = record new_plant { cut = false ∷ true ∷ false ∷ true ∷ false ∷ [] }

  cuts_right : PlantStep once_cut (Cut 3) twice_cut
  cuts_right = refl

  abbrev sent_plant : Plant
  sent_plant = acted twice_cut 1 (sender_later x) 0

  sends : PlantStep twice_cut (Send 1 crossing) sent_plant
  sends = record { before = sender x; answer = answer.Sent number; after = sender_later x; there = refl; fits = refl; step = (refl, refl); plant = refl }

  abbrev at_left : Plant
  at_left = acted (without sent_plant 0) 0 (left_later m w) 0

  carries_left : PlantStep sent_plant (Carry 0) at_left
  carries_left = (
    first_copy,
    refl,
    inl (record {
      octets = carried;
      before = left_box m w;
      answer = answer.Passed (A ∷ C ∷ []);
      after = left_later m w;
      written = written;
      there = refl;
      taken = left_takes m w;
      plant = refl;
    }),
  )

  abbrev at_right : Plant
  at_right = acted (without at_left 0) 2 (right_later n v) 0

  carries_over : PlantStep at_left (Carry 0) at_right
  carries_over = (
    over_the_join,
    refl,
    inl (record {
      octets = carried;
      before = right_box n v;
      answer = answer.Passed (A ∷ B ∷ []);
      after = right_later n v;
      written = refl;
      there = refl;
      taken = right_takes n v;
      plant = refl;
    }),
  )

  abbrev last_plant : Plant
  last_plant = acted (without at_right 0) 3 (receiver_later o u) 0

  carries_last : PlantStep at_right (Carry 0) last_plant
  carries_last = (
    last_copy,
    refl,
    inl (record {
      octets = carried;
      before = receiver o u;
      answer = answer.Passed (H ∷ []);
      after = receiver_later o u;
      written = refl;
      there = refl;
      taken = receiver_takes o u;
      plant = refl;
    }),
  )

  abbrev turns : List Turn
  turns =
      record { before = at_right; event = Carry 0 } ∷ record { before = at_left; event = Carry 0 }
      ∷ record { before = sent_plant; event = Carry 0 } ∷ record { before = twice_cut; event = Send 1 crossing }
      ∷ record { before = once_cut; event = Cut 3 } ∷ record { before = new_plant; event = Cut 1 } ∷ []

  runs : PlantRun net starts turns last_plant
  runs = (
    ((((((refl, refl), refl, cuts_left), refl, cuts_right), refl, sends), refl, carries_left), refl, carries_over),
    refl,
    carries_last,
  )

  within : IsWithinLimits starts turns
  within =
      let some = at_least starts in
      let small = at_most starts in
      let least = least_width starts in
      let most = greatest_width starts in (
        (
          (
            (((tt, tt, none_few most small), tt, none_few most small), tt, few 1 most small),
            timely 1 least some sent_plant refl,
            few 1 most small,
          ),
          timely 1 least some at_left refl,
          few 1 most small,
        ),
        timely 1 least some at_right refl,
        few 1 most small,
      )

  crosses : CrossesPastCuts net starts (map (λ turn. turn.event) turns) crossing 3 turns last_plant
  crosses = record {
    events = refl;
    run = runs;
    own = ((refl, refl), ((refl, refl), ((refl, refl), ((refl, refl), tt))));
    limits = within;
    quiet = refl;
    parcel = parcel_over;
    up = refl;
    sent = (refl, refl);
  }

pub cut_two_rings_meet_the_premises : CutTwoRingsMeetThePremises
cut_two_rings_meet_the_premises a b c d = (
  turns b a.mode a.width c.mode c.width d.mode d.width,
  last_plant b a.mode a.width c.mode c.width d.mode d.width,
  crosses b a.mode a.width c.mode c.width d.mode d.width,
)
