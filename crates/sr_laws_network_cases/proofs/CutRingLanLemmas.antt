-- The run of a ring with LANs in which links are cut, worked out.
use Rattle.std.proofs.Common.{◌≡◌, inl, ℕ, true, false, List, [], ◌∷◌, ◌++◌, map, None, Some, refl, sym, ap, ◌∙◌, arith}
use Rattle.std.specs.Prelude.{replicate}
use Rattle.sr_frame.specs.Frame.{HasFrameLength, Fields, padded, spelling}
use Rattle.sr_frame.specs.declared.ports.Port.TheVariants.{H, A, B, C}
use Rattle.sr_hsr_tag.specs.declared.tag.HsrTag.{HsrTag}
use Rattle.sr_hsr_tag.specs.Tagged.{IsTagged, tag_octets}
use Rattle.sr_prp_trailer.specs.declared.trailer.Lan.TheVariants as lan
use Rattle.sr_prp_trailer.specs.declared.trailer.Trailer.{Trailer}
use Rattle.sr_prp_trailer.specs.Trailed.{IsTrailed, trailer_octets}
use Rattle.sr_dup_table.specs.declared.width.Width.{Width}
use Rattle.sr_forwarding.specs.declared.form.Form.TheVariants as form
use Rattle.sr_forwarding.specs.declared.kind.RoleKind.TheVariants.{Danp, Danh, Prp}
use Rattle.sr_forwarding.specs.declared.net_id.NetId.TheVariants.{One}
use Rattle.sr_forwarding.specs.Decoding.{IsTaggedParcel, IsTrailedParcel}
use Rattle.sr_forwarding.specs.Encoding.{IsTaggedAnew, IsTrailedAnew}
use Rattle.sr_forwarding.specs.Octets.{is_supervision}
use Rattle.sr_forwarding.specs.OctetLemmas.{supervision_is}
use Rattle.sr_forwarding.specs.Outlets.{to}
use Rattle.sr_forwarding.specs.Parcels.{ParcelImage, plain_parcel}
use Rattle.sr_node.specs.declared.event.Answer.TheVariants as answer
use Rattle.sr_node.specs.Arriving.{passed}
use Rattle.sr_node.specs.Images.{State}
use Rattle.sr_node.specs.declared.mode.Mode.{Mode}
use Rattle.sr_node.specs.declared.mode.Mode.TheVariants as mode
use Rattle.sr_node.specs.declared.mode.Settings.{Settings}
use Rattle.sr_node.specs.Octets.{OctetsArrived}
use Rattle.sr_node.specs.Sending.{sent, sent_parcel, send_outlets}
use Rattle.sr_node.specs.Starts.{Start, begun_as}
use Rattle.sr_supervision.specs.Supervised.{IsSupervision}
use Rattle.sr_supervision.specs.declared.message.Supervision.{Supervision}
use Rattle.sr_plant.specs.declared.topology.Topology.{Topology}
use Rattle.sr_plant.specs.declared.topology.Topology.TheVariants.{RingLan}
use Rattle.sr_plant.specs.declared.event.PlantEvent.TheVariants.{Send, Carry, Cut}
use Rattle.sr_plant.specs.Building.{opening}
use Rattle.sr_plant.specs.Copies.{Copy}
use Rattle.sr_plant.specs.Plants.{Plant}
use Rattle.sr_plant.specs.Steps.{acted, without, PlantStep}
use Rattle.sr_plant.specs.Topologies.{framing_of}
use Rattle.sr_laws_plant_runs.specs.PlantRuns.{Turn, PlantRun}
use Rattle.sr_laws_plant_runs.specs.TableWidths.{least_width, greatest_width}
use Rattle.sr_laws_plant_runs.specs.Traffic.{IsWithinLimits}
use Rattle.sr_laws_plant_runs.specs.WorkedRun.{address}
use Rattle.sr_laws_plant_runs.proofs.WidthLemmas.{at_least, at_most}
use Rattle.sr_laws_network_cases.proofs.OneFrame.{number, few, none_few, timely}
use Rattle.sr_laws_network_cases.specs.CutNetworks.{node_of, frame_between, small_shape, small_ring_lan, CrossesPastCuts, CutRingLansMeetThePremises}

abbrev net : Topology
net = RingLan small_shape

abbrev crossing : List ℕ
crossing = frame_between 4 3

is_frame : HasFrameLength (padded crossing)
is_frame = record { least = omega arith; most = omega arith }

-- the frame as it goes over LAN B
abbrev trailer : Trailer
trailer = record { seq = number; lan = lan.B; size = 52 }

abbrev in_lan : List ℕ
in_lan = padded crossing ++ trailer_octets trailer

abbrev parcel_in_lan : ParcelImage
parcel_in_lan = record { form = form.Prp; octets = in_lan; seq = Some number; path = 3; wrong_lan = false }

trailed : IsTrailed in_lan (padded crossing) trailer
trailed = record { frame = is_frame; spelled = refl; size = refl; seq = omega arith }

written_in_lan : IsTrailedAnew lan.B (plain_parcel crossing (Some number)) in_lan
written_in_lan = record { seq = number; size = 52; trailed = trailed; seq_is = refl }

read_in_lan : IsTrailedParcel lan.B 1 in_lan parcel_in_lan
read_in_lan = record { plain = padded crossing; trailer = trailer; trailed = trailed; frame = record { least = omega arith; most = omega arith }; parcel = refl }

-- the frame as it goes over the ring from B of the second box
abbrev tag : HsrTag
tag = record { path = 3; size = 52; seq = number; inner = 0x0800 }

abbrev filling : List ℕ
filling = replicate 46 0

abbrev fields : Fields
fields = record { dst = (address 3).0; src = (address 4).0; vlan = None; ethertype = 0x892F; payload = tag_octets tag ++ filling }

abbrev in_ring : List ℕ
in_ring = spelling fields

abbrev parcel_in_ring : ParcelImage
parcel_in_ring = record { form = form.Hsr; octets = in_ring; seq = Some number; path = 3; wrong_lan = false }

tagged : IsTagged in_ring (padded crossing) tag
tagged = record {
  fields = fields;
  rest = filling;
  legal = record { dst = refl; src = refl; vlan = λ control e. cc; ethertype = omega arith; untagged = λ e f. absurd (omega (arith, f)); size = omega arith };
  spelled = refl;
  ethertype = refl;
  payload = refl;
  plain_is = refl;
  tag = record { path = omega arith; size = omega arith; seq = omega arith; inner = omega arith };
}

written_in_ring : IsTaggedAnew 3 parcel_in_lan in_ring
written_in_ring = record { tag = tag; tagged = tagged; seq = refl; path_is = refl; size = refl; place = refl }

read_in_ring : IsTaggedParcel in_ring parcel_in_ring
read_in_ring = record { plain = padded crossing; tag = tag; tagged = tagged; frame = is_frame; parcel = refl }

-- it says nothing of a node
says_nothing : (said : Supervision) → IsSupervision (padded crossing) said → ⊥
says_nothing said is =
    let there : true ≡ is_supervision (spelling is.fields) = supervision_is is.fields true is.legal (λ _. is.addressed, λ _. refl) in
    let none : true ≡ false = there ∙ ap is_supervision (sym is.spelled) in
    absurd cc

abbrev settings : Mode → Width → Settings
settings m w = record { mode = m; width = w }

-- the box of LAN B and the receiver, which are given by mode and width, since what they answer is worked out by these
abbrev box : Mode → Width → State
box m w = begun_as (node_of (Prp lan.B One) 2 (settings m w))

abbrev box_later : Mode → Width → State
box_later m w = passed (box m w) C parcel_in_lan number 0 (to (A ∷ B ∷ [])) None

box_takes : (m : Mode) (w : Width) → OctetsArrived (framing_of net 1 C) (box m w) C in_lan 0 (answer.Passed (A ∷ B ∷ [])) (box_later m w)
box_takes mode.H w = (parcel_in_lan, inl read_in_lan, refl, (refl, (None, says_nothing, refl, refl)))
box_takes mode.X w = (parcel_in_lan, inl read_in_lan, refl, (refl, (None, says_nothing, refl, refl)))

abbrev receiver : Mode → Width → State
receiver m w = begun_as (node_of Danh 3 (settings m w))

abbrev receiver_later : Mode → Width → State
receiver_later m w = passed (receiver m w) A parcel_in_ring number 0 (to (H ∷ [])) None

receiver_takes : (m : Mode) (w : Width) → OctetsArrived (framing_of net 2 A) (receiver m w) A in_ring 0 (answer.Passed (H ∷ [])) (receiver_later m w)
receiver_takes mode.H w = (parcel_in_ring, read_in_ring, refl, (refl, (None, says_nothing, refl, refl)))
receiver_takes mode.X w = (parcel_in_ring, read_in_ring, refl, (refl, (None, says_nothing, refl, refl)))

-- the two copies: over LAN B to the box, and in the ring to the receiver
abbrev first_copy : Copy
first_copy = record {
  hop = record { to = record { node = 1; port = C }; links = 5 ∷ 6 ∷ [] };
  from = 3;
  outlet = B;
  parcel = plain_parcel crossing (Some number);
}

abbrev last_copy : Copy
last_copy = record { hop = record { to = record { node = 2; port = A }; links = 1 ∷ [] }; from = 1; outlet = B; parcel = parcel_in_lan }

-- the sender has any settings, and so has the box of LAN A
abbrev sender : Settings → State
sender x = begun_as (node_of Danp 4 x)

abbrev sender_later : Settings → State
sender_later x = record (sender x) { core = sent (sender x) (sent_parcel (sender x) crossing) (send_outlets (sender x) crossing 0) 0 }

-- The plants, from event to event.
module _ (a d : Settings) (m : Mode) (w : Width) (n : Mode) (v : Width) where
  abbrev starts : List Start
  starts = small_ring_lan a (settings m w) (settings n v) d

  abbrev new_plant : Plant
  new_plant = opening net (map begun_as starts)

  abbrev once_cut : Plant
  once_cut = record new_plant { cut = false ∷ false ∷ false ∷ true ∷ false ∷ false ∷ false ∷ [] }

  cuts_lan : PlantStep new_plant (Cut 3) once_cut
  cuts_lan = refl

  abbrev twice_cut : Plant
  twice_cut = record new_plant { cut = true ∷ false ∷ false ∷ true ∷ false ∷ false ∷ false ∷ [] }

  cuts_ring : PlantStep once_cut (Cut 0) twice_cut
  cuts_ring = refl

  abbrev sent_plant : Plant
  sent_plant = acted twice_cut 3 (sender_later d) 0

  sends : PlantStep twice_cut (Send 3 crossing) sent_plant
  sends = record { before = sender d; answer = answer.Sent number; after = sender_later d; there = refl; fits = refl; step = (refl, refl); plant = refl }

  abbrev half_way : Plant
  half_way = acted (without sent_plant 0) 1 (box_later m w) 0

  carries_over_lan : PlantStep sent_plant (Carry 0) half_way
  carries_over_lan = (
    first_copy,
    refl,
    inl (record {
      octets = in_lan;
      before = box m w;
      answer = answer.Passed (A ∷ B ∷ []);
      after = box_later m w;
      written = written_in_lan;
      there = refl;
      taken = box_takes m w;
      plant = refl;
    }),
  )

  abbrev last_plant : Plant
  last_plant = acted (without half_way 0) 2 (receiver_later n v) 0

  carries_round : PlantStep half_way (Carry 0) last_plant
  carries_round = (
    last_copy,
    refl,
    inl (record {
      octets = in_ring;
      before = receiver n v;
      answer = answer.Passed (H ∷ []);
      after = receiver_later n v;
      written = written_in_ring;
      there = refl;
      taken = receiver_takes n v;
      plant = refl;
    }),
  )

  abbrev turns : List Turn
  turns =
      record { before = half_way; event = Carry 0 } ∷ record { before = sent_plant; event = Carry 0 }
      ∷ record { before = twice_cut; event = Send 3 crossing } ∷ record { before = once_cut; event = Cut 0 }
      ∷ record { before = new_plant; event = Cut 3 } ∷ []

  runs : PlantRun net starts turns last_plant
  runs = (
    (((((refl, refl), refl, cuts_lan), refl, cuts_ring), refl, sends), refl, carries_over_lan),
    refl,
    carries_round,
  )

  within : IsWithinLimits starts turns
  within =
      let some = at_least starts in
      let small = at_most starts in
      let least = least_width starts in
      let most = greatest_width starts in (
        (
          (((tt, tt, none_few most small), tt, none_few most small), tt, few 3 most small),
          timely 3 least some sent_plant refl,
          few 3 most small,
        ),
        timely 3 least some half_way refl,
        few 3 most small,
      )

  crosses : CrossesPastCuts net starts (map (λ turn. turn.event) turns) crossing 2 turns last_plant
  crosses = record {
    events = refl;
    run = runs;
    own = ((refl, refl), ((refl, refl), ((refl, refl), ((refl, refl), tt))));
    limits = within;
    quiet = refl;
    parcel = parcel_in_ring;
    up = refl;
    sent = (refl, refl);
  }

pub cut_ring_lans_meet_the_premises : CutRingLansMeetThePremises
cut_ring_lans_meet_the_premises a b c d = (
  turns a d b.mode b.width c.mode c.width,
  last_plant a d b.mode b.width c.mode c.width,
  crosses a d b.mode b.width c.mode c.width,
)
