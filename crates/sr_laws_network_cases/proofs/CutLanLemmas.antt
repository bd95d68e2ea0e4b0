-- The run of two LANs in which a link is cut, worked out.
use Rattle.std.proofs.Common.{◌≡◌, inl, ℕ, true, false, List, [], ◌∷◌, ◌++◌, map, None, Some, refl, sym, ap, ◌∙◌, arith}
use Rattle.sr_frame.specs.Frame.{HasFrameLength, padded, spelling}
use Rattle.sr_frame.specs.declared.ports.Port.TheVariants.{H, B}
use Rattle.sr_prp_trailer.specs.declared.trailer.Lan.TheVariants as lan
use Rattle.sr_prp_trailer.specs.declared.trailer.Trailer.{Trailer}
use Rattle.sr_prp_trailer.specs.Trailed.{IsTrailed, trailer_octets}
use Rattle.sr_dup_table.specs.declared.width.Width.{Width}
use Rattle.sr_forwarding.specs.declared.form.Form.TheVariants as form
use Rattle.sr_forwarding.specs.declared.kind.RoleKind.TheVariants.{Danp}
use Rattle.sr_forwarding.specs.Decoding.{IsTrailedParcel}
use Rattle.sr_forwarding.specs.Encoding.{IsTrailedAnew}
use Rattle.sr_forwarding.specs.Octets.{is_supervision}
use Rattle.sr_forwarding.specs.OctetLemmas.{supervision_is}
use Rattle.sr_forwarding.specs.Outlets.{to}
use Rattle.sr_forwarding.specs.Parcels.{ParcelImage, plain_parcel}
use Rattle.sr_node.specs.declared.event.Answer.TheVariants as answer
use Rattle.sr_node.specs.Arriving.{passed}
use Rattle.sr_node.specs.Images.{State}
use Rattle.sr_node.specs.declared.mode.Mode.{Mode}
use Rattle.sr_node.specs.declared.mode.Mode.TheVariants as mode
use Rattle.sr_node.specs.declared.mode.Settings.{Settings}
use Rattle.sr_node.specs.Octets.{OctetsArrived}
use Rattle.sr_node.specs.Sending.{sent, sent_parcel, send_outlets}
use Rattle.sr_node.specs.Starts.{Start, begun_as}
use Rattle.sr_supervision.specs.Supervised.{IsSupervision}
use Rattle.sr_supervision.specs.declared.message.Supervision.{Supervision}
use Rattle.sr_plant.specs.declared.topology.Topology.{Topology}
use Rattle.sr_plant.specs.declared.topology.Topology.TheVariants.{TwinLan}
use Rattle.sr_plant.specs.declared.event.PlantEvent.TheVariants.{Send, Carry, Cut}
use Rattle.sr_plant.specs.Building.{opening}
use Rattle.sr_plant.specs.Copies.{Copy}
use Rattle.sr_plant.specs.Plants.{Plant}
use Rattle.sr_plant.specs.Steps.{acted, without, PlantStep}
use Rattle.sr_plant.specs.Topologies.{framing_of}
use Rattle.sr_laws_plant_runs.specs.PlantRuns.{Turn, PlantRun}
use Rattle.sr_laws_plant_runs.specs.TableWidths.{least_width, greatest_width}
use Rattle.sr_laws_plant_runs.specs.Traffic.{IsWithinLimits}
use Rattle.sr_laws_plant_runs.proofs.WidthLemmas.{at_least, at_most}
use Rattle.sr_laws_network_cases.proofs.OneFrame.{number, few, none_few, timely}
use Rattle.sr_laws_network_cases.specs.CutNetworks.{node_of, frame_between, small_lans, CrossesPastCuts, CutLansMeetThePremises}

abbrev net : Topology
net = TwinLan

abbrev crossing : List ℕ
crossing = frame_between 1 2

is_frame : HasFrameLength (padded crossing)
is_frame = record { least = omega arith; most = omega arith }

-- the frame as it goes over LAN B
abbrev trailer : Trailer
trailer = record { seq = number; lan = lan.B; size = 52 }

abbrev carried : List ℕ
carried = padded crossing ++ trailer_octets trailer

abbrev parcel_over : ParcelImage
parcel_over = record { form = form.Prp; octets = carried; seq = Some number; path = 1; wrong_lan = false }

trailed : IsTrailed carried (padded crossing) trailer
trailed = record { frame = is_frame; spelled = refl; size = refl; seq = omega arith }

written : IsTrailedAnew lan.B (plain_parcel crossing (Some number)) carried
written = record { seq = number; size = 52; trailed = trailed; seq_is = refl }

read : IsTrailedParcel lan.B 0 carried parcel_over
read = record { plain = padded crossing; trailer = trailer; trailed = trailed; frame = record { least = omega arith; most = omega arith }; parcel = refl }

-- it says nothing of a node
says_nothing : (said : Supervision) → IsSupervision (padded crossing) said → ⊥
says_nothing said is =
    let there : true ≡ is_supervision (spelling is.fields) = supervision_is is.fields true is.legal (λ _. is.addressed, λ _. refl) in
    let none : true ≡ false = there ∙ ap is_supervision (sym is.spelled) in
    absurd cc

abbrev settings : Mode → Width → Settings
settings m w = record { mode = m; width = w }

-- the receiver, which is given by mode and width, since what it answers is worked out by these
abbrev receiver : Mode → Width → State
receiver m w = begun_as (node_of Danp 2 (settings m w))

abbrev receiver_later : Mode → Width → State
receiver_later m w = passed (receiver m w) B parcel_over number 0 (to (H ∷ [])) None

receiver_takes : (m : Mode) (w : Width) → OctetsArrived (framing_of net 1 B) (receiver m w) B carried 0 (answer.Passed (H ∷ [])) (receiver_later m w)
receiver_takes mode.H w = (parcel_over, inl read, refl, (refl, (None, says_nothing, refl, refl)))
receiver_takes mode.X w = (parcel_over, inl read, refl, (refl, (None, says_nothing, refl, refl)))

abbrev copy : Copy
copy = record { hop = record { to = record { node = 1; port = B }; links = 2 ∷ 3 ∷ [] }; from = 0; outlet = B; parcel = plain_parcel crossing (Some number) }

-- the sender has any settings
abbrev sender : Settings → State
sender x = begun_as (node_of Danp 1 x)

abbrev sender_later : Settings → State
sender_later x = record (sender x) { core = sent (sender x) (sent_parcel (sender x) crossing) (send_outlets (sender x) crossing 0) 0 }

-- The plants, from event to event.
module _ (x : Settings) (m : Mode) (w : Width) where
  abbrev starts : List Start
  starts = small_lans x (settings m w)

  abbrev new_plant : Plant
  new_plant = opening net (map begun_as starts)

  abbrev cut_plant : Plant
  cut_plant = record new_plant { cut = true ∷ false ∷ false ∷ false ∷ [] }

  cuts : PlantStep new_plant (Cut 0) cut_plant
  cuts = refl

  abbrev sent_plant : Plant
  sent_plant = acted cut_plant 0 (sender_later x) 0

  sends : PlantStep cut_plant (Send 0 crossing) sent_plant
  sends = record { before = sender x; answer = answer.Sent number; after = sender_later x; there = refl; fits = refl; step = (refl, refl); plant = refl }

  abbrev last_plant : Plant
  last_plant = acted (without sent_plant 0) 1 (receiver_later m w) 0

  carries : PlantStep sent_plant (Carry 0) last_plant
  carries = (
    copy,
    refl,
    inl (record {
      octets = carried;
      before = receiver m w;
      answer = answer.Passed (H ∷ []);
      after = receiver_later m w;
      written = written;
      there = refl;
      taken = receiver_takes m w;
      plant = refl;
    }),
  )

  abbrev turns : List Turn
  turns =
      record { before = sent_plant; event = Carry 0 } ∷ record { before = cut_plant; event = Send 0 crossing }
      ∷ record { before = new_plant; event = Cut 0 } ∷ []

  runs : PlantRun net starts turns last_plant
  runs = ((((refl, refl), refl, cuts), refl, sends), refl, carries)

  within : IsWithinLimits starts turns
  within =
      let some = at_least starts in
      let small = at_most starts in
      let least = least_width starts in
      let most = greatest_width starts in
      (((tt, tt, none_few most small), tt, few 0 most small), timely 0 least some sent_plant refl, few 0 most small)

  crosses : CrossesPastCuts net starts (map (λ turn. turn.event) turns) crossing 1 turns last_plant
  crosses = record {
    events = refl;
    run = runs;
    own = ((refl, refl), ((refl, refl), tt));
    limits = within;
    quiet = refl;
    parcel = parcel_over;
    up = refl;
    sent = (refl, refl);
  }

pub cut_lans_meet_the_premises : CutLansMeetThePremises
cut_lans_meet_the_premises a b = (turns a b.mode b.width, last_plant a b.mode b.width, crosses a b.mode b.width)
