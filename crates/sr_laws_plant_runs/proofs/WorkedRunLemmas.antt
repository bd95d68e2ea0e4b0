-- The run of two nodes, worked out.
use Rattle.std.proofs.Common.{◌≡◌, inl, inr, ℕ, suc, ◌+◌, ◌-◌, ◌<◌, ◌≤◌, ◌==◌, true, false, List, [], ◌∷◌, ◌++◌, map, None, Some, slice_get, refl, sym, ap, ◌∙◌, subst, arith}
use Rattle.std.proofs.lemmas.Bool.{cases_Bool}
use Rattle.sr_frame.specs.Frame.{HasFrameLength, padded, spelling}
use Rattle.sr_frame.specs.declared.ports.Port.{Port}
use Rattle.sr_frame.specs.declared.ports.Port.TheVariants.{H, A, B}
use Rattle.sr_sequence.specs.declared.Seq.{Seq}
use Rattle.sr_prp_trailer.specs.declared.trailer.Lan.{Lan}
use Rattle.sr_prp_trailer.specs.declared.trailer.Lan.TheVariants as lan
use Rattle.sr_prp_trailer.specs.declared.trailer.Trailer.{Trailer}
use Rattle.sr_prp_trailer.specs.Trailed.{IsTrailed, trailer_octets}
use Rattle.sr_dup_table.specs.declared.width.Width.{Width}
use Rattle.sr_dup_table.specs.declared.width.Width.TheVariants as width
use Rattle.sr_dup_table.specs.Limits.{forget_time}
use Rattle.sr_dup_window.specs.Windows.{no_marks}
use Rattle.sr_forwarding.specs.declared.form.Form.TheVariants as form
use Rattle.sr_forwarding.specs.declared.kind.RoleKind.TheVariants.{Danp}
use Rattle.sr_forwarding.specs.Decoding.{IsTrailedParcel}
use Rattle.sr_forwarding.specs.Encoding.{IsTrailedAnew}
use Rattle.sr_forwarding.specs.Framings.{path_of}
use Rattle.sr_forwarding.specs.Octets.{is_supervision}
use Rattle.sr_forwarding.specs.OctetLemmas.{supervision_is}
use Rattle.sr_forwarding.specs.Outlets.{to}
use Rattle.sr_forwarding.specs.Parcels.{ParcelImage, plain_parcel}
use Rattle.sr_forwarding.specs.RoleImages.{role_of}
use Rattle.sr_node.specs.declared.event.Answer.TheVariants as answer
use Rattle.sr_node.specs.Arriving.{going_on, passed}
use Rattle.sr_node.specs.Images.{State}
use Rattle.sr_node.specs.declared.mode.Mode.{Mode}
use Rattle.sr_node.specs.declared.mode.Mode.TheVariants as mode
use Rattle.sr_node.specs.declared.mode.Settings.{Settings}
use Rattle.sr_node.specs.Limits.{first_number}
use Rattle.sr_node.specs.Octets.{OctetsArrived}
use Rattle.sr_node.specs.Sending.{sent, sent_parcel, send_outlets}
use Rattle.sr_node.specs.Starts.{Start, begun_as}
use Rattle.sr_supervision.specs.Supervised.{IsSupervision}
use Rattle.sr_supervision.specs.declared.message.Supervision.{Supervision}
use Rattle.sr_plant.specs.declared.topology.Topology.TheVariants.{TwinLan}
use Rattle.sr_plant.specs.declared.event.PlantEvent.TheVariants.{Send, Carry}
use Rattle.sr_plant.specs.Building.{opening}
use Rattle.sr_plant.specs.Copies.{Copy}
use Rattle.sr_plant.specs.Plants.{Plant}
use Rattle.sr_plant.specs.Steps.{emptied, acted, without, PlantStep}
use Rattle.sr_plant.specs.Topologies.{framing_of}
use Rattle.sr_laws_plant_runs.specs.PlantRuns.{Turn, PlantRun}
use Rattle.sr_laws_plant_runs.specs.TableWidths.{least_width, greatest_width}
use Rattle.sr_laws_plant_runs.specs.Traffic.{Numbering, AreFew, IsTimely, IsWithinLimits, count_of}
use Rattle.sr_laws_plant_runs.specs.WorkedRun.{address, pair, greeting, Greets, PremisesAreMet}
use Rattle.sr_laws_plant_runs.proofs.WidthLemmas.{at_least, at_most}

abbrev number : Seq
number = record { 0 = first_number }

-- the frame as it is carried in a LAN
abbrev trailer : Lan → Trailer
trailer l = record { seq = number; lan = l; size = 52 }

abbrev carried : Lan → List ℕ
carried l = padded greeting ++ trailer_octets (trailer l)

abbrev parcel_in : Lan → ParcelImage
parcel_in l = record { form = form.Prp; octets = carried l; seq = Some number; path = path_of l 0; wrong_lan = false }

is_frame : HasFrameLength (padded greeting)
is_frame = record { least = omega arith; most = omega arith }

trailed : (l : Lan) → IsTrailed (carried l) (padded greeting) (trailer l)
trailed lan.A = record { frame = is_frame; spelled = refl; size = refl; seq = omega arith }
trailed lan.B = record { frame = is_frame; spelled = refl; size = refl; seq = omega arith }

written : (l : Lan) → IsTrailedAnew l (plain_parcel greeting (Some number)) (carried l)
written l = record { seq = number; size = 52; trailed = trailed l; seq_is = refl }

read : (l : Lan) → IsTrailedParcel l 0 (carried l) (parcel_in l)
read lan.A = record { plain = padded greeting; trailer = trailer lan.A; trailed = trailed lan.A; frame = record { least = omega arith; most = omega arith }; parcel = refl }
read lan.B = record { plain = padded greeting; trailer = trailer lan.B; trailed = trailed lan.B; frame = record { least = omega arith; most = omega arith }; parcel = refl }

-- it says nothing of a node
says_nothing : (said : Supervision) → IsSupervision (padded greeting) said → ⊥
says_nothing said is =
    let there : true ≡ is_supervision (spelling is.fields) = supervision_is is.fields true is.legal (λ _. is.addressed, λ _. refl) in
    let none : true ≡ false = there ∙ ap is_supervision (sym is.spelled) in
    absurd cc

-- The plants, from event to event. The first node has any settings. Those of the second are given by mode and width, since what it
-- answers is worked out by these.
abbrev starts : Settings → Mode → Width → List Start
starts x m w = pair x (record { mode = m; width = w })

abbrev new_plant : Settings → Mode → Width → Plant
new_plant x m w = opening TwinLan (map begun_as (starts x m w))

-- the sender before and after
abbrev sender : Settings → State
sender x = begun_as (record { role = role_of Danp (address 1); settings = x })

abbrev sender_later : Settings → State
sender_later x = record (sender x) { core = sent (sender x) (sent_parcel (sender x) greeting) (send_outlets (sender x) greeting 0) 0 }

abbrev sent_plant : Settings → Mode → Width → Plant
sent_plant x m w = acted (new_plant x m w) 0 (sender_later x) 0

sends : (x : Settings) (m : Mode) (w : Width) → PlantStep (new_plant x m w) (Send 0 greeting) (sent_plant x m w)
sends x m w = record {
  before = sender x;
  answer = answer.Sent number;
  after = sender_later x;
  there = refl;
  fits = refl;
  step = (refl, refl);
  plant = refl;
}

-- a copy in a LAN
abbrev copy : Port → ℕ → Copy
copy o link = record { hop = record { to = record { node = 1; port = o }; links = link ∷ suc link ∷ [] }; from = 0; outlet = o; parcel = plain_parcel greeting (Some number) }

-- the receiver before, after the first copy, and after the second
abbrev receiver : Mode → Width → State
receiver m w = begun_as (record { role = role_of Danp (address 2); settings = record { mode = m; width = w } })

abbrev with_first : Mode → Width → State
with_first m w = passed (receiver m w) A (going_on (receiver m w) A (parcel_in lan.A)) (receiver m w).core.next 0 (to (H ∷ [])) None

abbrev half_carried : Settings → Mode → Width → Plant
half_carried x m w = acted (without (sent_plant x m w) 0) 1 (with_first m w) 0

-- what it answers to both
first_taken : (m : Mode) (w : Width) → OctetsArrived (framing_of TwinLan 1 A) (receiver m w) A (carried lan.A) 0 (answer.Passed (H ∷ [])) (with_first m w)
first_taken mode.H w = (parcel_in lan.A, inl (read lan.A), refl, (refl, (None, says_nothing, refl, refl)))
first_taken mode.X w = (parcel_in lan.A, inl (read lan.A), refl, (refl, (None, says_nothing, refl, refl)))

abbrev with_both : Mode → Width → State
with_both m w = passed (emptied (with_first m w)) B (going_on (emptied (with_first m w)) B (parcel_in lan.B)) (receiver m w).core.next 0 (to []) None

second_taken : (m : Mode) (w : Width) → OctetsArrived (framing_of TwinLan 1 B) (emptied (with_first m w)) B (carried lan.B) 0 (answer.Passed []) (with_both m w)
unfolding no_marks
second_taken mode.H width.Narrow = (parcel_in lan.B, inl (read lan.B), refl, (refl, (None, says_nothing, refl, refl)))
second_taken mode.H width.Wide = (parcel_in lan.B, inl (read lan.B), refl, (refl, (None, says_nothing, refl, refl)))
second_taken mode.X width.Narrow = (parcel_in lan.B, inl (read lan.B), refl, (refl, (None, says_nothing, refl, refl)))
second_taken mode.X width.Wide = (parcel_in lan.B, inl (read lan.B), refl, (refl, (None, says_nothing, refl, refl)))

carries_first : (x : Settings) (m : Mode) (w : Width) → PlantStep (sent_plant x m w) (Carry 0) (half_carried x m w)
carries_first x m w = (
  copy A 0,
  refl,
  inl (record {
    octets = carried lan.A;
    before = receiver m w;
    answer = answer.Passed (H ∷ []);
    after = with_first m w;
    written = written lan.A;
    there = refl;
    taken = first_taken m w;
    plant = refl;
  }),
)

abbrev carried_plant : Settings → Mode → Width → Plant
carried_plant x m w = acted (without (half_carried x m w) 0) 1 (with_both m w) 0

carries_second : (x : Settings) (m : Mode) (w : Width) → PlantStep (half_carried x m w) (Carry 0) (carried_plant x m w)
carries_second x m w = (
  copy B 2,
  refl,
  inl (record {
    octets = carried lan.B;
    before = emptied (with_first m w);
    answer = answer.Passed [];
    after = with_both m w;
    written = written lan.B;
    there = refl;
    taken = second_taken m w;
    plant = refl;
  }),
)

abbrev greeted_turns : Settings → Mode → Width → List Turn
greeted_turns x m w =
    record { before = half_carried x m w; event = Carry 0 } ∷ record { before = sent_plant x m w; event = Carry 0 }
    ∷ record { before = new_plant x m w; event = Send 0 greeting } ∷ []

runs : (x : Settings) (m : Mode) (w : Width) → PlantRun TwinLan (starts x m w) (greeted_turns x m w) (carried_plant x m w)
runs x m w = ((((refl, refl), refl, sends x m w), refl, carries_first x m w), refl, carries_second x m w)

-- the one frame that is numbered
abbrev only : Numbering
only = record { node = 0; before = 0; time = 0 }

few : (greatest : ℕ) → greatest ≤ 2048 → AreFew greatest (only ∷ []) 0
few greatest small k = elim (cases_Bool (k == 0)) [
  | inl is ↦ rw is (omega (arith, small))
  | inr other ↦ rw other (omega arith)
]

timely : (least : ℕ) → 1024 ≤ least → (ms : List Numbering) → slice_get ms 0 ≡ Some only → (s : Plant) → s.clock ≡ 0 → IsTimely least (only ∷ []) ms s (Carry 0)
timely least some ms at s clock m got =
    let same : only ≡ m = cc in
    subst (λ x. (count_of x.node (only ∷ []) - (x.before + 1) < least) × (s.clock < x.time + forget_time)) same (omega (arith, some), omega (arith, clock))

within : (x : Settings) (m : Mode) (w : Width) → IsWithinLimits (starts x m w) (greeted_turns x m w)
within x m w =
    let some = at_least (starts x m w) in
    let small = few (greatest_width (starts x m w)) (at_most (starts x m w)) in (
      ((tt, tt, small), timely (least_width (starts x m w)) some (only ∷ only ∷ []) refl (sent_plant x m w) refl, small),
      timely (least_width (starts x m w)) some (only ∷ []) refl (half_carried x m w) refl,
      small,
    )

greets : (x : Settings) (m : Mode) (w : Width) → Greets (starts x m w) (greeted_turns x m w) (carried_plant x m w)
greets x m w = record {
  events = refl;
  run = runs x m w;
  own = ((refl, refl), ((refl, refl), tt));
  limits = within x m w;
  unbroken = (tt, (tt, (tt, tt)));
  quiet = refl;
  parcel = going_on (receiver m w) A (parcel_in lan.A);
  up = refl;
  sent = (refl, refl);
}

pub premises_are_met : PremisesAreMet
premises_are_met x y = (greeted_turns x y.mode y.width, carried_plant x y.mode y.width, greets x y.mode y.width)
