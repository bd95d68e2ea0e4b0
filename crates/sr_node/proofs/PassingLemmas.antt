-- Why an arrival is refused, and how a frame that passed as its plan says went.
use Rattle.std.proofs.Common.{◌≡◌, ℕ, false, Option, None, Some, refl, sym, ap, ◌∙◌, subst, if◌then◌else◌}
use Rattle.sr_sequence.specs.declared.Seq.{Seq}
use Rattle.sr_slots.specs.declared.by_address.Hint.{Hint}
use Rattle.sr_forwarding.specs.declared.outlets.Outlets.{Outlets}
use Rattle.sr_frame.specs.declared.ports.Port.{Port}
use Rattle.sr_supervision.specs.declared.message.Supervision.{Supervision}
use Rattle.sr_forwarding.specs.declared.header.Header.{Header}
use Rattle.sr_forwarding.specs.Headers.{header_of}
use Rattle.sr_forwarding.specs.Outlets.{listed}
use Rattle.sr_forwarding.specs.Parcels.{ParcelImage}
use Rattle.sr_forwarding.specs.Proxies.{learned}
use Rattle.sr_forwarding.specs.Routes.{routes}
use Rattle.sr_node.specs.declared.passing.Passing.{Passing}
use Rattle.sr_node.specs.declared.passing.Arrival.{Arrival}
use Rattle.sr_node.specs.declared.fault.StepFault.TheVariants as fault
use Rattle.sr_forwarding.specs.declared.fault.ReadFault.TheVariants as read
use Rattle.sr_node.specs.Arriving.{header_told, header_at, wanted_at, is_too_long, is_untagged, is_own, going_on, goes, next_at, full_fault, outlets_fault, arrive_refusal, passed, PassedTo, Arrived, arrival_answer, wrong_lan_after}
use Rattle.sr_node.specs.Copies.{put_at}
use Rattle.sr_node.specs.Hearing.{SaysOf, number_heard, announced, nodes_heard, nodes_told}
use Rattle.sr_node.specs.Images.{CoreValue, State, shown}
use Rattle.sr_node.specs.Lanes.{new_outlets, sources_after}
use Rattle.sr_node.specs.Outboxes.{Outboxes}
use Rattle.sr_node.specs.Plans.{new_to, IsOther, IsAdmitted, IsPlanned, IsObserved, IsPassing, LetsPass, passed_as}
use Rattle.sr_node.specs.Faults.{IsAccepted}

passed_same : (s : State) (f : Passing) (p : ParcelImage) (said : Option Supervision) → IsOther s p f.arrival
    → IsObserved s f.arrival said f.observations → passed_as s f p ≡ passed s f.arrival.inlet p f.arrival.next f.arrival.moment f.outlets said
passed_same s f p said other observed =
    let a = f.arrival in
    let read = other.read in
    let role : learned s.role (header_told s a.header.now a.moment) a.inlet a.moment ≡ learned s.role (header_at s p a.moment) a.inlet a.moment =
    ap (λ h. learned s.role (header_told s h a.moment) a.inlet a.moment) read in
    let wanted : a.wanted ≡ wanted_at s a.inlet p a.moment =
    other.wanted ∙ ap (λ h. routes s.role (header_told s h a.moment) a.inlet a.moment) read in
    let number : f.observations.number ≡ number_heard s.role a.inlet (header_of p).src p.seq a.moment =
    observed.number ∙ ap (λ (h : Header). number_heard s.role a.inlet h.src h.seq a.moment) read in
    let told : f.observations.announced ≡ announced s.role a.inlet p.seq said =
    observed.announced ∙ ap (λ (h : Header). announced s.role a.inlet h.seq said) read in
    λ i. record {
      role = role i;
      core = record s.core {
        time = a.moment;
        next = a.next;
        sources = sources_after s.core.width s.core.sources a.inlet (read i).src (read i).seq (wanted i) a.moment;
        nodes = nodes_told (nodes_heard s.core.nodes a.inlet (read i).src (number i) a.moment) a.inlet (told i) a.moment;
        out = put_at s.core.out f.outlets p;
        wrong_lan = wrong_lan_after s.core.wrong_lan a.inlet p;
      };
    }

-- what waits has no say in whether a frame is new
pub still_passes : (c : CoreValue) (f : Passing) (o : Outboxes) → LetsPass (shown c) f → LetsPass (shown (record c { out = o })) f
still_passes c f o passes = record {
  asked = passes.asked;
  goes = passes.goes;
  record_found = passes.record_found;
  node_found = passes.node_found;
  network = passes.network;
}

-- what a frame says is not changed by its number
says_same : (s : State) (inlet : Port) (p : ParcelImage) (said : Option Supervision) → SaysOf (going_on s inlet p) said → SaysOf p said
says_same s inlet p None says = says
says_same s inlet p (Some said) says = says

-- where a frame of another node goes that its port lets in, and why it is refused then
let_in : (s : State) (inlet : Port) (p : ParcelImage) (now : ℕ) (next : Seq) (h : Header) (a : Arrival)
    → is_too_long inlet p ≡ false → is_untagged s.role.kind inlet p.form ≡ false → is_own s p ≡ false
    → h ≡ header_of (going_on s inlet p) → IsAdmitted s inlet h next now a
    → (goes s inlet p now ≡ new_to s.core a) × (arrive_refusal s inlet p now ≡ outlets_fault s.core.out (new_to s.core a))
let_in s inlet p now next h a fits tagged other is arrival =
    let header : a.header.now ≡ header_of (going_on s inlet p) = arrival.header ∙ is in
    let wanted : a.wanted ≡ wanted_at s inlet (going_on s inlet p) now =
    arrival.wanted ∙ (λ i. routes s.role (header_told s (header i) (arrival.moment i)) (arrival.inlet i) (arrival.moment i)) in
    let same : new_to s.core a ≡ goes s inlet p now =
    λ i. new_outlets s.core.mode s.core.width s.core.sources (arrival.inlet i) (header i).src (header i).seq (wanted i) (arrival.moment i) in
    let refused : arrive_refusal s inlet p now ≡ outlets_fault s.core.out (goes s inlet p now) =
    λ i. if fits i then Some (fault.Reading read.TooLong) else if tagged i then Some fault.Untagged else if other i then None
    else outlets_fault s.core.out (goes s inlet p now) in
    (sym same, refused ∙ ap (outlets_fault s.core.out) (sym same))

-- it is not refused where there is a way for it, and where it passed that way it went as a frame that comes in goes
pub arrived_as : (s t : State) (inlet : Port) (p : ParcelImage) (now : ℕ) (next : Seq) (h : Header) (a : Arrival) (outlets : Outlets)
    (hint : Option Hint) (said : Option Supervision) (f : Passing)
    → is_too_long inlet p ≡ false → is_untagged s.role.kind inlet p.form ≡ false → is_own s p ≡ false
    → h ≡ header_of (going_on s inlet p) → next ≡ next_at s.core.next inlet p → IsAdmitted s inlet h next now a
    → IsPlanned s.core a outlets hint → SaysOf (going_on s inlet p) said → IsPassing s a outlets said f
    → t ≡ passed_as s f (going_on s inlet p)
    → IsAccepted (arrive_refusal s inlet p now) (Arrived s inlet p now (arrival_answer (Some outlets)) t)
arrived_as s t inlet p now next h a outlets hint said f fits tagged own read after arrival way says passing step =
    let q = going_on s inlet p in
    let found = let_in s inlet p now next h a fits tagged own read arrival in
    let number : a.next ≡ next_at s.core.next inlet p = arrival.next ∙ after in
    let other : IsOther s q a =
    record {
      asked = arrival.asked;
      read = arrival.header ∙ read;
      wanted = arrival.wanted;
      next = number ∙ ap (λ port. next_at s.core.next port q) (sym arrival.inlet);
    } in
    let went : t ≡ passed s f.arrival.inlet q f.arrival.next f.arrival.moment f.outlets said =
    step ∙ passed_same s f q said (subst (IsOther s q) (sym passing.arrival) other) passing.observed in
    let same : t ≡ passed s inlet q (next_at s.core.next inlet p) now outlets said =
    went ∙ (λ i. passed s (passing.arrival i).inlet q (passing.arrival i).next (passing.arrival i).moment (passing.outlets i) said)
    ∙ (λ i. passed s (arrival.inlet i) q (number i) (arrival.moment i) outlets said) in
    let to : PassedTo s inlet p now (Some outlets) (listed outlets) t = (said, says_same s inlet p said says, refl, same) in
    record {
      ok = found.1 ∙ ap (outlets_fault s.core.out) way.goes ∙ ap full_fault way.room;
      step = (own, subst (λ o. PassedTo s inlet p now o (listed outlets) t) (sym (found.0 ∙ way.goes)) to);
    }
