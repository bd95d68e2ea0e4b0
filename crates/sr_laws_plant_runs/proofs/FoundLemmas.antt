-- The frame of a send, in the history.
use Rattle.std.proofs.Common.{◌≡◌, inl, inr, ℕ, ◌+◌, ◌≤◌, true, List, ◌∷◌, ◌++◌, length, Some, slice_get, refl, sym, ap, ◌∙◌, subst, arith}
use Rattle.std.specs.Option.{option_to_list}
use Rattle.std.proofs.lemmas.Bool.Decides.{nat_tests}
use Rattle.sr_frame.specs.declared.ports.Port.TheVariants.{A}
use Rattle.sr_frame.specs.Frame.{least_len, padded}
use Rattle.sr_sequence.specs.declared.Seq.{Seq}
use Rattle.sr_node.specs.Images.{State, time_at}
use Rattle.sr_node.specs.Starts.{Start}
use Rattle.sr_laws_plant.specs.Frames.{Frame}
use Rattle.sr_laws_plant.specs.Handlings.{Handling, is_sending, IsSent, sent_count}
use Rattle.sr_laws_plant.specs.Ledger.{Net, PlantTurn}
use Rattle.sr_laws_plant.specs.Limits.{first_number}
use Rattle.sr_laws_plant.specs.ListLemmas.{one_right}
use Rattle.sr_laws_plant.specs.OneNode.{Puts, WasPut}
use Rattle.sr_laws_plant.specs.PlantEvents.{Moves}
use Rattle.sr_laws_plant.specs.PlantEvents as law
use Rattle.sr_plant.specs.declared.topology.Topology.{Topology}
use Rattle.sr_plant.specs.declared.event.PlantEvent.{PlantEvent}
use Rattle.sr_plant.specs.declared.event.PlantEvent.TheVariants.{Send, Carry, Drop, Repeat, Cut, Mend, Tick}
use Rattle.sr_plant.specs.Plants.{Plant}
use Rattle.sr_plant.specs.Steps.{PlantStep}
use Rattle.sr_plant.specs.Topologies.{net_of}
use Rattle.sr_laws_plant_runs.specs.PlantRuns.{Turn}
use Rattle.sr_laws_plant_runs.specs.Histories.{Shows, event_of, NumbersAs, IsTurnOf}
use Rattle.sr_laws_plant_runs.specs.Once as once
use Rattle.sr_laws_plant_runs.specs.Once.{HostSend}
use Rattle.sr_laws_plant_runs.specs.Sent.{IsSendOf}
use Rattle.sr_laws_plant_runs.specs.Traffic.{count_of, numberings}
use Rattle.sr_laws_plant_runs.proofs.CopyLemmas.{got_once}
use Rattle.sr_laws_plant_runs.proofs.HistoryLemmas.{StepTold}
use Rattle.sr_laws_plant_runs.proofs.NodeLemmas.{sent_is_fit}

-- the frame that a host sent, in the history
pub record IsFound (starts : List Start) (i : ℕ) (frame : List ℕ) (seq : Seq) (f : Frame) (ds : List Handling) : Type 0 where
  pub sent : IsSent f ds
  pub source : f.src ≡ i
  pub shows : Shows starts (padded frame) seq f
  pub put : WasPut i A f ds
  pub least : least_len frame ≤ length frame

pub found_later : (starts : List Start) (i : ℕ) (frame : List ℕ) (seq : Seq) (f : Frame) (ds more : List Handling) → IsFound starts i frame seq f ds → IsFound starts i frame seq f (more ++ ds)
found_later starts i frame seq f ds more found = record {
  sent = one_right (λ d. (is_sending d ≡ true) × (d.frame ≡ f)) more ds found.sent;
  source = found.source;
  shows = found.shows;
  put = one_right (Puts i A f) more ds found.put;
  least = found.least;
}

-- with its number
abbrev pub Found : List Start → ℕ → List ℕ → Seq → List Handling → ℕ → Type 0
Found starts i frame seq ds before = (f : Frame) × IsFound starts i frame seq f ds × (f.number ≡ first_number + before)

found_at : (net : Net) (starts : List Start) (ds : List Handling) (s v : Plant) (p q : law.Plant) (e : PlantEvent) (step : PlantStep s e v) (turn : PlantTurn) (i : ℕ) (frame : List ℕ) (seq : Seq) →
    Moves net ds p (event_of e) turn q → IsTurnOf starts s e v step p turn → IsSendOf i frame seq (record { before = s; event = e }) → Found starts i frame seq (option_to_list turn.did ++ ds) (sent_count i ds)
found_at net starts ds s v p q (Send k octets) acts turn i frame seq (d, node, sends) pins send = (
  d.frame,
  subst (λ x. IsFound starts i frame seq d.frame (option_to_list x ++ ds)) (sym did) (record {
    sent = inl (n.inlet, refl);
    source = n.source ∙ here;
    shows = subst (λ o. Shows starts (padded o) seq d.frame) same (subst (λ x. Shows starts (padded octets) x d.frame) number n.shows);
    put = inl (n.node ∙ here, refl, n.outlets A);
    least = subst (λ o. least_len o ≤ length o) same fits;
  }),
  sends.sending.number ∙ ap (λ x. first_number + sent_count x ds) (n.node ∙ here),
)
  where
    did : turn.did ≡ Some d
    did = ap (λ x. x.did) sends.says

    n : NumbersAs starts k acts.before octets acts.after (Some d)
    n = subst (λ x. NumbersAs starts k acts.before octets acts.after x) did pins

    event : Send k octets ≡ Send i frame
    event = send.event

    here : k ≡ i
    here = cc

    same : octets ≡ frame
    same = cc

    number : acts.before.core.next ≡ seq
    number = ap (λ (m : State). m.core.next) (got_once s.nodes i acts.before send.sender (subst (λ x. slice_get s.nodes x ≡ Some acts.before) here acts.there) send.there) ∙ send.number

    fits : least_len octets ≤ length octets
    fits = (let fit = sent_is_fit acts.before octets (time_at acts.before s.clock) acts.fits in let l = fit.least in grind (arith, nat_tests, l))
found_at net starts ds s v p q (Carry place) step turn i frame seq moves pins send = let e = send.event in absurd cc
found_at net starts ds s v p q (Drop place) step turn i frame seq moves pins send = let e = send.event in absurd cc
found_at net starts ds s v p q (Repeat place) step turn i frame seq moves pins send = let e = send.event in absurd cc
found_at net starts ds s v p q (Cut link) step turn i frame seq moves pins send = let e = send.event in absurd cc
found_at net starts ds s v p q (Mend link) step turn i frame seq moves pins send = let e = send.event in absurd cc
found_at net starts ds s v p q (Tick k now) step turn i frame seq moves pins send = let e = send.event in absurd cc

pub finds_more : (t : Topology) (starts : List Start) (before : List Turn) (turn : Turn) (s : Plant) (p : law.Plant) (ds : List Handling) (step : PlantStep turn.before turn.event s) (now : StepTold t starts ds turn.before p turn.event s step) →
    ((k : ℕ) → count_of k (numberings before) ≡ sent_count k ds) →
    ((w : HostSend) (frame : List ℕ) (seq : Seq) → once.WasSent w frame seq before → Found starts w.node frame seq ds w.before) →
    (w : HostSend) (frame : List ℕ) (seq : Seq) → once.WasSent w frame seq (turn ∷ before) → Found starts w.node frame seq (option_to_list now.turn.did ++ ds) w.before
finds_more t starts before turn s p ds step now counts earlier w frame seq (inl here) =
    let found = found_at (net_of t (length starts)) starts ds turn.before s p now.after turn.event step now.turn w.node frame seq now.moves now.pins here.0 in
    (found.0, found.1, found.2 ∙ ap (λ n. first_number + n) (sym (counts w.node) ∙ here.1))
finds_more t starts before turn s p ds step now counts earlier w frame seq (inr past) =
    let found = earlier w frame seq past in
    (found.0, found_later starts w.node frame seq found.0 ds (option_to_list now.turn.did) found.1, found.2)
