-- What comes in at a node in its own run is what comes in at that member in the history of the plant, so the one is as steady as the other.
use Rattle.std.proofs.Common.{◌≡◌, ◌≢◌, inl, inr, ℕ, ◌<◌, ◌==◌, ℤ, pos, Bool, true, false, List, [], ◌∷◌, ◌++◌, length, Option, None, Some, slice_get, refl, sym, ap, ◌∙◌, subst, arith}
use Rattle.std.specs.Prelude.{if◌then◌else◌}
use Rattle.std.specs.Option.{option_to_list}
use Rattle.std.proofs.lemmas.Bool.{eq-eqb, ne_eqb}
use Rattle.sr_frame.specs.declared.fields.Mac.{Mac}
use Rattle.sr_frame.specs.declared.ports.Port.{Port}
use Rattle.sr_frame.specs.declared.ports.Port.TheVariants.{H, A, B, C}
use Rattle.sr_sequence.specs.Numbers.{wire}
use Rattle.sr_laws_dup.specs.TableRuns.{Arrival, AreSteady}
use Rattle.sr_forwarding.specs.declared.form.Form.{Form}
use Rattle.sr_forwarding.specs.Headers.{header_of}
use Rattle.sr_forwarding.specs.Octets.{src_in}
use Rattle.sr_forwarding.specs.Parcels.{ParcelImage}
use Rattle.sr_node.specs.declared.event.Event.{Event}
use Rattle.sr_node.specs.declared.event.Event.TheVariants as node
use Rattle.sr_node.specs.Arriving.{is_plain, is_plain_at_interlink, going_on}
use Rattle.sr_node.specs.Images.{State, time_at}
use Rattle.sr_node.specs.Outboxes.{box_at}
use Rattle.sr_node.specs.Starts.{Start}
use Rattle.sr_laws_node.specs.Brought.{next_number, number_if, whole_number as number_at}
use Rattle.sr_laws_node.specs.Emptying.{takes_all, takes_everywhere, without_first}
use Rattle.sr_laws_node.specs.NodeRuns.{happened}
use Rattle.sr_laws_node.specs.NodeRuns as runs
use Rattle.sr_laws_node.specs.SteadyNodes.{IsCarried, IsCarriedUnless, IsNumbered, AreNumbered, arrival_if, event_arrives, arrivals}
use Rattle.sr_laws_plant.specs.Frames.{Frame}
use Rattle.sr_laws_plant.specs.Handlings.{Handling, is_sending}
use Rattle.sr_laws_plant.specs.Ledger.{Hop, Net, PlantTurn}
use Rattle.sr_laws_plant.specs.Ledger as ledger
use Rattle.sr_laws_plant.specs.PlantEvents.{done_in, IsTakenOut, Refuses, Ends, Takes, Ticks, Carries, Moves}
use Rattle.sr_laws_plant.specs.PlantEvents as law
use Rattle.sr_laws_plant.specs.Steadiness.{is_arrival_at, arrival_of, arrivals_at, AllSteady, MembersAreSteady}
use Rattle.sr_plant.specs.declared.topology.Topology.{Topology}
use Rattle.sr_plant.specs.declared.event.PlantEvent.{PlantEvent}
use Rattle.sr_plant.specs.declared.event.PlantEvent.TheVariants.{Send, Carry, Drop, Repeat, Cut, Mend, Tick}
use Rattle.sr_plant.specs.Copies.{Copy}
use Rattle.sr_plant.specs.Plants.{Plant}
use Rattle.sr_plant.specs.Steps.{Acts, Comes, PlantStep}
use Rattle.sr_plant.specs.Topologies.{net_of}
use Rattle.sr_laws_plant_runs.specs.PlantRuns.{Turn, PlantRun}
use Rattle.sr_laws_plant_runs.specs.Histories.{mac_at, HaveOwnAddresses, CarriesAs, Zip}
use Rattle.sr_laws_plant_runs.specs.NodeTurns.{acted_turns, carried_turns, event_turns, node_turns, NodesPutOutOnce}
use Rattle.sr_laws_plant_runs.specs.NodeSteady.{number_of_copy, number_carried, run_numbers, NodesRunSteadily, NodesPutOutWithin}
use Rattle.sr_laws_plant_runs.specs.TableWidths.{least_width, widths_of}
use Rattle.sr_laws_plant_runs.specs.Traffic.{Numbering, marks, IsWithinLimits}
use Rattle.sr_laws_plant.specs.ListLemmas.{each_map}
use Rattle.sr_laws_plant.proofs.RingLawLemmas.{consistent_in}
use Rattle.sr_laws_plant_runs.proofs.CarriedLemmas.{here, fly, says, own_is, now, step_told, no_plain}
use Rattle.sr_laws_plant_runs.proofs.HistoryLemmas.{IsMadeOf, StepTold, got_beside, got_ghost, IsGood}
use Rattle.sr_laws_plant_runs.proofs.HistoryRunLemmas.{run_told, made_of, made, have_tables}
use Rattle.sr_laws_plant_runs.proofs.LikeLemmas.{FliesAs, Like}
use Rattle.sr_laws_plant_runs.proofs.MarkLemmas.{Marks, beside_out}
use Rattle.sr_laws_plant_runs.proofs.WidthLemmas.{width_got}

-- what is taken out is no arrival, and has no number
module _ where
  all_arrive : (s : State) (port : Port) (ps : List ParcelImage) (turns : List runs.Turn) →
      arrivals (takes_all s port ps turns) ≡ arrivals turns
  all_arrive s port [] turns = refl
  all_arrive s port (p ∷ ps) turns = all_arrive (without_first s port) port ps _

  all_numbered : (s : State) (port : Port) (ps : List ParcelImage) (turns : List runs.Turn) → AreNumbered turns →
      AreNumbered (takes_all s port ps turns)
  all_numbered s port [] turns are = are
  all_numbered s port (p ∷ ps) turns are = all_numbered (without_first s port) port ps _ (are, tt)

  everywhere_arrive : (s : State) (turns : List runs.Turn) → arrivals (takes_everywhere s turns) ≡ arrivals turns
  everywhere_arrive s turns =
      all_arrive _ C (box_at s.core.out C) _ ∙ all_arrive _ B (box_at s.core.out B) _ ∙ all_arrive _ A (box_at s.core.out A) _
      ∙ all_arrive s H (box_at s.core.out H) turns

  everywhere_numbered : (s : State) (turns : List runs.Turn) → AreNumbered turns → AreNumbered (takes_everywhere s turns)
  everywhere_numbered s turns are =
      all_numbered _ C (box_at s.core.out C) _ (all_numbered _ B (box_at s.core.out B) _ (all_numbered _ A (box_at s.core.out A) _
      (all_numbered s H (box_at s.core.out H) turns are)))

-- The turns of a node grow to those by what its member did: what came in there, and nothing else, comes in at the node.
record ShowsAs (starts : List Start) (k : ℕ) (turns later : List runs.Turn) (did : Option Handling) : Type 0 where
  same : arrivals later ≡ arrivals_at (mac_at starts) k (option_to_list did) ++ arrivals turns
  numbered : AreNumbered turns → AreNumbered later

-- nothing comes in
none_shown : (starts : List Start) (k : ℕ) (turns later : List runs.Turn) (did : Option Handling) → did ≡ None → later ≡ turns →
    ShowsAs starts k turns later did
none_shown starts k turns later did none same =
    subst (λ x. ShowsAs starts k turns x did) (sym same)
    (subst (λ x. ShowsAs starts k turns turns x) (sym none) (record { same = refl; numbered = λ are. are }))

sends_nothing_in : (starts : List Start) (k : ℕ) (did : Option Handling) → ((d : Handling) → did ≡ Some d → is_sending d ≡ true) →
    arrivals_at (mac_at starts) k (option_to_list did) ≡ []
sends_nothing_in starts k None sends = refl
sends_nothing_in starts k (Some d) sends = rw (sends d refl) refl

-- a node acts on what does not come in from the network
acted_shown : (starts : List Start) (k : ℕ) (s : Plant) (i : ℕ) (e : Event) (time : ℕ) (v : Plant) (acts : Acts s i e time v) (n : ℤ)
    (turns : List runs.Turn) (did : Option Handling) → ((d : Handling) → did ≡ Some d → is_sending d ≡ true) →
    event_arrives turns acts.before e n ≡ [] → IsNumbered n e → ShowsAs starts k turns (acted_turns k s i e time v acts n turns) did
acted_shown starts k s i e time v acts n turns did sends none numbered = record {
  same = by (k == i) ∙ ap (λ x. x ++ arrivals turns) (sym (sends_nothing_in starts k did sends));
  numbered = λ are. each are (k == i);
}
  where
    by : (b : Bool) →
        arrivals (if b then takes_everywhere acts.after (happened acts.before e acts.answer n ∷ turns) else turns) ≡ arrivals turns
    by true = everywhere_arrive acts.after _ ∙ ap (λ x. x ++ arrivals turns) none
    by false = refl

    each : AreNumbered turns → (b : Bool) →
        AreNumbered (if b then takes_everywhere acts.after (happened acts.before e acts.answer n ∷ turns) else turns)
    each are true = everywhere_numbered acts.after _ (are, numbered)
    each are false = are

either_way : {X : Type 0} (b : Bool) (x : X) → (if b then x else x) ≡ x
either_way true x = refl
either_way false x = refl

at_no_interlink : (port : Port) (form : Form) → is_plain form ≡ false → is_plain_at_interlink port form ≡ false
at_no_interlink H form tagged = refl
at_no_interlink A form tagged = refl
at_no_interlink B form tagged = refl
at_no_interlink C form tagged = tagged

-- a copy that is taken by its receiver, or that is the receiver's own
module _ (t : Topology) (starts : List Start) (own : IsMadeOf t starts) (ds : List Handling) (s v : Plant) (p : law.Plant) (place : ℕ)
    (c : Copy) (like : Like t starts s p ds) (at : slice_get s.flight place ≡ Some c) (comes : Comes s place c v) (n : ℤ) where
  abbrev g : ledger.Copy
  g = (here t starts own ds s v p place c like at comes).here

  abbrev flown : FliesAs t starts c g
  flown = fly t starts own ds s v p place c like at comes

  abbrev q : ParcelImage
  q = comes.taken.0

  abbrev came : Event
  came = node.Arrive c.hop.to.port q s.clock

  -- as the node is shown it
  abbrev shown : Arrival
  shown = record { src = mac_at starts g.frame.src; number = pos g.frame.number; time = p.clock }

  number_is : q.seq ≡ Some flown.seq
  number_is = (says t starts own ds s v p place c like at comes).1

  -- the copy that the history takes out there
  same_copy : (x : ledger.Copy) (rest : List ledger.Copy) → IsTakenOut p.flight place x rest → x ≡ g
  same_copy x rest out =
      let one : slice_get p.flight place ≡ Some x = ap (λ l. slice_get l place) out.whole ∙ got_beside out.before out.behind x place out.index in
      let other : slice_get p.flight place ≡ Some g = got_ghost t starts s p place c (here t starts own ds s v p place c like at comes) in
      cc

  -- under a number of other 16 bits than its frame's it is taken in no steady run
  pub no_copy_is_taken_under_another_number : IsNumbered n came → wire n ≢ wire (pos g.frame.number) → ⊥
  no_copy_is_taken_under_another_number numbered other =
      let own : IsCarriedUnless false n q.seq = subst (λ b. IsCarriedUnless b n q.seq) (at_no_interlink c.hop.to.port q.form (no_plain t starts own ds s v p place c like at comes)) numbered in
      let carried : flown.seq.0 ≡ wire n = subst (IsCarried n) number_is own in
      other (sym carried ∙ flown.shows.number)

  module _ (is : n ≡ pos g.frame.number) where
    is_numbered : IsNumbered n came
    is_numbered =
        subst (λ b. IsCarriedUnless b n q.seq) (sym (at_no_interlink c.hop.to.port q.form (no_plain t starts own ds s v p place c like at comes)))
        (subst (IsCarried n) (sym number_is) (subst (λ x. flown.seq.0 ≡ wire x) (sym is) flown.shows.number))

    arrives_as : (turns : List runs.Turn) →
        event_arrives turns comes.before came n ≡ (if c.hop.to.node == g.frame.src then [] else shown ∷ [])
    arrives_as turns =
        ap (λ b. if b then [] else arrival_if (header_of q).src (number_if (going_on comes.before c.hop.to.port q).seq (number_at turns c.hop.to.port q n)) (time_at comes.before s.clock))
        (own_is t starts own ds s v p place c like at comes)
        ∙ ap (λ x. if c.hop.to.node == g.frame.src then [] else x) (plainly ∙ numbered ∙ there)
      where
        plainly : arrival_if (header_of q).src (number_if (going_on comes.before c.hop.to.port q).seq (number_at turns c.hop.to.port q n)) (time_at comes.before s.clock)
            ≡ arrival_if (header_of q).src (number_if q.seq n) (time_at comes.before s.clock)
        plainly =
            ap (λ b. arrival_if (header_of q).src (number_if (if b then Some comes.before.core.next else q.seq) (if b then next_number turns else n)) (time_at comes.before s.clock))
            (at_no_interlink c.hop.to.port q.form (no_plain t starts own ds s v p place c like at comes))

        numbered : arrival_if (header_of q).src (number_if q.seq n) (time_at comes.before s.clock)
            ≡ record { src = (header_of q).src; number = n; time = time_at comes.before s.clock } ∷ []
        numbered = ap (λ x. arrival_if (header_of q).src (number_if x n) (time_at comes.before s.clock)) number_is

        there : record { src = (header_of q).src; number = n; time = time_at comes.before s.clock } ∷ [] ≡ shown ∷ []
        there =
            ap (λ x. record { src = x; number = n; time = time_at comes.before s.clock } ∷ [])
            (ap src_in (says t starts own ds s v p place c like at comes).0 ∙ flown.shows.source)
            ∙ ap (λ x. record { src = mac_at starts g.frame.src; number = x; time = time_at comes.before s.clock } ∷ []) is
            ∙ ap (λ x. record { src = mac_at starts g.frame.src; number = pos g.frame.number; time = x } ∷ [])
            (now t starts own ds s v p place c like at comes ∙ like.clock)

    -- as the history has it
    did_as : (j : ℕ) (turn : PlantTurn) (after : law.Plant) (h : ledger.Copy) → Carries (net_of t (length starts)) p place turn after →
        CarriesAs s place v c (inl comes) h turn →
        arrivals_at (mac_at starts) j (option_to_list turn.did)
        ≡ (if j == c.hop.to.node then (if c.hop.to.node == g.frame.src then [] else shown ∷ []) else [])
    did_as j turn after h (x, rest, out, inl a) pins =
        let none : turn.came ≡ [] = ap (λ (z : PlantTurn). z.came) a.says in
        let some : turn.came ≡ h ∷ [] = pins.0 in
        absurd cc
    did_as j turn after h (x, rest, out, inr (inl a)) pins =
        ap (λ z. arrivals_at (mac_at starts) j (option_to_list z)) (ap (λ (z : PlantTurn). z.did) a.says)
        ∙ sym (ap (λ b. if j == c.hop.to.node then (if b then [] else shown ∷ []) else []) ends ∙ either_way (j == c.hop.to.node) [])
      where
        same : x ≡ g
        same = same_copy x rest out

        ends : (c.hop.to.node == g.frame.src) ≡ true
        ends =
            ap (λ (z : Hop). z.to.node == g.frame.src) flown.hop ∙ ap (λ (z : ledger.Copy). z.hop.to.node == z.frame.src) (sym same) ∙ a.own
    did_as j turn after h (x, rest, out, inr (inr (d, a))) pins =
        ap (λ z. arrivals_at (mac_at starts) j (option_to_list z)) (ap (λ (z : PlantTurn). z.did) a.says)
        ∙ ap (λ b. if (if b then false else j == d.node) then arrival_of (mac_at starts) d ∷ [] else []) a.inlet
        ∙ ap (λ k. if j == k then arrival_of (mac_at starts) d ∷ [] else []) node_is
        ∙ ap (λ z. if j == c.hop.to.node then z ∷ [] else []) arrival
        ∙ ap (λ b. if j == c.hop.to.node then (if b then [] else shown ∷ []) else []) (sym foreign)
      where
        same : x ≡ g
        same = same_copy x rest out

        node_is : d.node ≡ c.hop.to.node
        node_is = a.node ∙ ap (λ (z : ledger.Copy). z.hop.to.node) same ∙ ap (λ (z : Hop). z.to.node) (sym flown.hop)

        frame_is : d.frame ≡ g.frame
        frame_is = a.frame ∙ ap (λ (z : ledger.Copy). z.frame) same

        arrival : arrival_of (mac_at starts) d ≡ shown
        arrival =
            ap (λ (f : Frame). record { src = mac_at starts f.src; number = pos f.number; time = d.time }) frame_is
            ∙ ap (λ x. record { src = mac_at starts g.frame.src; number = pos g.frame.number; time = x }) a.time

        foreign : (c.hop.to.node == g.frame.src) ≡ false
        foreign = ap (λ k. k == g.frame.src) (sym node_is) ∙ ap (λ (f : Frame). d.node == f.src) (sym frame_is) ∙ a.foreign

    comes_shown : (j : ℕ) (turns : List runs.Turn) (turn : PlantTurn) (after : law.Plant) (h : ledger.Copy) →
        Carries (net_of t (length starts)) p place turn after → CarriesAs s place v c (inl comes) h turn →
        ShowsAs starts j turns (carried_turns j s place v c (inl comes) n turns) turn.did
    comes_shown j turns turn after h carries pins = record {
      same = by (j == c.hop.to.node) ∙ ap (λ x. x ++ arrivals turns) (sym (did_as j turn after h carries pins));
      numbered = λ are. each are (j == c.hop.to.node);
    }
      where
        by : (b : Bool) →
            arrivals (if b then takes_everywhere comes.after (happened comes.before came comes.answer n ∷ turns) else turns)
            ≡ (if b then (if c.hop.to.node == g.frame.src then [] else shown ∷ []) else []) ++ arrivals turns
        by true = everywhere_arrive comes.after _ ∙ ap (λ x. x ++ arrivals turns) (arrives_as turns)
        by false = refl

        each : AreNumbered turns → (b : Bool) →
            AreNumbered (if b then takes_everywhere comes.after (happened comes.before came comes.answer n ∷ turns) else turns)
        each are true = everywhere_numbered comes.after _ (are, is_numbered)
        each are false = are

-- the number that the run has of a copy is its frame's
carried_number : (t : Topology) (starts : List Start) (s : Plant) (p : law.Plant) (ms : List Numbering) (place : ℕ) (g : ledger.Copy) →
    Zip Marks ms p.flight → (rest : List ledger.Copy) → IsTakenOut p.flight place g rest →
    number_carried ms (Carry place) ≡ pos g.frame.number
carried_number t starts s p ms place g zip rest out =
    let b = beside_out ms p place g rest zip out in
    ap number_of_copy b.there ∙ ap pos b.related.1

-- any event
event_shown : (t : Topology) (starts : List Start) (own : IsMadeOf t starts) (ds : List Handling) (s v : Plant) (p : law.Plant) (e : PlantEvent)
    (ms : List Numbering) (step : PlantStep s e v) → Like t starts s p ds → Zip Marks ms p.flight → (told : StepTold t starts ds s p e v step)
    (k : ℕ) (turns : List runs.Turn) → ShowsAs starts k turns (event_turns k s e v step (number_carried ms e) turns) told.turn.did
event_shown t starts own ds s v p (Send i frame) ms acts like zip told k turns =
    acted_shown starts k s i (node.Send frame s.clock) s.clock v acts (pos 0) turns told.turn.did
    (λ d did. sends_of told.moves.2 d did) refl tt
  where
    sends_of : {x : Handling} → law.Sends (net_of t (length starts)) ds p p.clock x told.turn told.after → (d : Handling) →
        told.turn.did ≡ Some d → is_sending d ≡ true
    sends_of {x} sends d did =
        let is : told.turn.did ≡ Some x = ap (λ (z : PlantTurn). z.did) sends.says in
        let one : x ≡ d = cc in
        subst (λ z. is_sending z ≡ true) one sends.inlet
event_shown t starts own ds s v p (Carry place) ms (c, at, inl comes) like zip told k turns =
    let out = told.moves.2 in
    let g = told.moves.0 in
    let one = carried_number t starts s p ms place g zip told.moves.1 out in
    let is : number_carried ms (Carry place) ≡ pos (here t starts own ds s v p place c like at comes).here.frame.number =
    one ∙ ap (λ (z : ledger.Copy). pos z.frame.number) (same_copy t starts own ds s v p place c like at comes (number_carried ms (Carry place)) g told.moves.1 out) in
    comes_shown t starts own ds s v p place c like at comes (number_carried ms (Carry place)) is k turns told.turn told.after told.pins.0 told.moves told.pins.2
event_shown t starts own ds s v p (Carry place) ms (c, at, inr lost) like zip told k turns =
    none_shown starts k turns turns told.turn.did (ap (λ (z : PlantTurn). z.did) told.pins.2) refl
event_shown t starts own ds s v p (Drop place) ms step like zip told k turns =
    none_shown starts k turns turns told.turn.did (ap (λ (z : PlantTurn). z.did) told.moves.3.says) refl
event_shown t starts own ds s v p (Repeat place) ms step like zip told k turns =
    none_shown starts k turns turns told.turn.did (ap (λ (z : PlantTurn). z.did) told.moves.3) refl
event_shown t starts own ds s v p (Cut link) ms step like zip told k turns =
    none_shown starts k turns turns told.turn.did (ap (λ (z : PlantTurn). z.did) told.moves.0) refl
event_shown t starts own ds s v p (Mend link) ms step like zip told k turns =
    none_shown starts k turns turns told.turn.did (ap (λ (z : PlantTurn). z.did) told.moves.0) refl
event_shown t starts own ds s v p (Tick i at) ms acts like zip told k turns =
    acted_shown starts k s i (node.Tick at) at v acts (pos 0) turns told.turn.did (λ d did. sends_of told.moves.1 d did) refl tt
  where
    sends_of : Ticks (net_of t (length starts)) ds p i at told.turn told.after → (d : Handling) → told.turn.did ≡ Some d →
        is_sending d ≡ true
    sends_of (inl idle) d did =
        let none : told.turn.did ≡ None = ap (λ (z : PlantTurn). z.did) idle.0 in
        absurd cc
    sends_of (inr (x, node, sup, sends)) d did =
        let is : told.turn.did ≡ Some x = ap (λ (z : PlantTurn). z.did) sends.says in
        let one : x ≡ d = cc in
        subst (λ z. is_sending z ≡ true) one sends.inlet

-- what came in at a member, more and more
arrivals_more : (mac : ℕ → Mac) (k : ℕ) (did : Option Handling) (ds : List Handling) →
    arrivals_at mac k (option_to_list did ++ ds) ≡ arrivals_at mac k (option_to_list did) ++ arrivals_at mac k ds
arrivals_more mac k None ds = refl
arrivals_more mac k (Some d) ds = by (is_arrival_at k d)
  where
    by : (b : Bool) →
        (if b then arrival_of mac d ∷ arrivals_at mac k ds else arrivals_at mac k ds)
        ≡ (if b then arrival_of mac d ∷ [] else []) ++ arrivals_at mac k ds
    by true = refl
    by false = refl

-- these numbers are those of the run
abbrev AreOf : (ℕ → ℤ) → List Turn → Type 0
AreOf numbers [] = Unit {0}
AreOf numbers (turn ∷ before) =
    AreOf numbers before × (numbers (length before) ≡ number_carried (marks before turn.before) turn.event)

run_shown : (t : Topology) (starts : List Start) (own : HaveOwnAddresses starts) (turns : List Turn) (s : Plant) (run : PlantRun t starts turns s)
    (k : ℕ) (numbers : ℕ → ℤ) → AreOf numbers turns →
    (arrivals (node_turns k numbers t starts turns s run) ≡ arrivals_at (mac_at starts) k (done_in (run_told t starts own turns s run).history))
    × AreNumbered (node_turns k numbers t starts turns s run)
unfolding run_told
run_shown t starts own [] s run k numbers are = (refl, tt)
run_shown t starts own (turn ∷ before) s run k numbers are =
    let earlier = run_told t starts own before turn.before run.0 in
    let addresses = made_of t starts (made t starts before turn.before run.0) own in
    let told = step_told t starts addresses (done_in earlier.history) turn.before s earlier.plant turn.event earlier.like run.1 run.2 in
    let so_far = run_shown t starts own before turn.before run.0 k numbers are.0 in
    let shows = event_shown t starts addresses (done_in earlier.history) turn.before s earlier.plant turn.event (marks before turn.before) run.2
    earlier.like earlier.marked told k (node_turns k numbers t starts before turn.before run.0) in
    let now = subst (λ n. ShowsAs starts k (node_turns k numbers t starts before turn.before run.0)
    (event_turns k turn.before turn.event s run.2 n (node_turns k numbers t starts before turn.before run.0)) told.turn.did) (sym are.1) shows in (
      now.same ∙ ap (λ x. arrivals_at (mac_at starts) k (option_to_list told.turn.did) ++ x) so_far.0
          ∙ sym (arrivals_more (mac_at starts) k told.turn.did (done_in earlier.history)),
      now.numbered so_far.1,
    )

-- the numbers of a run are those of it
are_of : (numbers : ℕ → ℤ) (turns : List Turn) → ((n : ℕ) → n < length turns → numbers n ≡ run_numbers turns n) → AreOf numbers turns
are_of numbers [] same = tt
are_of numbers (turn ∷ before) same = (
  are_of numbers before (λ n less. same n (omega (arith, less)) ∙ rw (ne_eqb n (length before) (λ e. omega (arith, e, less))) refl),
  same (length before) (omega arith) ∙ rw (eq-eqb (length before) (length before) refl) refl,
)

all_steady : MembersAreSteady → (t : Topology) (starts : List Start) (own : HaveOwnAddresses starts) (turns : List Turn) (s : Plant)
    (run : PlantRun t starts turns s) → IsWithinLimits starts turns → AllSteady (widths_of starts) (mac_at starts) (done_in (run_told t starts own turns s run).history)
all_steady steady t starts own turns s run limits =
    let r = run_told t starts own turns s run in
    let tables = have_tables t starts own turns s (made t starts turns s run) run r in
    steady (length starts) (mac_at starts) (widths_of starts) (done_in r.history) tables.widths tables.addressed
    (each_map (IsGood t starts) (λ d. d.frame.src < length starts) (λ d g. g.source) (done_in r.history) r.good)
    (consistent_in (net_of t (length starts)) r.history r.plant r.run) (r.limits limits)

pub nodes_run_steadily : MembersAreSteady → NodesRunSteadily
nodes_run_steadily steady t starts turns s run k start width own limits =
    let shown = run_shown t starts own turns s run k (run_numbers turns) (are_of (run_numbers turns) turns (λ n less. refl)) in (
      shown.1,
      subst (λ w. AreSteady w (arrivals (node_turns k (run_numbers turns) t starts turns s run))) (sym width) (subst (AreSteady ((widths_of starts).at k)) (sym shown.0) (all_steady steady t starts own turns s run limits k).0),
    )

pub nodes_put_out_within : NodesRunSteadily → NodesPutOutOnce → NodesPutOutWithin
nodes_put_out_within steady once t starts turns s run k start m o is at own limits =
    once t starts turns s run k (run_numbers turns) start m o is at
    (steady t starts turns s run k start (sym (width_got (least_width starts) starts k start is)) own limits)
