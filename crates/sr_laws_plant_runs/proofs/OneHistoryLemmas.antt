-- Two histories of one run are equal.
use mathlib.Core.Path.{fun_ext}
use Rattle.std.proofs.Common.{◌≡◌, ◌⊎◌, inl, inr, ℕ, ◌+◌, ◌==◌, Bool, true, List, [], ◌∷◌, ◌++◌, length, Some, refl, sym, ap, ◌∙◌, subst, arith}
use Rattle.std.proofs.lemmas.Bool.{true≢false}
use Rattle.sr_frame.specs.declared.ports.Port.{Port}
use Rattle.sr_frame.specs.declared.ports.Port.TheVariants.{H, A, B, C}
use Rattle.sr_node.specs.Images.{State}
use Rattle.sr_node.specs.Starts.{Start}
use Rattle.sr_laws_plant.specs.Frames.{Dest, Frame}
use Rattle.sr_laws_plant.specs.Handlings.{Handling, sent_count}
use Rattle.sr_laws_plant.specs.Ledger.{Net, PlantTurn, spread}
use Rattle.sr_laws_plant.specs.Ledger as ledger
use Rattle.sr_laws_plant.specs.Limits.{first_number}
use Rattle.sr_laws_plant.specs.PlantEvents.{Event, History, idle_turn, done_in, IsTakenOut, Sends, Refuses, Ends, Takes, Ticks, Moves}
use Rattle.sr_laws_plant.specs.PlantEvents as law
use Rattle.sr_laws_plant.specs.Ports.{is_at}
use Rattle.sr_plant.specs.declared.topology.Topology.{Topology}
use Rattle.sr_plant.specs.declared.event.PlantEvent.{PlantEvent}
use Rattle.sr_plant.specs.declared.event.PlantEvent.TheVariants.{Send, Carry, Drop, Repeat, Cut, Mend, Tick}
use Rattle.sr_plant.specs.Copies.{Copy}
use Rattle.sr_plant.specs.Plants.{Plant}
use Rattle.sr_plant.specs.Steps.{Comes, IsLost, PlantStep, without}
use Rattle.sr_plant.specs.Topologies.{net_of}
use Rattle.sr_laws_plant_runs.specs.PlantRuns.{Turn, PlantRun}
use Rattle.sr_laws_plant_runs.specs.Histories.{event_of, IsSendingOf, NumbersAs, TicksAs, CarriesAs, IsTurnOf, AreTold}
use Rattle.sr_laws_plant_runs.specs.OneHistory.{HaveOneHistory}

-- a frame, a handling is its parts
abbrev frame_of : ℕ → ℕ → Dest → Bool → ℕ → List ℕ → Frame
frame_of src number dest supervision time octets =
    record { src = src; number = number; dest = dest; supervision = supervision; time = time; octets = octets }

same_frame : (f g : Frame) → f.src ≡ g.src → f.number ≡ g.number → f.dest ≡ g.dest → f.supervision ≡ g.supervision → f.time ≡ g.time →
    f.octets ≡ g.octets → f ≡ g
same_frame f g a b c d e o =
    ap (λ x. frame_of x f.number f.dest f.supervision f.time f.octets) a
    ∙ ap (λ x. frame_of g.src x f.dest f.supervision f.time f.octets) b
    ∙ ap (λ x. frame_of g.src g.number x f.supervision f.time f.octets) c
    ∙ ap (λ x. frame_of g.src g.number g.dest x f.time f.octets) d
    ∙ ap (λ x. frame_of g.src g.number g.dest g.supervision x f.octets) e
    ∙ ap (λ x. frame_of g.src g.number g.dest g.supervision g.time x) o

abbrev handling_of : ℕ → Port → Frame → ℕ → (Port → Bool) → (Port → Bool) → Handling
handling_of node inlet frame time wanted went =
    record { node = node; inlet = inlet; frame = frame; time = time; wanted = wanted; went = went }

same_handling : (d e : Handling) → d.node ≡ e.node → d.inlet ≡ e.inlet → d.frame ≡ e.frame → d.time ≡ e.time →
    ((o : Port) → d.wanted o ≡ e.wanted o) → ((o : Port) → d.went o ≡ e.went o) → d ≡ e
same_handling d e a b c f wanted went =
    ap (λ x. handling_of x d.inlet d.frame d.time d.wanted d.went) a
    ∙ ap (λ x. handling_of e.node x d.frame d.time d.wanted d.went) b
    ∙ ap (λ x. handling_of e.node e.inlet x d.time d.wanted d.went) c
    ∙ ap (λ x. handling_of e.node e.inlet e.frame x d.wanted d.went) f
    ∙ ap (λ x. handling_of e.node e.inlet e.frame e.time x d.went) (fun_ext wanted)
    ∙ ap (λ x. handling_of e.node e.inlet e.frame e.time e.wanted x) (fun_ext went)

at_host : (o : Port) → is_at H o ≡ true → o ≡ H
at_host H e = refl
at_host A e = absurd cc
at_host B e = absurd cc
at_host C e = absurd cc

-- one place of a list, taken out twice
split_same : {X : Type 0} (xs xs' ys ys' : List X) (c c' : X) → length xs ≡ length xs' → xs ++ c ∷ ys ≡ xs' ++ c' ∷ ys' →
    (c ≡ c') × (xs ++ ys ≡ xs' ++ ys')
split_same [] [] ys ys' c c' size e = (let one : c ≡ c' = cc in one, let more : ys ≡ ys' = cc in more)
split_same [] (x' ∷ xs') ys ys' c c' size e = absurd (omega (arith, size))
split_same (x ∷ xs) [] ys ys' c c' size e = absurd (omega (arith, size))
split_same (x ∷ xs) (x' ∷ xs') ys ys' c c' size e =
    let here : x ≡ x' = cc in
    let there : xs ++ c ∷ ys ≡ xs' ++ c' ∷ ys' = cc in
    let rest = split_same xs xs' ys ys' c c' (omega (arith, size)) there in
    (rest.0, ap (λ y. y ∷ (xs ++ ys)) here ∙ ap (λ l. x' ∷ l) rest.1)

taken_same : (flight : List ledger.Copy) (place : ℕ) (c c' : ledger.Copy) (rest rest' : List ledger.Copy) → IsTakenOut flight place c rest →
    IsTakenOut flight place c' rest' → (c ≡ c') × (rest ≡ rest')
taken_same flight place c c' rest rest' a b =
    let same = split_same a.before b.before a.behind b.behind c c' (a.index ∙ sym b.index) (sym a.whole ∙ b.whole) in
    (same.0, a.left ∙ same.1 ∙ sym b.left)

module _ (net : Net) (starts : List Start) (ds : List Handling) (p : law.Plant) where
  -- two turns of one event, and the plants that they leave, are the same
  abbrev AreSame : (turn turn' : PlantTurn) (after after' : law.Plant) → Type 0
  AreSame turn turn' after after' = (turn ≡ turn') × (after ≡ after')

  sent_same : (i now : ℕ) (before u : State) (frame : List ℕ) (d d' : Handling) (turn turn' : PlantTurn) (after after' : law.Plant) →
      Sends net ds p now d turn after → Sends net ds p now d' turn' after' → IsSendingOf starts i before frame u d →
      IsSendingOf starts i before frame u d' → d ≡ d'
  sent_same i now before u frame d d' turn turn' after after' a b x y =
      let node : d.node ≡ d'.node = x.node ∙ sym y.node in
      let time : d.time ≡ d'.time = a.time ∙ sym b.time in
      same_handling d d' node (at_host d.inlet a.inlet ∙ sym (at_host d'.inlet b.inlet))
      (same_frame d.frame d'.frame (x.source ∙ sym y.source)
      (a.sending.number ∙ ap (λ k. first_number + sent_count k ds) node ∙ sym b.sending.number) (x.shows.dest ∙ sym y.shows.dest)
      (sym x.shows.supervision ∙ y.shows.supervision) (a.sending.time ∙ time ∙ sym b.sending.time)
      (sym x.shows.octets ∙ y.shows.octets)) time (λ o. x.wants o ∙ sym (y.wants o)) (λ o. x.outlets o ∙ sym (y.outlets o))

  -- so is what the sending of one handling leaves
  sends_same : (now : ℕ) (d d' : Handling) (turn turn' : PlantTurn) (after after' : law.Plant) → Sends net ds p now d turn after →
      Sends net ds p now d' turn' after' → d ≡ d' → AreSame turn turn' after after'
  sends_same now d d' turn turn' after after' a b same = (
    a.says
        ∙ ap (λ x. record { did = Some x; doubled = []; lost = law.those_stopped p.cuts (spread net x); came = [] }) same ∙ sym b.says,
    a.after ∙ ap (λ x. record { flight = p.flight ++ law.those_passing p.cuts (spread net x); cuts = p.cuts; clock = now }) same
        ∙ sym b.after,
  )

  numbers_same : (i now : ℕ) (before u : State) (frame : List ℕ) (d d' : Handling) (turn turn' : PlantTurn) (after after' : law.Plant) →
      Sends net ds p now d turn after → Sends net ds p now d' turn' after' → NumbersAs starts i before frame u turn.did →
      NumbersAs starts i before frame u turn'.did → AreSame turn turn' after after'
  numbers_same i now before u frame d d' turn turn' after after' a b x y =
      let did : turn.did ≡ Some d = ap (λ (z : PlantTurn). z.did) a.says in
      let did' : turn'.did ≡ Some d' = ap (λ (z : PlantTurn). z.did) b.says in
      sends_same now d d' turn turn' after after' a b
      (sent_same i now before u frame d d' turn turn' after after' a b (subst (NumbersAs starts i before frame u) did x)
      (subst (NumbersAs starts i before frame u) did' y))

  refused_same : (c c' : ledger.Copy) (rest rest' : List ledger.Copy) (turn turn' : PlantTurn) (after after' : law.Plant) → c ≡ c' →
      rest ≡ rest' → Refuses p c rest turn after → Refuses p c' rest' turn' after' → AreSame turn turn' after after'
  refused_same c c' rest rest' turn turn' after after' one more a b = (
    a.says ∙ ap (λ x. record idle_turn { lost = x ∷ [] }) one ∙ sym b.says,
    a.after ∙ ap (λ x. record p { flight = x }) more ∙ sym b.after,
  )

  ended_same : (c c' : ledger.Copy) (rest rest' : List ledger.Copy) (turn turn' : PlantTurn) (after after' : law.Plant) → c ≡ c' →
      rest ≡ rest' → Ends p c rest turn after → Ends p c' rest' turn' after' → AreSame turn turn' after after'
  ended_same c c' rest rest' turn turn' after after' one more a b = (
    a.says ∙ ap (λ x. record idle_turn { came = x ∷ [] }) one ∙ sym b.says,
    a.after ∙ ap (λ x. record p { flight = x }) more ∙ sym b.after,
  )

  -- the end of its way, or taken by another
  not_both : (c c' : ledger.Copy) (rest rest' : List ledger.Copy) (d : Handling) (turn turn' : PlantTurn) (after after' : law.Plant) → c ≡ c' →
      Ends p c rest turn after → Takes net p c' rest' d turn' after' → ⊥
  not_both c c' rest rest' d turn turn' after after' one a b =
      true≢false (sym a.own ∙ ap (λ (x : ledger.Copy). x.hop.to.node == x.frame.src) one
      ∙ ap (λ k. k == c'.frame.src) (sym b.node) ∙ ap (λ (f : Frame). d.node == f.src) (sym b.frame) ∙ b.foreign)

  -- what a carry did, by what it says of the copy
  abbrev How : ledger.Copy → List ledger.Copy → PlantTurn → law.Plant → Type 0
  How c rest turn after = Refuses p c rest turn after ⊎ (Ends p c rest turn after ⊎ ((d : Handling) × Takes net p c rest d turn after))

  module _ (s : Plant) (place : ℕ) (v : Plant) (copy : Copy) (c c' : ledger.Copy) (rest rest' : List ledger.Copy) (turn turn' : PlantTurn)
      (after after' : law.Plant) (one : c ≡ c') (more : rest ≡ rest') where
    lost_same : turn.came ≡ [] → turn'.came ≡ [] → How c rest turn after → How c' rest' turn' after' → AreSame turn turn' after after'
    lost_same none none' (inl a) (inl b) = refused_same c c' rest rest' turn turn' after after' one more a b
    lost_same none none' (inr (inl a)) how' = let came : turn.came ≡ c ∷ [] = ap (λ (z : PlantTurn). z.came) a.says in absurd cc
    lost_same none none' (inr (inr (d, a))) how' = let came : turn.came ≡ c ∷ [] = ap (λ (z : PlantTurn). z.came) a.says in absurd cc
    lost_same none none' (inl a) (inr (inl b)) = let came : turn'.came ≡ c' ∷ [] = ap (λ (z : PlantTurn). z.came) b.says in absurd cc
    lost_same none none' (inl a) (inr (inr (d, b))) = let came : turn'.came ≡ c' ∷ [] = ap (λ (z : PlantTurn). z.came) b.says in absurd cc

    came_same : (comes : Comes s place copy v) (g g' : ledger.Copy) → CarriesAs s place v copy (inl comes) g turn →
        CarriesAs s place v copy (inl comes) g' turn' → How c rest turn after → How c' rest' turn' after' → AreSame turn turn' after after'
    came_same comes g g' x y (inl a) how' =
        let none : turn.came ≡ [] = ap (λ (z : PlantTurn). z.came) a.says in
        let came : turn.came ≡ g ∷ [] = x.0 in
        absurd cc
    came_same comes g g' x y (inr a) (inl b) =
        let none : turn'.came ≡ [] = ap (λ (z : PlantTurn). z.came) b.says in
        let came : turn'.came ≡ g' ∷ [] = y.0 in
        absurd cc
    came_same comes g g' x y (inr (inl a)) (inr (inl b)) = ended_same c c' rest rest' turn turn' after after' one more a b
    came_same comes g g' x y (inr (inl a)) (inr (inr (d, b))) = absurd (not_both c c' rest rest' d turn turn' after after' one a b)
    came_same comes g g' x y (inr (inr (d, a))) (inr (inl b)) =
        absurd (not_both c' c rest' rest d turn' turn after' after (sym one) b a)
    came_same comes g g' x y (inr (inr (d, a))) (inr (inr (d', b))) = (
      a.says ∙ ap (λ z. record { did = Some z; doubled = []; lost = law.those_stopped p.cuts (spread net z); came = c ∷ [] }) same
          ∙ ap (λ z. record { did = Some d'; doubled = []; lost = law.those_stopped p.cuts (spread net d'); came = z ∷ [] }) one ∙ sym b.says,
      a.after ∙ ap (λ z. record p { flight = rest ++ law.those_passing p.cuts (spread net z) }) same
          ∙ ap (λ z. record p { flight = z ++ law.those_passing p.cuts (spread net d') }) more ∙ sym b.after,
    )
      where
        pins : CarriesAs s place v copy (inl comes) g (record turn { did = Some d })
        pins = subst (λ z. CarriesAs s place v copy (inl comes) g (record turn { did = z })) (ap (λ (z : PlantTurn). z.did) a.says) x

        pins' : CarriesAs s place v copy (inl comes) g' (record turn' { did = Some d' })
        pins' = subst (λ z. CarriesAs s place v copy (inl comes) g' (record turn' { did = z })) (ap (λ (z : PlantTurn). z.did) b.says) y

        same : d ≡ d'
        same =
            same_handling d d' (a.node ∙ ap (λ (z : ledger.Copy). z.hop.to.node) one ∙ sym b.node)
            (a.port ∙ ap (λ (z : ledger.Copy). z.hop.to.port) one ∙ sym b.port)
            (a.frame ∙ ap (λ (z : ledger.Copy). z.frame) one ∙ sym b.frame) (a.time ∙ sym b.time)
            (λ o. pins.2 o ∙ sym (pins'.2 o)) (λ o. pins.1 o ∙ sym (pins'.1 o))

    carried_same : (x : Comes s place copy v ⊎ (IsLost s copy × (v ≡ without s place))) (g g' : ledger.Copy) →
        CarriesAs s place v copy x g turn → CarriesAs s place v copy x g' turn' → How c rest turn after → How c' rest' turn' after' →
        AreSame turn turn' after after'
    carried_same (inl comes) g g' x y how how' = came_same comes g g' x y how how'
    carried_same (inr lost) g g' x y how how' =
        lost_same (ap (λ (z : PlantTurn). z.came) x) (ap (λ (z : PlantTurn). z.came) y) how how'

  ticked_same : (s : Plant) (i now : ℕ) (before u : State) (turn turn' : PlantTurn) (after after' : law.Plant) → Ticks net ds p i now turn after →
      Ticks net ds p i now turn' after' → TicksAs starts i now before u turn.did → TicksAs starts i now before u turn'.did →
      AreSame turn turn' after after'
  ticked_same s i now before u turn turn' after after' (inl a) (inl b) x y = (a.0 ∙ sym b.0, a.1 ∙ sym b.1)
  ticked_same s i now before u turn turn' after after' (inl a) (inr (d', node', sup', b)) x y =
      let due = subst (TicksAs starts i now before u) (ap (λ (z : PlantTurn). z.did) b.says) y in
      let not_due = subst (TicksAs starts i now before u) (ap (λ (z : PlantTurn). z.did) a.0) x in
      absurd (true≢false (sym due.0 ∙ not_due))
  ticked_same s i now before u turn turn' after after' (inr (d, node, sup, a)) (inl b) x y =
      let due = subst (TicksAs starts i now before u) (ap (λ (z : PlantTurn). z.did) a.says) x in
      let not_due = subst (TicksAs starts i now before u) (ap (λ (z : PlantTurn). z.did) b.0) y in
      absurd (true≢false (sym due.0 ∙ not_due))
  ticked_same s i now before u turn turn' after after' (inr (d, node, sup, a)) (inr (d', node', sup', b)) x y =
      let one = subst (TicksAs starts i now before u) (ap (λ (z : PlantTurn). z.did) a.says) x in
      let other = subst (TicksAs starts i now before u) (ap (λ (z : PlantTurn). z.did) b.says) y in
      sends_same now d d' turn turn' after after' a b (sent_same i now before u _ d d' turn turn' after after' a b one.1 other.1)

  step_same : (s : Plant) (e : PlantEvent) (v : Plant) (step : PlantStep s e v) (turn turn' : PlantTurn) (after after' : law.Plant) →
      Moves net ds p (event_of e) turn after → Moves net ds p (event_of e) turn' after' → IsTurnOf starts s e v step p turn →
      IsTurnOf starts s e v step p turn' → AreSame turn turn' after after'
  step_same s (Send i frame) v acts turn turn' after after' (d, node, a) (d', node', b) x y =
      numbers_same i p.clock acts.before acts.after frame d d' turn turn' after after' a b x y
  step_same s (Carry place) v step turn turn' after after' (c, rest, out, how) (c', rest', out', how') (g, at, x) (g', at', y) =
      let same = taken_same p.flight place c c' rest rest' out out' in
      carried_same s place v step.0 c c' rest rest' turn turn' after after' same.0 same.1 step.2 g g' x y how how'
  step_same s (Drop place) v step turn turn' after after' (c, rest, out, a) (c', rest', out', b) x y =
      let same = taken_same p.flight place c c' rest rest' out out' in
      refused_same c c' rest rest' turn turn' after after' same.0 same.1 a b
  step_same s (Repeat place) v step turn turn' after after' (c, rest, out, says, is) (c', rest', out', says', is') x y =
      let same = taken_same p.flight place c c' rest rest' out out' in (
        says ∙ ap (λ z. record idle_turn { doubled = z ∷ [] }) same.0 ∙ sym says',
        is ∙ ap (λ z. record p { flight = p.flight ++ z ∷ [] }) same.0 ∙ sym is',
      )
  step_same s (Cut link) v step turn turn' after after' a b x y = (a.0 ∙ sym b.0, a.1 ∙ sym b.1)
  step_same s (Mend link) v step turn turn' after after' a b x y = (a.0 ∙ sym b.0, a.1 ∙ sym b.1)
  step_same s (Tick i now) v acts turn turn' after after' (le, a) (le', b) x y =
      ticked_same s i now acts.before acts.after turn turn' after after' a b x y

told_same : (t : Topology) (starts : List Start) (turns : List Turn) (s : Plant) (run : PlantRun t starts turns s) (es es' : History)
    (p p' : law.Plant) (story : law.PlantRun (net_of t (length starts)) es p) (story' : law.PlantRun (net_of t (length starts)) es' p') →
    AreTold t starts turns s run es p story → AreTold t starts turns s run es' p' story' → (es ≡ es') × (p ≡ p')
told_same t starts [] s run [] [] p p' story story' a b = (refl, story ∙ sym story')
told_same t starts [] s run [] (e' ∷ es') p p' story story' a b = absurd b
told_same t starts [] s run (e ∷ es) es' p p' story story' a b = absurd a
told_same t starts (turn ∷ before) s run [] es' p p' story story' a b = absurd a
told_same t starts (turn ∷ before) s run (e ∷ es) [] p p' story story' a b = absurd b
told_same t starts (turn ∷ before) s run (e ∷ es) (e' ∷ es') p p' story story' a b =
    let net = net_of t (length starts) in
    let earlier = told_same t starts before turn.before run.0 es es' story.0 story'.0 story.1 story'.1 a.0 b.0 in
    let moves = subst (λ x. law.Moves net (done_in es) story.0 x e.1 p) a.1 story.2 in
    let moves' = subst (λ x. law.Moves net (done_in es') story'.0 x e'.1 p') b.1 story'.2 in
    let moved = subst (λ x. law.Moves net (done_in x) story.0 (event_of turn.event) e'.1 p') (sym earlier.0)
    (subst (λ x. law.Moves net (done_in es') x (event_of turn.event) e'.1 p') (sym earlier.1) moves') in
    let pins = subst (λ x. IsTurnOf starts turn.before turn.event s run.2 x e'.1) (sym earlier.1) b.2 in
    let now = step_same net starts (done_in es) story.0 turn.before turn.event s run.2 e.1 e'.1 p p' moves moved a.2 pins in (
      ap (λ x. (x, e.1) ∷ es) (a.1 ∙ sym b.1) ∙ ap (λ x. (e'.0, x) ∷ es) now.0 ∙ ap (λ x. e' ∷ x) earlier.0,
      now.1,
    )

pub have_one_history : HaveOneHistory
have_one_history t starts turns s run one other p q story retold a b =
    told_same t starts turns s run one other p q story retold a.events b.events
