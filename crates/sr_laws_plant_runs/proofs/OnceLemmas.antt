-- Each frame that is handed up is of one send, and no two are of the same.
use Rattle.std.proofs.Common.{◌≡◌, ◌≢◌, ◌⊎◌, inl, inr, ℕ, ◌+◌, ◌==◌, true, false, List, [], ◌∷◌, ◌++◌, length, Option, None, Some, refl, sym, ap, ◌∙◌, subst, arith}
use Rattle.std.specs.List.{list_any}
use Rattle.std.specs.Option.{option_to_list}
use Rattle.std.proofs.lemmas.Bool.{cases_Bool, and_parts, eq-eqb, eqb-true, true≢false}
use Rattle.sr_frame.specs.Frame.{padded}
use Rattle.sr_sequence.specs.declared.Seq.{Seq}
use Rattle.sr_forwarding.specs.Parcels.{ParcelImage}
use Rattle.sr_node.specs.Starts.{Start}
use Rattle.sr_laws_plant.specs.Frames.{Frame, same_pair}
use Rattle.sr_laws_plant.specs.Handlings.{Handling, is_sending, sent_count}
use Rattle.sr_laws_plant.specs.Handlings as law_handlings
use Rattle.sr_laws_plant.specs.Ideal.{IsIdeal, IsHanded, AreApart}
use Rattle.sr_laws_plant.specs.Ledger.{Net, PlantTurn}
use Rattle.sr_laws_plant.specs.Limits.{first_number}
use Rattle.sr_laws_plant.specs.Lists.{One, Each}
use Rattle.sr_laws_plant.specs.ListLemmas.{one_left, one_right, each_append}
use Rattle.sr_laws_plant.specs.OneNode.{handed}
use Rattle.sr_laws_plant.specs.PlantEvents.{History, done_in, Moves}
use Rattle.sr_laws_plant.specs.PlantEvents as law
use Rattle.sr_plant.specs.declared.topology.Topology.{Topology}
use Rattle.sr_plant.specs.declared.event.PlantEvent.{PlantEvent}
use Rattle.sr_plant.specs.declared.event.PlantEvent.TheVariants.{Send, Carry, Drop, Repeat, Cut, Mend, Tick}
use Rattle.sr_plant.specs.Plants.{Plant}
use Rattle.sr_plant.specs.Steps.{PlantStep}
use Rattle.sr_plant.specs.Topologies.{net_of}
use Rattle.sr_laws_plant_runs.specs.PlantRuns.{Turn}
use Rattle.sr_laws_plant_runs.specs.Histories.{Shows, ParcelShows, Zip, oldest_first, event_of, NumbersAs, IsTurnOf}
use Rattle.sr_laws_plant_runs.specs.Sent.{IsSendOf}
use Rattle.sr_laws_plant_runs.specs.Traffic.{count_of, numberings}
use Rattle.sr_laws_plant_runs.specs.Once.{HostSend, WasSent, IsOfSend, AreUnlike}
use Rattle.sr_laws_plant_runs.proofs.HistoryLemmas.{StepTold}

-- the frame is that of a send
pub record IsOf (starts : List Start) (turns : List Turn) (f : Frame) (w : HostSend) : Type 0 where
  pub frame : List ℕ
  pub seq : Seq
  pub sent : WasSent w frame seq turns
  pub source : f.src ≡ w.node
  pub number : f.number ≡ first_number + w.before
  pub shows : Shows starts (padded frame) seq f

abbrev Sends : Frame → Handling → Type 0
Sends f d = (is_sending d ≡ true) × (d.frame ≡ f)

-- what a turn numbered
record IsBy (starts : List Start) (s : Plant) (e : PlantEvent) (ds : List Handling) (f : Frame) : Type 0 where
  node : ℕ
  frame : List ℕ
  seq : Seq
  send : IsSendOf node frame seq (record { before = s; event = e })
  source : f.src ≡ node
  number : f.number ≡ first_number + sent_count node ds
  shows : Shows starts (padded frame) seq f

idle_by : (starts : List Start) (s : Plant) (e : PlantEvent) (ds : List Handling) (f : Frame) (did : Option Handling) → did ≡ None → One (Sends f) (option_to_list did) → IsBy starts s e ds f
idle_by starts s e ds f did none some = absurd (subst (λ x. One (Sends f) (option_to_list x)) none some)

turn_by : (net : Net) (starts : List Start) (ds : List Handling) (s v : Plant) (p q : law.Plant) (e : PlantEvent) (step : PlantStep s e v) (turn : PlantTurn) (f : Frame) →
    Moves net ds p (event_of e) turn q → IsTurnOf starts s e v step p turn → f.supervision ≡ false → One (Sends f) (option_to_list turn.did) → IsBy starts s e ds f
turn_by net starts ds s v p q (Send i frame) step turn f (d, node, sends) pins host some =
    let did : turn.did ≡ Some d = ap (λ x. x.did) sends.says in
    let is = subst (λ x. NumbersAs starts i step.before frame step.after x) did pins in
    found is (subst (λ x. One (Sends f) (option_to_list x)) did some)
  where
    found : NumbersAs starts i step.before frame step.after (Some d) → One (Sends f) (d ∷ []) → IsBy starts s (Send i frame) ds f
    found is (inl one) = record {
      node = i;
      frame = frame;
      seq = step.before.core.next;
      send = record { sender = step.before; event = refl; there = step.there; number = refl };
      source = ap (λ (g : Frame). g.src) (sym one.1) ∙ is.source;
      number = ap (λ (g : Frame). g.number) (sym one.1) ∙ sends.sending.number ∙ ap (λ k. first_number + sent_count k ds) is.node;
      shows = subst (λ g. Shows starts (padded frame) step.before.core.next g) one.1 is.shows;
    }
    found is (inr none) = absurd none
turn_by net starts ds s v p q (Tick i now) step turn f (on, inl idle) pins host some = idle_by starts s (Tick i now) ds f turn.did (ap (λ x. x.did) idle.0) some
turn_by net starts ds s v p q (Tick i now) step turn f (on, inr (d, node, sup, sends)) pins host some =
    by (subst (λ x. One (Sends f) (option_to_list x)) (ap (λ x. x.did) sends.says) some)
  where
    by : One (Sends f) (d ∷ []) → IsBy starts s (Tick i now) ds f
    by (inl one) = absurd (true≢false (sym sup ∙ ap (λ (g : Frame). g.supervision) one.1 ∙ host))
    by (inr none) = absurd none
turn_by net starts ds s v p q (Carry place) step turn f (g, rest, out, inl refused) pins host some = idle_by starts s (Carry place) ds f turn.did (ap (λ x. x.did) refused.says) some
turn_by net starts ds s v p q (Carry place) step turn f (g, rest, out, inr (inl ends)) pins host some = idle_by starts s (Carry place) ds f turn.did (ap (λ x. x.did) ends.says) some
turn_by net starts ds s v p q (Carry place) step turn f (g, rest, out, inr (inr (d, takes))) pins host some =
    by (subst (λ x. One (Sends f) (option_to_list x)) (ap (λ x. x.did) takes.says) some)
  where
    by : One (Sends f) (d ∷ []) → IsBy starts s (Carry place) ds f
    by (inl one) = absurd (true≢false (sym one.0 ∙ takes.inlet))
    by (inr none) = absurd none
turn_by net starts ds s v p q (Drop place) step turn f (c, rest, out, refused) pins host some = idle_by starts s (Drop place) ds f turn.did (ap (λ x. x.did) refused.says) some
turn_by net starts ds s v p q (Repeat place) step turn f moves pins host some = idle_by starts s (Repeat place) ds f turn.did (ap (λ x. x.did) moves.3) some
turn_by net starts ds s v p q (Cut link) step turn f moves pins host some = idle_by starts s (Cut link) ds f turn.did (ap (λ x. x.did) moves.0) some
turn_by net starts ds s v p q (Mend link) step turn f moves pins host some = idle_by starts s (Mend link) ds f turn.did (ap (λ x. x.did) moves.0) some

one_either : {X : Type 0} (P : X → Type 0) (xs ys : List X) → One P (xs ++ ys) → One P xs ⊎ One P ys
one_either P [] ys some = inr some
one_either P (x ∷ xs) ys (inl here) = inl (inl here)
one_either P (x ∷ xs) ys (inr some) = elim (one_either P xs ys some) [
  | inl a ↦ inl (inr a)
  | inr b ↦ inr b
]

-- each frame of a host in the history is of a send
pub sends_more : (t : Topology) (starts : List Start) (before : List Turn) (turn : Turn) (s : Plant) (p : law.Plant) (ds : List Handling) (step : PlantStep turn.before turn.event s) (now : StepTold t starts ds turn.before p turn.event s step) →
    ((k : ℕ) → count_of k (numberings before) ≡ sent_count k ds) → ((f : Frame) → law_handlings.IsSent f ds → f.supervision ≡ false → (w : HostSend) × IsOf starts before f w) →
    (f : Frame) → law_handlings.IsSent f (option_to_list now.turn.did ++ ds) → f.supervision ≡ false → (w : HostSend) × IsOf starts (turn ∷ before) f w
sends_more t starts before turn s p ds step now counts earlier f some host =
    elim (one_either (Sends f) (option_to_list now.turn.did) ds some) [
      | inl at_it ↦ here (turn_by (net_of t (length starts)) starts ds turn.before s p now.after turn.event step now.turn f now.moves now.pins host at_it)
      | inr past ↦ (let rest = earlier f past host in
          (rest.0, record { frame = rest.1.frame; seq = rest.1.seq; sent = inr rest.1.sent; source = rest.1.source; number = rest.1.number; shows = rest.1.shows }))
    ]
  where
    here : IsBy starts turn.before turn.event ds f → (w : HostSend) × IsOf starts (turn ∷ before) f w
    here b = (
      record { node = b.node; before = sent_count b.node ds },
      record { frame = b.frame; seq = b.seq; sent = inl (b.send, counts b.node); source = b.source; number = b.number; shows = b.shows },
    )

-- in order
abbrev pub ws_of : (starts : List Start) (turns : List Turn) (fs : List Frame) → Each (λ f. (w : HostSend) × IsOf starts turns f w) fs → List HostSend
ws_of starts turns [] each = []
ws_of starts turns (f ∷ fs) each = each.0.0 ∷ ws_of starts turns fs each.1

-- a parcel that shows a frame is of its send
of_send : (starts : List Start) (turns : List Turn) (p : ParcelImage) (f : Frame) (w : HostSend) → ParcelShows starts p f → IsOf starts turns f w → IsOfSend turns p w
of_send starts turns p f w (q, has, shows) is =
    let number : q.0 ≡ is.seq.0 = shows.number ∙ sym is.shows.number in
    record { frame = is.frame; seq = is.seq; sent = is.sent; is = (shows.octets ∙ sym is.shows.octets, has ∙ ap (λ n. Some (record { 0 = n })) number) }

pub zip_ws : (starts : List Start) (turns : List Turn) (ps : List ParcelImage) (fs : List Frame) (each : Each (λ f. (w : HostSend) × IsOf starts turns f w) fs) → Zip (ParcelShows starts) ps fs → Zip (IsOfSend turns) ps (ws_of starts turns fs each)
zip_ws starts turns [] [] each zip = tt
zip_ws starts turns [] (f ∷ fs) each zip = absurd zip
zip_ws starts turns (p ∷ ps) [] each zip = absurd zip
zip_ws starts turns (p ∷ ps) (f ∷ fs) each zip = (of_send starts turns p f each.0.0 zip.0 each.0.1, zip_ws starts turns ps fs each.1 zip.1)

-- frames of two pairs are of two sends
unlike : (starts : List Start) (turns : List Turn) (f g : Frame) (v w : HostSend) → IsOf starts turns f v → IsOf starts turns g w → same_pair f g ≡ false → w ≢ v
unlike starts turns f g v w a b apart e =
    let src : f.src ≡ g.src = a.source ∙ ap (λ (x : HostSend). x.node) (sym e) ∙ sym b.source in
    let number : f.number ≡ g.number = a.number ∙ ap (λ (x : HostSend). first_number + x.before) (sym e) ∙ sym b.number in
    let both : same_pair f g ≡ true = rw (eq-eqb f.src g.src src, eq-eqb f.number g.number number) refl in
    true≢false (sym both ∙ apart)

-- apart, oldest first
abbrev AreApartNow : List Frame → Type 0
AreApartNow [] = Unit {0}
AreApartNow (f ∷ fs) = Each (λ g. same_pair f g ≡ false) fs × AreApartNow fs

pair_turned : (f g : Frame) → same_pair f g ≡ false → same_pair g f ≡ false
pair_turned f g apart = elim (cases_Bool (same_pair g f)) [
  | inr no_pair ↦ no_pair
  | inl is ↦ absurd (true≢false (sym (twist is) ∙ apart))
]
  where
    twist : same_pair g f ≡ true → same_pair f g ≡ true
    twist is =
        let a : g.src ≡ f.src = pair_src g f is in
        let b : g.number ≡ f.number = pair_number g f is in
        rw (eq-eqb f.src g.src (sym a), eq-eqb f.number g.number (sym b)) refl
      where
        pair_src : (g f : Frame) → same_pair g f ≡ true → g.src ≡ f.src
        pair_src g f e = eqb-true g.src f.src (and_parts (g.src == f.src) (g.number == f.number) e).0

        pair_number : (g f : Frame) → same_pair g f ≡ true → g.number ≡ f.number
        pair_number g f e = eqb-true g.number f.number (and_parts (g.src == f.src) (g.number == f.number) e).1

none_of : (f : Frame) (fs : List Frame) → list_any (same_pair f) fs ≡ false → Each (λ g. same_pair f g ≡ false) fs
none_of f [] e = tt
none_of f (g ∷ fs) e = elim (cases_Bool (same_pair f g)) [
  | inl is ↦ (let bad : true ≡ false = sym (rw is refl) ∙ e in absurd (true≢false bad))
  | inr other ↦ (other, none_of f fs (sym (rw other refl) ∙ e))
]

each_oldest : (P : Frame → Type 0) (fs : List Frame) → Each P fs → Each P (oldest_first fs)
each_oldest P [] each = tt
each_oldest P (f ∷ fs) each = each_append P (oldest_first fs) (f ∷ []) (each_oldest P fs each.1) (each.0, tt)

apart_append : (fs : List Frame) (f : Frame) → AreApartNow fs → Each (λ g. same_pair f g ≡ false) fs → AreApartNow (fs ++ f ∷ [])
apart_append [] f apart each = (tt, tt)
apart_append (g ∷ fs) f apart each = (each_append (λ h. same_pair g h ≡ false) fs (f ∷ []) apart.0 (pair_turned f g each.0, tt), apart_append fs f apart.1 each.1)

apart_oldest : (fs : List Frame) → AreApart fs → AreApartNow (oldest_first fs)
apart_oldest [] apart = tt
apart_oldest (f ∷ fs) apart = apart_append (oldest_first fs) f (apart_oldest fs apart.1) (each_oldest (λ g. same_pair f g ≡ false) fs (none_of f fs apart.0))

unlike_ws : (starts : List Start) (turns : List Turn) (fs : List Frame) (each : Each (λ f. (w : HostSend) × IsOf starts turns f w) fs) → AreApartNow fs → AreUnlike (ws_of starts turns fs each)
unlike_ws starts turns [] each apart = tt
unlike_ws starts turns (f ∷ fs) each apart = (rest fs each.1 apart.0, unlike_ws starts turns fs each.1 apart.1)
  where
    rest : (gs : List Frame) (more : Each (λ g. (w : HostSend) × IsOf starts turns g w) gs) → Each (λ g. same_pair f g ≡ false) gs → Each (λ v. v ≢ each.0.0) (ws_of starts turns gs more)
    rest [] more others = tt
    rest (g ∷ gs) more others = (unlike starts turns f g each.0.0 more.0.0 each.0.1 more.0.1 others.0, rest gs more.1 others.1)

-- so each parcel that was handed up is of a send of its own
pub once_up : (starts : List Start) (turns : List Turn) (j : ℕ) (ps : List ParcelImage) (ds : List Handling) →
    ((f : Frame) → law_handlings.IsSent f ds → f.supervision ≡ false → (w : HostSend) × IsOf starts turns f w) →
    Each (λ f. IsIdeal j f ds) (handed j ds) → AreApart (handed j ds) → Zip (ParcelShows starts) ps (oldest_first (handed j ds)) →
    (ws : List HostSend) × Zip (IsOfSend turns) ps ws × AreUnlike ws
once_up starts turns j ps ds sends ideal apart up = (
  ws_of starts turns (oldest_first (handed j ds)) each,
  zip_ws starts turns ps (oldest_first (handed j ds)) each up,
  unlike_ws starts turns (oldest_first (handed j ds)) each (apart_oldest (handed j ds) apart),
)
  where
    all : (fs : List Frame) → Each (λ f. IsIdeal j f ds) fs → Each (λ f. (w : HostSend) × IsOf starts turns f w) fs
    all [] e = tt
    all (f ∷ fs) e = (sends f e.0.sent e.0.host, all fs e.1)

    each : Each (λ f. (w : HostSend) × IsOf starts turns f w) (oldest_first (handed j ds))
    each = each_oldest (λ f. (w : HostSend) × IsOf starts turns f w) (handed j ds) (all (handed j ds) ideal)

-- what was handed up is of one of them
same_which : (v w : HostSend) → v.node ≡ w.node → v.before ≡ w.before → v ≡ w
same_which v w a b = λ j. record { node = a j; before = b j }

one_oldest : (P : Frame → Type 0) (fs : List Frame) → One P fs → One P (oldest_first fs)
one_oldest P [] some = absurd some
one_oldest P (f ∷ fs) (inl is) = one_right P (oldest_first fs) (f ∷ []) (inl is)
one_oldest P (f ∷ fs) (inr some) = one_left P (oldest_first fs) (f ∷ []) (one_oldest P fs some)

in_ws : (starts : List Start) (turns : List Turn) (fs : List Frame) (each : Each (λ f. (w : HostSend) × IsOf starts turns f w) fs) (f : Frame) (w : HostSend) → One (λ g. g ≡ f) fs → f.src ≡ w.node → f.number ≡ first_number + w.before → One (λ v. v ≡ w) (ws_of starts turns fs each)
in_ws starts turns [] each f w some src number = absurd some
in_ws starts turns (g ∷ fs) each f w (inl is) src number =
    let a = each.0.1.number in
    let b : g.number ≡ f.number = ap (λ (x : Frame). x.number) is in
    inl (same_which each.0.0 w (sym each.0.1.source ∙ ap (λ (x : Frame). x.src) is ∙ src) (omega (arith, a, b, number)))
in_ws starts turns (g ∷ fs) each f w (inr some) src number = inr (in_ws starts turns fs each.1 f w some src number)

pub each_once : (starts : List Start) (turns : List Turn) (j : ℕ) (ps : List ParcelImage) (ds : List Handling) →
    ((f : Frame) → law_handlings.IsSent f ds → f.supervision ≡ false → (w : HostSend) × IsOf starts turns f w) →
    Each (λ f. IsIdeal j f ds) (handed j ds) → AreApart (handed j ds) → Zip (ParcelShows starts) ps (oldest_first (handed j ds)) →
    (ws : List HostSend) × Zip (IsOfSend turns) ps ws × AreUnlike ws
    × ((w : HostSend) (f : Frame) → IsHanded j f ds → f.src ≡ w.node → f.number ≡ first_number + w.before → One (λ v. v ≡ w) ws)
each_once starts turns j ps ds sends ideal apart up = (
  ws_of starts turns (oldest_first (handed j ds)) each,
  zip_ws starts turns ps (oldest_first (handed j ds)) each up,
  unlike_ws starts turns (oldest_first (handed j ds)) each (apart_oldest (handed j ds) apart),
  λ w f some src number. in_ws starts turns (oldest_first (handed j ds)) each f w (one_oldest (λ g. g ≡ f) (handed j ds) some) src number,
)
  where
    all : (fs : List Frame) → Each (λ f. IsIdeal j f ds) fs → Each (λ f. (w : HostSend) × IsOf starts turns f w) fs
    all [] e = tt
    all (f ∷ fs) e = (sends f e.0.sent e.0.host, all fs e.1)

    each : Each (λ f. (w : HostSend) × IsOf starts turns f w) (oldest_first (handed j ds))
    each = each_oldest (λ f. (w : HostSend) × IsOf starts turns f w) (handed j ds) (all (handed j ds) ideal)
