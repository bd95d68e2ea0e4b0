-- In a network in which nothing is dropped, cut or refused, nothing is lost.
use Rattle.std.proofs.Common.{Option, ◌≡◌, ◌≢◌, inl, inr, ℕ, zero, suc, ◌<◌, ◌≤◌, ◌==◌, ◌||◌, not, Bool, true, false, List, [], ◌∷◌, ◌++◌, length, None, Some, slice_get, refl, sym, ap, ◌∙◌, subst, arith}
use Rattle.std.specs.List.{filter}
use Rattle.std.specs.Option.{option_to_list}
use Rattle.std.proofs.lemmas.Bool.{cases_Bool, cases_eq, ne_eqb}
use Rattle.std.proofs.lemmas.Bool.Decides.{nat_tests}
use Rattle.sr_frame.specs.declared.ports.Port.{Port}
use Rattle.sr_frame.specs.declared.ports.Port.TheVariants.{A}
use Rattle.sr_frame.specs.Addresses.{mac_eq}
use Rattle.sr_frame.specs.Frame.{least_len, padded}
use Rattle.sr_sequence.specs.declared.Seq.{Seq}
use Rattle.sr_forwarding.specs.Octets.{dst_in, is_supervision}
use Rattle.sr_forwarding.specs.Parcels.{ParcelImage}
use Rattle.sr_forwarding.specs.RoleImages.{is_group}
use Rattle.sr_node.specs.Images.{State, time_at}
use Rattle.sr_node.specs.Starts.{Start}
use Rattle.sr_laws_box.specs.Members.{is_to_group}
use Rattle.sr_laws_plant.specs.Frames.{Dest, one, group, is_only, is_for, Frame}
use Rattle.sr_laws_plant.specs.Handlings.{Handling}
use Rattle.sr_laws_plant.specs.Ideal.{IsIdeal}
use Rattle.sr_laws_plant.specs.LanLaws.{HasWholeCopy}
use Rattle.sr_laws_plant.specs.Ledger.{Place, Hop, Net, PlantTurn, handlings, count, spread, made_in, lost_in, IsOpen}
use Rattle.sr_laws_plant.specs.Ledger as ledger
use Rattle.sr_laws_plant.specs.Lists.{One}
use Rattle.sr_laws_plant.specs.ListLemmas.{one_left, one_right}
use Rattle.sr_laws_plant.specs.PlantEvents.{History, done_in, Moves}
use Rattle.sr_laws_plant.specs.PlantEvents as law
use Rattle.sr_laws_plant.specs.RingLaws.{HasWholeArc}
use Rattle.sr_laws_plant.specs.RingParts.{Way, IsWhole}
use Rattle.sr_laws_plant.specs.Rings.{ring, ring_part}
use Rattle.sr_laws_plant.specs.TwinLans.{twin_lans, other_members, lan_hops, in_lan_a, in_lan_b}
use Rattle.sr_laws_plant.proofs.LedgerLemmas.{put_makes}
use Rattle.sr_laws_plant.proofs.LosslessLemmas.{open_all as all_open, any_arc, next_number, last_number}
use Rattle.sr_plant.specs.declared.topology.Topology.{Topology}
use Rattle.sr_plant.specs.declared.topology.Topology.TheVariants.{Ring, TwinLan}
use Rattle.sr_plant.specs.declared.event.PlantEvent.{PlantEvent}
use Rattle.sr_plant.specs.declared.event.PlantEvent.TheVariants.{Send, Carry, Drop, Repeat, Cut, Mend, Tick}
use Rattle.sr_plant.specs.Plants.{Plant}
use Rattle.sr_plant.specs.Steps.{PlantStep}
use Rattle.sr_plant.specs.Topologies.{net_of}
use Rattle.sr_laws_plant_runs.specs.PlantRuns.{Turn, PlantRun}
use Rattle.sr_laws_plant_runs.specs.Histories.{mac_at, Shows, ParcelShows, event_of, NumbersAs, IsTurnOf, AreTold}
use Rattle.sr_laws_plant_runs.specs.RunLaws.{RingsAreTold, TwinLansAreTold}
use Rattle.sr_laws_plant_runs.specs.Sent.{IsSendOf, is_meant_for}
use Rattle.sr_laws_plant_runs.specs.Unbroken.{TakesNothingAway, IsUnbroken, RefusesNothing, IsUnrefused, IsFrameSent, HandsUpAll}
use Rattle.sr_laws_plant_runs.proofs.CopyLemmas.{got_once}
use Rattle.sr_laws_plant_runs.proofs.FoundLemmas.{IsFound, found_later}
use Rattle.sr_laws_plant_runs.proofs.FrameLemmas.{address_at}
use Rattle.sr_laws_plant_runs.proofs.NodeLemmas.{sent_is_fit}
use Rattle.sr_laws_plant_runs.proofs.RefusalLemmas.{unrefused}
use Rattle.sr_laws_plant_runs.proofs.PaddingLemmas.{padded_dst, padded_supervision}

-- with no link cut nothing is stopped
none_stopped : (cs : List ledger.Copy) → law.those_stopped [] cs ≡ []
none_stopped [] = refl
none_stopped (c ∷ cs) = none_stopped cs

stopped_by_none : (cuts : List ℕ) (cs : List ledger.Copy) → cuts ≡ [] → law.those_stopped cuts cs ≡ []
stopped_by_none cuts cs none = ap (λ x. law.those_stopped x cs) none ∙ none_stopped cs

-- a turn that loses nothing
abbrev Keeps : PlantTurn → law.Plant → Type 0
Keeps turn p = (turn.lost ≡ []) × (p.cuts ≡ [])

sends_keeps : (net : Net) (ds : List Handling) (p q : law.Plant) (now : ℕ) (d : Handling) (turn : PlantTurn) → law.Sends net ds p now d turn q → p.cuts ≡ [] → Keeps turn q
sends_keeps net ds p q now d turn sends none = (ap (λ x. x.lost) sends.says ∙ stopped_by_none p.cuts (spread net d) none, ap (λ x. x.cuts) sends.after ∙ none)

turn_keeps : (net : Net) (starts : List Start) (ds : List Handling) (s v : Plant) (p q : law.Plant) (e : PlantEvent) (step : PlantStep s e v) (turn : PlantTurn) →
    Moves net ds p (event_of e) turn q → IsTurnOf starts s e v step p turn → TakesNothingAway e → RefusesNothing s e → p.cuts ≡ [] → Keeps turn q
turn_keeps net starts ds s v p q (Send i frame) step turn (d, node, sends) pins away refuses none = sends_keeps net ds p q p.clock d turn sends none
turn_keeps net starts ds s v p q (Tick i now) step turn (on, inl idle) pins away refuses none = (ap (λ x. x.lost) idle.0, ap (λ x. x.cuts) idle.1 ∙ none)
turn_keeps net starts ds s v p q (Tick i now) step turn (on, inr (d, node, sup, sends)) pins away refuses none = sends_keeps net ds p q now d turn sends none
turn_keeps net starts ds s v p q (Carry place) (c, at, inr lost) turn moves pins away refuses none = absurd (refuses c at lost.0)
turn_keeps net starts ds s v p q (Carry place) (c, at, inl comes) turn (g, rest, out, inl refused) pins away refuses none =
    let came : turn.came ≡ pins.0 ∷ [] = pins.2.0 in
    let none_came : turn.came ≡ [] = ap (λ x. x.came) refused.says in
    absurd cc
turn_keeps net starts ds s v p q (Carry place) (c, at, inl comes) turn (g, rest, out, inr (inl ends)) pins away refuses none =
    (ap (λ x. x.lost) ends.says, ap (λ x. x.cuts) ends.after ∙ none)
turn_keeps net starts ds s v p q (Carry place) (c, at, inl comes) turn (g, rest, out, inr (inr (d, takes))) pins away refuses none =
    (ap (λ x. x.lost) takes.says ∙ stopped_by_none p.cuts (spread net d) none, ap (λ x. x.cuts) takes.after ∙ none)
turn_keeps net starts ds s v p q (Drop place) step turn moves pins away refuses none = absurd away
turn_keeps net starts ds s v p q (Repeat place) step turn moves pins away refuses none = (ap (λ x. x.lost) moves.3, ap (λ x. x.cuts) moves.4 ∙ none)
turn_keeps net starts ds s v p q (Cut link) step turn moves pins away refuses none = absurd away
turn_keeps net starts ds s v p q (Mend link) step turn moves pins away refuses none =
    (ap (λ x. x.lost) moves.0, ap (λ x. x.cuts) moves.1 ∙ ap (λ cs. filter (λ l. not (l == link)) cs) none)

-- nothing was lost
pub record LosesNothing (es : History) (p : law.Plant) : Type 0 where
  pub cuts : p.cuts ≡ []
  pub lost : (q : Place) (f : Frame) → lost_in q f (law.turns es) ≡ 0

pub loses_nothing : (t : Topology) (starts : List Start) (turns : List Turn) (s : Plant) (run : PlantRun t starts turns s) (es : History) (p : law.Plant) (story : law.PlantRun (net_of t (length starts)) es p) →
    AreTold t starts turns s run es p story → IsUnbroken turns → IsUnrefused turns → LosesNothing es p
loses_nothing t starts [] s run [] p story told whole taken = record { cuts = ap (λ x. x.cuts) story; lost = λ q f. refl }
loses_nothing t starts [] s run (e ∷ es) p story told whole taken = absurd told
loses_nothing t starts (turn ∷ before) s run [] p story told whole taken = absurd told
loses_nothing t starts (turn ∷ before) s run (e ∷ es) p story told whole taken =
    let earlier = loses_nothing t starts before turn.before run.0 es story.0 story.1 told.0 whole.1 taken.1 in
    let moves : Moves (net_of t (length starts)) (done_in es) story.0 (event_of turn.event) e.1 p = subst (λ x. Moves (net_of t (length starts)) (done_in es) story.0 x e.1 p) told.1 story.2 in
    let keeps = turn_keeps (net_of t (length starts)) starts (done_in es) turn.before s story.0 p turn.event run.2 e.1 moves told.2 whole.0 taken.0 earlier.cuts in
    record { cuts = keeps.1; lost = λ q f. (let a : count q f e.1.lost ≡ 0 = ap (λ cs. count q f cs) keeps.0 in let b = earlier.lost q f in omega (arith, a, b)) }

found_now : (starts : List Start) (s v : Plant) (p : law.Plant) (e : PlantEvent) (step : PlantStep s e v) (turn : PlantTurn) (ds : List Handling) (i : ℕ) (frame : List ℕ) (seq : Seq) →
    IsTurnOf starts s e v step p turn → IsSendOf i frame seq (record { before = s; event = e }) → (f : Frame) × IsFound starts i frame seq f (option_to_list turn.did ++ ds)
found_now starts s v p (Send k octets) acts turn ds i frame seq pins send = by turn.did pins
  where
    event : Send k octets ≡ Send i frame
    event = send.event

    here : k ≡ i
    here = cc

    same : octets ≡ frame
    same = cc

    number : acts.before.core.next ≡ seq
    number = ap (λ (m : State). m.core.next) (got_once s.nodes i acts.before send.sender (subst (λ x. slice_get s.nodes x ≡ Some acts.before) here acts.there) send.there) ∙ send.number

    fits : least_len octets ≤ length octets
    fits = (let fit = sent_is_fit acts.before octets (time_at acts.before s.clock) acts.fits in let l = fit.least in grind (arith, nat_tests, l))

    by : (did : Option Handling) → NumbersAs starts k acts.before octets acts.after did → (f : Frame) × IsFound starts i frame seq f (option_to_list did ++ ds)
    by None n = absurd n
    by (Some d) n = (
      d.frame,
      record {
        sent = inl (n.inlet, refl);
        source = n.source ∙ here;
        shows = subst (λ o. Shows starts (padded o) seq d.frame) same (subst (λ x. Shows starts (padded octets) x d.frame) number n.shows);
        put = inl (n.node ∙ here, refl, n.outlets A);
        least = subst (λ o. least_len o ≤ length o) same fits;
      },
    )
found_now starts s v p (Carry place) step turn ds i frame seq pins send = let e = send.event in absurd cc
found_now starts s v p (Drop place) step turn ds i frame seq pins send = let e = send.event in absurd cc
found_now starts s v p (Repeat place) step turn ds i frame seq pins send = let e = send.event in absurd cc
found_now starts s v p (Cut link) step turn ds i frame seq pins send = let e = send.event in absurd cc
found_now starts s v p (Mend link) step turn ds i frame seq pins send = let e = send.event in absurd cc
found_now starts s v p (Tick k now) step turn ds i frame seq pins send = let e = send.event in absurd cc

pub find_sent : (t : Topology) (starts : List Start) (turns : List Turn) (s : Plant) (run : PlantRun t starts turns s) (es : History) (p : law.Plant) (story : law.PlantRun (net_of t (length starts)) es p) →
    AreTold t starts turns s run es p story → (i : ℕ) (frame : List ℕ) (seq : Seq) → One (IsSendOf i frame seq) turns → (f : Frame) × IsFound starts i frame seq f (done_in es)
find_sent t starts [] s run es p story told i frame seq some = absurd some
find_sent t starts (turn ∷ before) s run [] p story told i frame seq some = absurd told
find_sent t starts (turn ∷ before) s run (e ∷ es) p story told i frame seq (inl here) = found_now starts turn.before s story.0 turn.event run.2 e.1 (done_in es) i frame seq told.2 here
find_sent t starts (turn ∷ before) s run (e ∷ es) p story told i frame seq (inr there) =
    let earlier = find_sent t starts before turn.before run.0 es story.0 story.1 told.0 i frame seq there in
    (earlier.0, found_later starts i frame seq earlier.0 (done_in es) (option_to_list e.1.did) earlier.1)

-- it is ideal for whom it is meant
either : (a b : Bool) (d : Dest) (j : ℕ) → a ≡ is_only j d → b ≡ is_to_group d → (a || b) ≡ true → is_for j d ≡ true
either a b (one k) j e f meant = sym e ∙ sym (or_none a) ∙ ap (λ x. a || x) (sym f) ∙ meant
  where
    or_none : (x : Bool) → (x || false) ≡ x
    or_none true = refl
    or_none false = refl
either a b group j e f meant = refl

pub ideal_for : (starts : List Start) (i j : ℕ) (role : Start) (frame : List ℕ) (seq : Seq) (f : Frame) (ds : List Handling) → IsFound starts i frame seq f ds → i ≢ j → slice_get starts j ≡ Some role →
    is_meant_for role.role.mac frame ≡ true → is_supervision frame ≡ false → IsIdeal j f ds
ideal_for starts i j role frame seq f ds found other at meant host = record {
  sent = found.sent;
  host = sym found.shows.supervision ∙ padded_supervision frame found.least ∙ host;
  for = either (mac_eq (dst_in frame) role.role.mac) (is_group (dst_in frame)) f.dest j
      (ap (λ m. mac_eq (dst_in frame) m) (sym (address_at starts j role at).0) ∙ ap (λ d. mac_eq d (mac_at starts j)) (sym (padded_dst frame found.least)) ∙ found.shows.alone j (address_at starts j role at).1)
      (ap is_group (sym (padded_dst frame found.least)) ∙ found.shows.all) meant;
  other = ne_eqb j f.src (λ e. other (sym found.source ∙ sym e));
}

-- a parcel that shows it is the frame
one_is : (starts : List Start) (i : ℕ) (frame : List ℕ) (seq : Seq) (f : Frame) (ds : List Handling) → IsFound starts i frame seq f ds → (ps : List ParcelImage) → One (λ p. ParcelShows starts p f) ps → One (IsFrameSent frame seq) ps
one_is starts i frame seq f ds found [] some = absurd some
one_is starts i frame seq f ds found (p ∷ ps) (inl (q, has, shows)) =
    let number : q.0 ≡ seq.0 = shows.number ∙ sym found.shows.number in
    inl (shows.octets ∙ sym found.shows.octets, has ∙ ap (λ n. Some (record { 0 = n })) number)
one_is starts i frame seq f ds found (p ∷ ps) (inr rest) = inr (one_is starts i frame seq f ds found ps rest)

-- where nothing was lost, links are open
pub open_all : (net : Net) (es : History) (p : law.Plant) (f : Frame) → LosesNothing es p → (q : Place) → IsOpen net f (law.turns es) q
open_all net es p f none q = all_open net es f none.lost q

-- an arc leads from each node of a ring to each other
pub arc : (n : ℕ) (f : Frame) (ts : List PlantTurn) (free : (q : Place) → IsOpen (ring n) f ts q) (i j : ℕ) → i ≢ j → i < n → j < n → (w : Way) × (m : ℕ) × IsWhole (ring n) (ring_part n) f ts w i m j
arc n f ts free i j other a b =
    any_arc (ring n) (ring_part n) 0 n f ts (λ k low less. next_number n k (omega (arith, less))) (λ k more less. last_number n k more) free
    i j other (omega arith) (omega (arith, a)) (omega arith) (omega (arith, b))

pub rings_hand_up_all : RingsAreTold → HandsUpAll Ring
rings_hand_up_all tell starts turns s run own limits whole none i j role frame seq ps some other at there meant host =
    let r = tell starts turns s run own in
    let found = find_sent Ring starts turns s run r.history r.plant r.run.run r.told.events i frame seq some in
    let f = found.0 in
    let kept = loses_nothing Ring starts turns s run r.history r.plant r.run.run r.told.events whole (unrefused Ring starts turns s run own) in
    let way = arc (length starts) f (law.turns r.history) (open_all (ring (length starts)) r.history r.plant f kept) i j other
    (subst (λ k. k < length starts) found.1.source found.1.shows.member) (address_at starts j role at).1 in
    let whole_arc : HasWholeArc (length starts) r.history f j = subst (λ k. (w : Way) × (m : ℕ) × IsWhole (ring (length starts)) (ring_part (length starts)) f (law.turns r.history) w k m j) (sym found.1.source) way in
    one_is starts i frame seq f (done_in r.history) found.1 ps
    ((r.whole limits none).up j ps there f (ideal_for starts i j role frame seq f (done_in r.history) found.1 other at meant host) whole_arc)

-- a LAN leads from each node to each other
pub member_of : (n k j : ℕ) → j < n → k ≢ j → One (λ x. x ≡ j) (other_members n k)
member_of zero k j less other = absurd (omega (arith, less))
member_of (suc n) k j less other = elim (cases_eq j n) [
  | inl e ↦ (let ne : (n == k) ≡ false = ne_eqb n k (λ x. other (sym x ∙ sym e)) in rw ne (one_right (λ x. x ≡ j) (other_members n k) (n ∷ []) (inl (sym e))))
  | inr ne ↦ elim (cases_Bool (n == k)) [
    | inl is ↦ rw is (member_of n k j (omega (arith, less, ne)) other)
    | inr not_so ↦ rw not_so (one_left (λ x. x ≡ j) (other_members n k) (n ∷ []) (member_of n k j (omega (arith, less, ne)) other))
  ]
]

pub hop_of : (p : Port) (first k j : ℕ) (js : List ℕ) → One (λ x. x ≡ j) js → One (λ h. h.to ≡ record { node = j; port = p }) (lan_hops p first k js)
hop_of p first k j [] some = absurd some
hop_of p first k j (x ∷ js) (inl e) = inl (ap (λ y. record { node = y; port = p }) e)
hop_of p first k j (x ∷ js) (inr some) = inr (hop_of p first k j js some)

pub lans_hand_up_all : TwinLansAreTold → HandsUpAll TwinLan
lans_hand_up_all tell starts turns s run own limits whole none i j role frame seq ps some other at there meant host =
    let n = length starts in
    let r = tell starts turns s run own in
    let found = find_sent TwinLan starts turns s run r.history r.plant r.run.run r.told.events i frame seq some in
    let f = found.0 in
    let kept = loses_nothing TwinLan starts turns s run r.history r.plant r.run.run r.told.events whole (unrefused TwinLan starts turns s run own) in
    let made : 0 < made_in (twin_lans n) (in_lan_a j) f (law.turns r.history) =
    put_makes (twin_lans n) (law.turns r.history) i A (in_lan_a j) f refl found.1.put (hop_of A 0 i j (other_members n i) (member_of n i j (address_at starts j role at).1 other)) in
    let whole_copy : HasWholeCopy n r.history f j = λ same. (let a = kept.lost (in_lan_a j) f in let b = kept.lost (in_lan_b j) f in omega (arith, same, a, b, made)) in
    one_is starts i frame seq f (done_in r.history) found.1 ps
    ((r.whole limits none).up j ps there f (ideal_for starts i j role frame seq f (done_in r.history) found.1 other at meant host) whole_copy)
