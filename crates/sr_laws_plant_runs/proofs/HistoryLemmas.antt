-- Each event of a plant, told by its history.
use Rattle.std.proofs.Common.{Option, ◌≡◌, ◌⊎◌, inl, inr, ℕ, zero, suc, ◌+◌, ◌<◌, ◌≤◌, nat_lt, max, not, Bool, true, false, List, [], ◌∷◌, ◌++◌, length, None, Some, slice_get, refl, sym, ap, ◌∙◌, subst, arith}
use Rattle.std.specs.List.{remove}
use Rattle.std.specs.Option.{option_to_list}
use Rattle.std.proofs.lemmas.Bool.Decides.{nat_tests}
use Rattle.std.proofs.lemmas.List.{append-nil}
use Rattle.sr_frame.specs.AddressLemmas.{mac_same}
use Rattle.sr_frame.specs.Frame.{least_len, padded}
use Rattle.sr_frame.specs.declared.ports.Port.{Port}
use Rattle.sr_frame.specs.declared.ports.Port.TheVariants.{H, A, B, C}
use Rattle.sr_forwarding.specs.declared.outlets.Outlets.{Outlets}
use Rattle.sr_node.specs.Outboxes.{boxes_empty}
use Rattle.sr_plant.specs.Building.{is_empty}
use Rattle.sr_dup_table.specs.Sources.{live_at}
use Rattle.sr_forwarding.specs.Octets.{dst_in, src_in, is_supervision}
use Rattle.sr_forwarding.specs.Outlets.{has}
use Rattle.sr_forwarding.specs.Parcels.{ParcelImage, plain_parcel}
use Rattle.sr_forwarding.specs.RoleImages.{is_group}
use Rattle.sr_node.specs.Copies.{copy_if, put_at, with_copy}
use Rattle.sr_node.specs.Images.{State, time_at}
use Rattle.sr_node.specs.Starts.{Start}
use Rattle.sr_laws_plant.specs.Frames.{Frame}
use Rattle.sr_laws_plant.specs.Handlings.{Handling, sent_count}
use Rattle.sr_laws_plant.specs.Ledger.{Hop, Net, PlantTurn, spread}
use Rattle.sr_laws_plant.specs.Ledger as ledger
use Rattle.sr_laws_plant.specs.Limits.{first_number}
use Rattle.sr_laws_plant.specs.Lists.{Each}
use Rattle.sr_laws_plant.specs.OneNode.{IsRouted, IsSound, handed}
use Rattle.sr_laws_plant.specs.PlantEvents.{idle_turn, Sends, Moves}
use Rattle.sr_laws_plant.specs.PlantEvents as law
use Rattle.sr_laws_plant.specs.Premises.{AreAddressed}
use Rattle.sr_laws_plant.specs.Tables.{GoesOut, TableStep}
use Rattle.sr_plant.specs.declared.topology.Topology.{Topology}
use Rattle.sr_plant.specs.declared.event.PlantEvent.{PlantEvent}
use Rattle.sr_plant.specs.declared.event.PlantEvent.TheVariants.{Send, Carry, Drop, Repeat, Cut, Mend, Tick}
use Rattle.sr_plant.specs.Copies.{Copy}
use Rattle.sr_plant.specs.Plants.{Plant}
use Rattle.sr_plant.specs.Puts.{put_out}
use Rattle.sr_plant.specs.Steps.{emptied, acted, without, PlantStep, plant_refusal}
use Rattle.sr_plant.specs.Topologies.{net_of, IsJoinedAs}
use Rattle.sr_laws_plant_runs.specs.TableWidths.{widths_of}
use Rattle.sr_laws_plant_runs.specs.Traffic.{is_due_in}
use Rattle.sr_laws_plant_runs.specs.Histories.{dest_of, in_mode_x, mac_at, Shows, ParcelShows, Zip, oldest_first, event_of, waits_at, is_outlet, NumbersAs, TicksAs, IsTurnOf}
use Rattle.sr_laws_plant_runs.proofs.ReadingLemmas.{new_carried}
use Rattle.sr_laws_plant_runs.proofs.ArrivingLemmas.{IsRoomy, padded_roomy, new_arrives, life_is_roomy}
use Rattle.sr_laws_plant_runs.proofs.RouteLemmas.{law_routes, host_agrees}
use Rattle.sr_laws_plant_runs.proofs.WireLemmas.{IsNetworked, networked}
use Rattle.sr_laws_box.proofs.CrossingLemmas.{padded_once}
use Rattle.sr_laws_plant_runs.proofs.PaddingLemmas.{padded_src, life_shows}
use Rattle.sr_laws_plant_runs.proofs.NodeLemmas.{IsSame, PutsOut, IsIdle, Ticks, life_frame, host_sends, sent_is_fit, node_ticks}
use Rattle.sr_laws_plant_runs.proofs.ZipLemmas.{IsBeside, zip_at, SameCuts}
use Rattle.sr_laws_plant_runs.proofs.FrameLemmas.{dest_one, dest_all, count_here, count_other, handed_none, handed_other}
use Rattle.sr_laws_plant_runs.proofs.TableLemmas.{table_at, by_table, lanes_of}
use Rattle.sr_laws_plant_runs.proofs.LikeLemmas.{IsNode, FliesAs, Like, like_flying, Acted, like_acted, zip_put}

-- what a plant is made of: nodes with addresses of their own, joined as its topology says
pub record IsMadeOf (t : Topology) (starts : List Start) : Type 0 where
  pub joined : IsJoinedAs t (length starts)
  pub apart : AreAddressed (mac_at starts) (length starts)
  pub single : (k : ℕ) → k < length starts → is_group (mac_at starts k) ≡ false
  pub six : (k : ℕ) → k < length starts → length (mac_at starts k).0 ≡ 6

-- what a history keeps of each handling
pub record IsGood (t : Topology) (starts : List Start) (d : Handling) : Type 0 where
  pub member : d.node < length starts
  pub source : d.frame.src < length starts
  pub routed : IsRouted (law_routes t) d
  pub sound : IsSound d
  pub out : GoesOut d

-- a tick numbers a life check where one is due
abbrev pub IsDueTold : Plant → PlantEvent → Option Handling → Type 0
IsDueTold s (Tick i now) (Some d) = is_due_in (slice_get s.nodes i) now ≡ true
IsDueTold s (Tick i now) None = is_due_in (slice_get s.nodes i) now ≡ false
IsDueTold s (Send i frame) did = Unit {0}
IsDueTold s (Carry place) did = Unit {0}
IsDueTold s (Drop place) did = Unit {0}
IsDueTold s (Repeat place) did = Unit {0}
IsDueTold s (Cut link) did = Unit {0}
IsDueTold s (Mend link) did = Unit {0}

-- an event of the plant, told
pub record StepTold (t : Topology) (starts : List Start) (ds : List Handling) (s : Plant) (p : law.Plant) (e : PlantEvent) (v : Plant) (step : PlantStep s e v) : Type 0 where
  pub turn : PlantTurn
  pub after : law.Plant
  pub moves : Moves (net_of t (length starts)) ds p (event_of e) turn after
  pub like : Like t starts v after (option_to_list turn.did ++ ds)
  pub pins : IsTurnOf starts s e v step p turn
  pub due : IsDueTold s e turn.did
  pub good : Each (IsGood t starts) (option_to_list turn.did)
  pub tables : (k : ℕ) → TableStep (mac_at starts) (in_mode_x starts) (widths_of starts) lanes_of k after.clock turn.did (table_at s.nodes k) (table_at v.nodes k)

pub later_is : (a b : ℕ) → a ≤ b → max a b ≡ b
later_is a b le = grind (arith, le)

pub got_within : {X : Type 0} (xs : List X) (i : ℕ) → i < length xs → (x : X) × (slice_get xs i ≡ Some x)
got_within [] i within = absurd (omega arith)
got_within (x ∷ xs) zero within = (x, refl)
got_within (x ∷ xs) (suc i) within = got_within xs i (omega (arith, within))

-- what waits at an outlet after something was put out
pub waits_put : (outlets : Outlets) (p : ParcelImage) (o : Port) → waits_at (put_at boxes_empty outlets p) o ≡ has outlets o
waits_put outlets p H = waits (has outlets H)
  where
    waits : (b : Bool) → not (is_empty (with_copy [] (copy_if b p))) ≡ b
    waits true = refl
    waits false = refl
waits_put outlets p A = waits (has outlets A)
  where
    waits : (b : Bool) → not (is_empty (with_copy [] (copy_if b p))) ≡ b
    waits true = refl
    waits false = refl
waits_put outlets p B = waits (has outlets B)
  where
    waits : (b : Bool) → not (is_empty (with_copy [] (copy_if b p))) ≡ b
    waits true = refl
    waits false = refl
waits_put outlets p C = waits (has outlets C)
  where
    waits : (b : Bool) → not (is_empty (with_copy [] (copy_if b p))) ≡ b
    waits true = refl
    waits false = refl

pub waits_none : (o : Port) → waits_at boxes_empty o ≡ false
waits_none H = refl
waits_none A = refl
waits_none B = refl
waits_none C = refl

-- a frame that goes out at each outlet
puts_told : (t : Topology) (starts : List Start) → IsMadeOf t starts → (ds : List Handling) (s v : Plant) (p : law.Plant) (i clock : ℕ) (before u : State) (frame : List ℕ) (e : PlantEvent) (step : PlantStep s e v) →
    Like t starts s p ds → slice_get s.nodes i ≡ Some before → IsSame before clock u → PutsOut before frame u → s.clock ≤ clock → src_in (padded frame) ≡ mac_at starts i → IsRoomy frame → v ≡ acted s i u clock →
    (u.core.sources ≡ before.core.sources) ⊎ (u.core.sources ≡ live_at clock before.core.sources) →
    ((d : Handling) (turn : PlantTurn) (after : law.Plant) → d.node ≡ i → d.frame.supervision ≡ is_supervision (padded frame) → Sends (net_of t (length starts)) ds p clock d turn after → Moves (net_of t (length starts)) ds p (event_of e) turn after) →
    ((d : Handling) (turn : PlantTurn) → turn.did ≡ Some d → NumbersAs starts i before frame u (Some d) → IsTurnOf starts s e v step p turn) →
    ((d : Handling) → IsDueTold s e (Some d)) → StepTold t starts ds s p e v step
puts_told t starts own ds s v p i clock before u frame e step like there same puts later source fits plant how as_move as_pins as_due = record {
  turn = record { did = Some d; doubled = []; lost = law.those_stopped p.cuts (spread net d); came = [] };
  after = record { flight = p.flight ++ law.those_passing p.cuts (spread net d); cuts = p.cuts; clock = clock };
  moves = as_move d _ _ refl refl (record { inlet = refl; sending = record { own = refl; number = refl; time = refl }; time = refl; says = refl; after = refl });
  like = subst (λ x. Like t starts x (record { flight = p.flight ++ law.those_passing p.cuts (spread net d); cuts = p.cuts; clock = clock }) (d ∷ ds)) (sym plant)
      (like_acted t starts s p i clock before u ds (d ∷ ds) (spread net d) like did clock refl);
  pins = as_pins d _ refl (record {
    node = refl;
    inlet = refl;
    source = refl;
    shows = shows;
    outlets = puts.each;
    wants = puts.each;
    went = λ o. sym (ap (λ b. waits_at b o) puts.out ∙ waits_put puts.outlets (plain_parcel frame (Some before.core.next)) o);
  });
  due = as_due d;
  good = (record { member = was.within; source = was.within; routed = λ o. puts.each o ∙ ap (is_outlet o) was.kind ∙ host_agrees t i f o; sound = λ o went. went; out = λ sends o. refl }, tt);
  tables = subst (λ (x : Plant). (k : ℕ) → TableStep (mac_at starts) (in_mode_x starts) (widths_of starts) lanes_of k clock (Some d) (table_at s.nodes k) (table_at x.nodes k)) (sym plant)
      (by_table s.nodes i before (emptied u) (λ k a b. TableStep (mac_at starts) (in_mode_x starts) (widths_of starts) lanes_of k clock (Some d) a b) there (table_of how) (λ k other. inl ((refl, tt), refl)));
}
  where
    net : Net
    net = net_of t (length starts)

    was : IsNode t starts s.clock ds i before
    was = like.nodes i before there

    f : Frame
    f = record { src = i; number = first_number + sent_count i ds; dest = dest_of (mac_at starts) (length starts) (dst_in (padded frame)); supervision = is_supervision (padded frame); time = clock; octets = padded frame }

    d : Handling
    d = record { node = i; inlet = H; frame = f; time = clock; wanted = λ o. has puts.outlets o; went = λ o. has puts.outlets o }

    shows : Shows starts (padded frame) before.core.next f
    shows = record {
      member = was.within;
      source = source;
      number = was.next;
      supervision = refl;
      alone = λ k less. dest_one (mac_at starts) (length starts) own.apart own.single (dst_in (padded frame)) k less;
      all = dest_all (mac_at starts) (length starts) (dst_in (padded frame));
      octets = refl;
      dest = refl;
    }

    none_up : u.core.out.h ≡ []
    none_up = ap (λ o. o.h) puts.out ∙ ap (λ b. with_copy [] (copy_if b (plain_parcel frame (Some before.core.next)))) (puts.each H)

    did : Acted t starts s i clock before u ds (d ∷ ds) (spread net d)
    did = record {
      there = there;
      same = same;
      later = later;
      put = subst (λ o. Zip (FliesAs t starts) (put_out t (length starts) i o) (spread net d)) (sym puts.out)
          (zip_put t starts (length starts) own.joined i (plain_parcel frame (Some before.core.next)) f puts.outlets
          (λ o h wire out. record {
            plain = padded frame;
            seq = before.core.next;
            shows = shows;
            number = refl;
            hop = refl;
            full = padded_once frame fits.least;
            roomy = padded_roomy frame fits;
            port = wire.port;
            carried = new_carried t (length starts) own.joined i o h wire frame before.core.next f refl;
            arrives = new_arrives t i o h wire frame before.core.next fits;
          }) clock H (λ o. has puts.outlets o));
      next = ap (λ q. q.0) puts.next ∙ (let old = was.next in let more = count_here d ds refl in omega (arith, old, more));
      counts = λ k other. count_other k d ds other;
      up = λ ps zip. subst (λ x. Zip (ParcelShows starts) x (oldest_first (handed i (d ∷ ds)))) (sym (ap (λ x. ps ++ x) none_up ∙ append-nil ps)) (subst (λ x. Zip (ParcelShows starts) ps (oldest_first x)) (sym (handed_none i d ds (puts.each H))) zip);
      others = λ j other. handed_other j d ds other;
    }

    table_of : (u.core.sources ≡ before.core.sources) ⊎ (u.core.sources ≡ live_at clock before.core.sources) → TableStep (mac_at starts) (in_mode_x starts) (widths_of starts) lanes_of i clock (Some d) before.core.sources (emptied u).core.sources
    table_of (inl stays) = inl ((refl, tt), stays)
    table_of (inr aged) = inr (inl ((refl, tt), aged))

-- a node that puts nothing out
pub idle_like : (t : Topology) (starts : List Start) (ds : List Handling) (s : Plant) (p : law.Plant) (i clock : ℕ) (before u : State) → Like t starts s p ds → slice_get s.nodes i ≡ Some before → IsSame before clock u → IsIdle before u → s.clock ≤ clock →
    (time : ℕ) → clock ≡ time → Like t starts (acted s i u clock) (record { flight = p.flight; cuts = p.cuts; clock = time }) ds
idle_like t starts ds s p i clock before u like there same idle later time at =
    subst (λ gs. Like t starts (acted s i u clock) (record { flight = gs; cuts = p.cuts; clock = time }) ds) (append-nil p.flight)
    (like_acted t starts s p i clock before u ds ds [] like did time at)
  where
    did : Acted t starts s i clock before u ds ds []
    did = record {
      there = there;
      same = same;
      later = later;
      put = subst (λ o. Zip (FliesAs t starts) (put_out t (length starts) i o) []) (sym idle.out) tt;
      next = ap (λ q. q.0) idle.next ∙ (like.nodes i before there).next;
      counts = λ k other. refl;
      up = λ ps zip. subst (λ x. Zip (ParcelShows starts) x (oldest_first (handed i ds))) (sym (ap (λ x. ps ++ x) (ap (λ o. o.h) idle.out) ∙ append-nil ps)) zip;
      others = λ j other. refl;
    }

-- a host sends
pub send_told : (t : Topology) (starts : List Start) → IsMadeOf t starts → (ds : List Handling) (s v : Plant) (p : law.Plant) (i : ℕ) (frame : List ℕ) → Like t starts s p ds → (step : PlantStep s (Send i frame) v) → StepTold t starts ds s p (Send i frame) v step
send_told t starts own ds s v p i frame like acts =
    let was = like.nodes i acts.before acts.there in
    let now : time_at acts.before s.clock ≡ p.clock = later_is acts.before.core.time s.clock was.time ∙ like.clock in
    let fit = sent_is_fit acts.before frame (time_at acts.before s.clock) acts.fits in
    let least : least_len frame ≤ length frame = grind (arith, nat_tests, fit.least) in
    let sends = host_sends acts.before frame (time_at acts.before s.clock) acts.answer acts.after (subst IsNetworked (sym was.kind) (networked t i)) was.empty acts.step in
    let source : src_in (padded frame) ≡ mac_at starts i = padded_src frame least ∙ mac_same (src_in frame) acts.before.role.mac fit.own ∙ was.mac in
    puts_told t starts own ds s v p i p.clock acts.before acts.after frame (Send i frame) acts like acts.there
    (subst (λ c. IsSame acts.before c acts.after) now sends.same) sends.puts (let e = like.clock in omega (arith, e)) source (record { least = least; most = (let m = fit.most in grind (arith, nat_tests, m)) })
    (acts.plant ∙ ap (λ c. acted s i acts.after c) like.clock) (inl sends.sources)
    (λ d turn after node sup sending. (d, node, sending)) (λ d turn did numbers. subst (λ x. NumbersAs starts i acts.before frame acts.after x) (sym did) numbers) (λ d. tt)

-- time passes at a node
not_back : (s : Plant) (i at : ℕ) → plant_refusal s (Tick i at) ≡ None → s.clock ≤ at
not_back s i at none = by (nat_lt i (length s.nodes)) (nat_lt at s.clock) refl refl
  where
    by : (there back : Bool) → nat_lt i (length s.nodes) ≡ there → nat_lt at s.clock ≡ back → s.clock ≤ at
    by false back e f = let no = rw e at none in absurd cc
    by true true e f = let no = rw (e, f) at none in absurd cc
    by true false e f = grind (arith, nat_tests, f)

pub tick_told : (t : Topology) (starts : List Start) → IsMadeOf t starts → (ds : List Handling) (s v : Plant) (p : law.Plant) (i at : ℕ) → Like t starts s p ds → plant_refusal s (Tick i at) ≡ None → (step : PlantStep s (Tick i at) v) → StepTold t starts ds s p (Tick i at) v step
tick_told t starts own ds s v p i at like none acts = elim ticks.puts [
  | inl puts ↦ puts_told t starts own ds s v p i at acts.before acts.after (life_frame acts.before) (Tick i at) acts like acts.there ticks.same puts.1 later (life.1 ∙ was.mac) (life_is_roomy acts.before.role.kind acts.before.role.mac acts.before.core.next_life six) acts.plant (inr ticks.sources)
      (λ d turn after node sup sending. (went_on, inr (d, node, sup ∙ life.0, sending))) (λ d turn did numbers. subst (λ x. TicksAs starts i at acts.before acts.after x) (sym did) (puts.0, numbers)) (λ d. ap (λ x. is_due_in x at) acts.there ∙ puts.0)
  | inr idle ↦ record {
    turn = idle_turn;
    after = record { flight = p.flight; cuts = p.cuts; clock = at };
    moves = (went_on, inl (refl, refl));
    like = subst (λ x. Like t starts x (record { flight = p.flight; cuts = p.cuts; clock = at }) ds) (sym acts.plant) (idle_like t starts ds s p i at acts.before acts.after like acts.there ticks.same idle.1 later at refl);
    pins = idle.0;
    due = ap (λ x. is_due_in x at) acts.there ∙ idle.0;
    good = tt;
    tables = subst (λ (x : Plant). (k : ℕ) → TableStep (mac_at starts) (in_mode_x starts) (widths_of starts) lanes_of k at None (table_at s.nodes k) (table_at x.nodes k)) (sym acts.plant)
        (by_table s.nodes i acts.before (emptied acts.after) (λ k a b. TableStep (mac_at starts) (in_mode_x starts) (widths_of starts) lanes_of k at None a b) acts.there (inr (inl (tt, ticks.sources))) (λ k other. inl (tt, refl)));
  }
]
  where
    was : IsNode t starts s.clock ds i acts.before
    was = like.nodes i acts.before acts.there

    later : s.clock ≤ at
    later = not_back s i at none

    went_on : p.clock ≤ at
    went_on = let e = like.clock in omega (arith, e, later)

    now : time_at acts.before at ≡ at
    now = later_is acts.before.core.time at (let e = was.time in omega (arith, e, later))

    ticks : Ticks acts.before at acts.after
    ticks = subst (λ c. Ticks acts.before c acts.after) now (node_ticks acts.before (time_at acts.before at) acts.answer acts.after (subst IsNetworked (sym was.kind) (networked t i)) was.empty acts.step)

    six : length acts.before.role.mac.0 ≡ 6
    six = ap (λ m. length m.0) was.mac ∙ own.six i was.within

    life : (is_supervision (padded (life_frame acts.before)) ≡ true) × (src_in (padded (life_frame acts.before)) ≡ acts.before.role.mac)
    life = life_shows acts.before.role.kind acts.before.role.mac.0 acts.before.core.next_life six

-- the nodes are as they were
pub still_told : (t : Topology) (starts : List Start) (ds : List Handling) (s v : Plant) (p : law.Plant) (e : PlantEvent) (turn : PlantTurn) (flight : List Copy) (cut : List Bool) (ghosts : List ledger.Copy) (cuts : List ℕ) →
    Like t starts s p ds → v ≡ record s { flight = flight; cut = cut } → Zip (FliesAs t starts) flight ghosts → SameCuts cut cuts → turn.did ≡ None → (step : PlantStep s e v) → IsTurnOf starts s e v step p turn → IsDueTold s e None →
    Moves (net_of t (length starts)) ds p (event_of e) turn (record { flight = ghosts; cuts = cuts; clock = p.clock }) → StepTold t starts ds s p e v step
still_told t starts ds s v p e turn flight cut ghosts cuts like plant zip same idle step pins due moves = record {
  turn = turn;
  after = record { flight = ghosts; cuts = cuts; clock = p.clock };
  moves = moves;
  like = subst (λ did. Like t starts v (record { flight = ghosts; cuts = cuts; clock = p.clock }) (option_to_list did ++ ds)) (sym idle)
      (subst (λ x. Like t starts x (record { flight = ghosts; cuts = cuts; clock = p.clock }) ds) (sym plant) (like_flying t starts s p ds flight cut ghosts cuts like zip same));
  pins = pins;
  due = subst (λ did. IsDueTold s e did) (sym idle) due;
  good = subst (λ did. Each (IsGood t starts) (option_to_list did)) (sym idle) tt;
  tables = λ k. subst (λ did. TableStep (mac_at starts) (in_mode_x starts) (widths_of starts) lanes_of k p.clock did (table_at s.nodes k) (table_at v.nodes k)) (sym idle) (inl (tt, ap (λ (x : Plant). table_at x.nodes k) plant));
}

-- the place of a copy, in the plant and in its history
pub taken_out : (t : Topology) (starts : List Start) (s : Plant) (p : law.Plant) (ds : List Handling) (place : ℕ) (c : Copy) → Like t starts s p ds → (b : IsBeside (FliesAs t starts) s.flight place c p.flight) → law.IsTakenOut p.flight place b.here (b.before ++ b.behind)
taken_out t starts s p ds place c like b = record { before = b.before; behind = b.behind; index = b.index; whole = b.whole; left = refl }

-- a place of a list
pub got_beside : {X : Type 0} (before behind : List X) (g : X) (place : ℕ) → length before ≡ place → slice_get (before ++ g ∷ behind) place ≡ Some g
got_beside [] behind g zero at = refl
got_beside [] behind g (suc place) at = absurd (omega (arith, at))
got_beside (x ∷ before) behind g zero at = absurd (omega (arith, at))
got_beside (x ∷ before) behind g (suc place) at = got_beside before behind g place (omega (arith, at))

pub got_ghost : (t : Topology) (starts : List Start) (s : Plant) (p : law.Plant) (place : ℕ) (c : Copy) → (b : IsBeside (FliesAs t starts) s.flight place c p.flight) → slice_get p.flight place ≡ Some b.here
got_ghost t starts s p place c b = ap (λ gs. slice_get gs place) b.whole ∙ got_beside b.before b.behind b.here place b.index

-- a copy is lost
pub gone_told : (t : Topology) (starts : List Start) (ds : List Handling) (s v : Plant) (p : law.Plant) (place : ℕ) (c : Copy) (e : PlantEvent) → Like t starts s p ds → slice_get s.flight place ≡ Some c → v ≡ without s place → (step : PlantStep s e v) →
    ((g : ledger.Copy) → slice_get p.flight place ≡ Some g → IsTurnOf starts s e v step p (record idle_turn { lost = g ∷ [] })) → IsDueTold s e None →
    ((g : ledger.Copy) (rest : List ledger.Copy) (turn : PlantTurn) (after : law.Plant) → law.IsTakenOut p.flight place g rest → law.Refuses p g rest turn after → Moves (net_of t (length starts)) ds p (event_of e) turn after) → StepTold t starts ds s p e v step
gone_told t starts ds s v p place c e like at plant step pins due moves =
    let b = zip_at (FliesAs t starts) s.flight place c p.flight like.flight at in
    still_told t starts ds s v p e (record idle_turn { lost = b.here ∷ [] }) (remove s.flight place) s.cut (b.before ++ b.behind) p.cuts like plant b.rest like.cuts refl step (pins b.here (got_ghost t starts s p place c b)) due
    (moves b.here (b.before ++ b.behind) _ _ (taken_out t starts s p ds place c like b) (record { says = refl; after = refl }))
