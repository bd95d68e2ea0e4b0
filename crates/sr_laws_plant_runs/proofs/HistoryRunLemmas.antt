-- Each run of a plant has a history.
use Rattle.std.proofs.Common.{inl, inr, ◌≡◌, ℕ, zero, suc, ◌<◌, ◌≤◌, ◌&&◌, true, false, List, [], ◌∷◌, map, length, replicate, Some, slice_get, slice_index_or, refl, sym, ap, ◌∙◌, subst, arith}
use Rattle.std.specs.Option.{option_to_list}
use Rattle.std.proofs.lemmas.Bool.{and_parts}
use Rattle.std.proofs.lemmas.List.{length-map}
use Rattle.sr_forwarding.specs.Parcels.{ParcelImage}
use Rattle.sr_node.specs.Images.{State}
use Rattle.sr_node.specs.Starts.{Start, begun_as}
use Rattle.sr_laws_plant.specs.Handlings.{Handling, IsSent}
use Rattle.sr_sequence.specs.declared.Seq.{Seq}
use Rattle.sr_laws_plant_runs.specs.Once as once
use Rattle.sr_laws_plant_runs.specs.Once.{HostSend}
use Rattle.sr_laws_plant_runs.proofs.FoundLemmas.{Found, finds_more}
use Rattle.sr_laws_plant_runs.proofs.OnceLemmas.{IsOf, sends_more}
use Rattle.sr_laws_plant.specs.Frames.{Frame}
use Rattle.sr_laws_plant.specs.Ideal.{IsIdeal, IsHanded, AreIdeal}
use Rattle.sr_laws_plant.specs.Lists.{One, Each}
use Rattle.sr_laws_plant.specs.ListLemmas.{one_left, one_right, each_append, each_map}
use Rattle.sr_laws_plant.specs.OneNode.{IsRouted, IsSound, handed}
use Rattle.sr_laws_plant.specs.LanLaws.{LanRun, LanPremises}
use Rattle.sr_laws_plant.specs.Limits.{first_number}
use Rattle.sr_laws_plant.specs.PlantEvents.{History, done_in}
use Rattle.sr_laws_plant.specs.PlantEvents as law
use Rattle.sr_laws_plant.specs.RingLaws.{RingRun, RingPremises}
use Rattle.sr_laws_plant.specs.Tables.{GoesOut, MemberRun, HaveTables}
use Rattle.sr_plant.specs.declared.topology.Topology.{Topology}
use Rattle.sr_plant.specs.declared.topology.Topology.TheVariants.{Ring, TwinLan}
use Rattle.sr_plant.specs.Building.{is_size, are_fit, are_apart, is_plant, opening}
use Rattle.sr_plant.specs.Copies.{Copy}
use Rattle.sr_plant.specs.Plants.{Plant, IsEmptied}
use Rattle.sr_laws_plant.specs.Ledger as ledger
use Rattle.sr_plant.specs.Topologies.{net_of, link_count, IsJoinedAs}
use Rattle.sr_plant.proofs.BuildingLemmas.{opening_in_order}
use Rattle.sr_laws_plant_runs.specs.PlantRuns.{Turn, PlantRun}
use Rattle.sr_laws_plant_runs.specs.Histories.{mac_at, mode_at, in_mode_x, HaveOwnAddresses, Shows, ParcelShows, Zip, oldest_first, event_of, IsCopyOf, StandsBeside, AreTold, IsHistoryOf}
use Rattle.sr_laws_plant_runs.specs.RunLaws.{HandsUpIdeal, HandsUpWhole}
use Rattle.sr_laws_plant_runs.proofs.CopyLemmas.{got_replicate}
use Rattle.sr_laws_plant_runs.proofs.FrameLemmas.{addressed, no_groups}
use Rattle.sr_laws_plant_runs.proofs.RouteLemmas.{law_routes}
use Rattle.sr_laws_plant_runs.proofs.HistoryLemmas.{IsMadeOf, IsGood}
use Rattle.sr_laws_plant_runs.proofs.CarriedLemmas.{step_told}
use Rattle.sr_laws_plant_runs.proofs.LikeLemmas.{FliesAs, Like}
use Rattle.sr_laws_plant_runs.proofs.TableLemmas.{table_at, lanes_of, are_lanes}
use Rattle.sr_laws_plant_runs.specs.TableWidths.{width_at, widths_of}
use Rattle.sr_laws_plant_runs.specs.Traffic.{numberings, marks, IsWithinLimits}
use Rattle.sr_laws_plant_runs.proofs.MarkLemmas.{Marks, IsCounted, step_marked}
use Rattle.sr_laws_plant_runs.proofs.WidthLemmas.{are_widths}
use Rattle.sr_laws_plant_runs.proofs.ZipLemmas.{zip_none}
use Rattle.sr_laws_plant.specs.Premises.{AreWithinLimits}

pub record RunTold (t : Topology) (starts : List Start) (turns : List Turn) (s : Plant) (goes : PlantRun t starts turns s) : Type 0 where
  pub history : History
  pub plant : law.Plant
  pub run : law.PlantRun (net_of t (length starts)) history plant
  pub like : Like t starts s plant (done_in history)
  pub told : AreTold t starts turns s goes history plant run
  pub good : Each (IsGood t starts) (done_in history)
  pub tables : (k : ℕ) → MemberRun (mac_at starts) (in_mode_x starts) (widths_of starts) lanes_of k (net_of t (length starts)) history plant run (table_at s.nodes k)
  pub marked : Zip Marks (marks turns s) plant.flight
  pub counted : IsCounted (numberings turns) (done_in history)
  pub limits : IsWithinLimits starts turns → AreWithinLimits (widths_of starts) (done_in history)
  pub sends : (f : Frame) → IsSent f (done_in history) → f.supervision ≡ false → (w : HostSend) × IsOf starts turns f w
  pub finds : (w : HostSend) (frame : List ℕ) (seq : Seq) → once.WasSent w frame seq turns → Found starts w.node frame seq (done_in history) w.before

-- what is asked of the addresses
six_at : (starts : List Start) → HaveOwnAddresses starts → (k : ℕ) → k < length starts → length (mac_at starts k).0 ≡ 6
six_at [] own k within = absurd (omega arith)
six_at (r ∷ starts) own zero within = own.0.0
six_at (r ∷ starts) own (suc k) within = six_at starts own.1 k (omega (arith, within))

apart_of : (t : Topology) (ns : List State) → is_plant t ns ≡ true → are_apart ns ≡ true
apart_of t ns is = (and_parts (is_size t (length ns) && are_fit t 0 ns) (are_apart ns) is).1

pub made_of : (t : Topology) (starts : List Start) → is_plant t (map begun_as starts) ≡ true → HaveOwnAddresses starts → IsMadeOf t starts
made_of t starts is own = record {
  joined = subst (λ n. IsJoinedAs t n) (length-map starts begun_as) (opening_in_order t (map begun_as starts) is).joined;
  apart = addressed starts (apart_of t (map begun_as starts) is);
  single = no_groups starts own;
  six = six_at starts own;
}

pub made : (t : Topology) (starts : List Start) (turns : List Turn) (s : Plant) → PlantRun t starts turns s → is_plant t (map begun_as starts) ≡ true
made t starts [] s run = run.0
made t starts (turn ∷ before) s run = made t starts before turn.before run.0

-- a new plant
record IsBegun (starts : List Start) (k : ℕ) (m : State) : Type 0 where
  within : k < length starts
  mac : m.role.mac ≡ mac_at starts k
  mode : m.core.mode ≡ mode_at starts k
  width : (other : ℕ) → m.core.width ≡ width_at other starts k
  empty : IsEmptied m
  time : m.core.time ≤ 0
  next : m.core.next.0 ≡ first_number

begun_node : (starts : List Start) (k : ℕ) (m : State) → slice_get (map begun_as starts) k ≡ Some m → IsBegun starts k m
begun_node [] k m at = absurd cc
begun_node (r ∷ starts) zero m at =
    let same : begun_as r ≡ m = cc in
    subst (λ x. IsBegun (r ∷ starts) zero x) same (record { within = omega arith; mac = refl; mode = refl; width = λ other. refl; empty = refl; time = omega arith; next = refl })
begun_node (r ∷ starts) (suc k) m at =
    let n = begun_node starts k m at in
    record { within = (let w = n.within in omega (arith, w)); mac = n.mac; mode = n.mode; width = λ other. n.width other; empty = n.empty; time = n.time; next = n.next }

or_replicate : (n link : ℕ) → slice_index_or (replicate n false) link false ≡ false
or_replicate zero link = refl
or_replicate (suc n) zero = refl
or_replicate (suc n) (suc link) = or_replicate n link

pub begun_table : (starts : List Start) (k : ℕ) → table_at (map begun_as starts) k ≡ []
begun_table [] k = refl
begun_table (r ∷ starts) zero = refl
begun_table (r ∷ starts) (suc k) = begun_table starts k

pub opening_like : (t : Topology) (starts : List Start) → is_plant t (map begun_as starts) ≡ true → Like t starts (opening t (map begun_as starts)) law.opening []
opening_like t starts is = record {
  topology = refl;
  size = length-map starts begun_as;
  nodes = λ k m at. (let b = begun_node starts k m at in
      record { within = b.within; kind = (opening_in_order t (map begun_as starts) is).kinds k m at; mac = b.mac; mode = b.mode; width = λ other. b.width other; empty = b.empty; time = b.time; next = b.next });
  flight = tt;
  cuts = λ link. or_replicate (link_count t (length (map begun_as starts))) link;
  clock = refl;
  up = λ j ps at. subst (λ x. Zip (ParcelShows starts) x []) (sym (got_replicate (length (map begun_as starts)) j [] ps at)) tt;
}

-- what flies so is a copy of its frame
pub beside : (t : Topology) (starts : List Start) (s : Plant) (p : law.Plant) (ds : List Handling) → Like t starts s p ds → StandsBeside t starts s p
beside t starts s p ds like = record { flight = each s.flight p.flight like.flight; cuts = like.cuts; clock = like.clock }
  where
    copy : (c : Copy) (g : ledger.Copy) → FliesAs t starts c g → IsCopyOf t starts c g
    copy c g f = record {
      hop = f.hop;
      seq = f.seq;
      has = f.number;
      number = f.shows.number;
      shows = λ octets q w r. (let says = f.carried.reads octets q w r in (f.seq, says.seq_is, subst (λ x. Shows starts x f.seq g.frame) (sym says.plain_is) f.shows));
    }

    each : (cs : List Copy) (gs : List ledger.Copy) → Zip (FliesAs t starts) cs gs → Zip (IsCopyOf t starts) cs gs
    each [] [] zip = tt
    each [] (g ∷ gs) zip = absurd zip
    each (c ∷ cs) [] zip = absurd zip
    each (c ∷ cs) (g ∷ gs) zip = (copy c g zip.0, each cs gs zip.1)

unfoldable pub run_told : (t : Topology) (starts : List Start) → HaveOwnAddresses starts → (turns : List Turn) (s : Plant) (goes : PlantRun t starts turns s) → RunTold t starts turns s goes
run_told t starts own [] s run = record {
  history = [];
  plant = law.opening;
  run = refl;
  like = subst (λ x. Like t starts x law.opening []) (sym run.1) (opening_like t starts run.0);
  told = tt;
  good = tt;
  tables = λ k. ap (λ (x : Plant). table_at x.nodes k) run.1 ∙ begun_table starts k;
  marked = tt;
  counted = record { counts = λ k. refl; recent = λ k now. refl };
  limits = λ within. tt;
  sends = λ f some host. absurd some;
  finds = λ w frame seq some. absurd some;
}
run_told t starts own (turn ∷ before) s run =
    let earlier = run_told t starts own before turn.before run.0 in
    let now = step_told t starts (made_of t starts (made t starts before turn.before run.0) own) (done_in earlier.history) turn.before s earlier.plant turn.event earlier.like run.1 run.2 in
    let m = step_marked (widths_of starts) t starts (done_in earlier.history) turn.before s earlier.plant turn.event (numberings before) (marks before turn.before) earlier.like run.2 now earlier.marked earlier.counted in
    record {
      history = (event_of turn.event, now.turn) ∷ earlier.history;
      plant = now.after;
      run = (earlier.plant, earlier.run, now.moves);
      like = now.like;
      told = (earlier.told, refl, now.pins, beside t starts s now.after _ now.like);
      good = each_append (IsGood t starts) (option_to_list now.turn.did) (done_in earlier.history) now.good earlier.good;
      tables = λ k. (table_at turn.before.nodes k, earlier.tables k, now.tables k);
      marked = m.flight;
      counted = m.counted;
      limits = λ within. m.limits (earlier.limits within.0) within.1 within.2;
      sends = sends_more t starts before turn s earlier.plant (done_in earlier.history) run.2 now earlier.counted.counts earlier.sends;
      finds = finds_more t starts before turn s earlier.plant (done_in earlier.history) run.2 now earlier.counted.counts earlier.finds;
    }

pub have_tables : (t : Topology) (starts : List Start) (own : HaveOwnAddresses starts) (turns : List Turn) (s : Plant) → is_plant t (map begun_as starts) ≡ true → (goes : PlantRun t starts turns s) (r : RunTold t starts turns s goes) →
    HaveTables (length starts) (mac_at starts) (in_mode_x starts) (widths_of starts) lanes_of (net_of t (length starts)) r.history r.plant r.run
have_tables t starts own turns s is goes r = record {
  addressed = (made_of t starts is own).apart;
  widths = are_widths t starts is;
  noted = are_lanes;
  out = each_map (IsGood t starts) GoesOut (λ d g. g.out) (done_in r.history) r.good;
  tables = λ k. table_at s.nodes k;
  runs = r.tables;
}

pub members_of : (t : Topology) (starts : List Start) (ds : List Handling) → Each (IsGood t starts) ds → Each (λ d. d.node < length starts) ds
members_of t starts ds good = each_map (IsGood t starts) (λ d. d.node < length starts) (λ d g. g.member) ds good

pub routed_of : (t : Topology) (starts : List Start) (ds : List Handling) → Each (IsGood t starts) ds → Each (IsRouted (law_routes t)) ds
routed_of t starts ds good = each_map (IsGood t starts) (IsRouted (law_routes t)) (λ d g. g.routed) ds good

pub sound_of : (t : Topology) (starts : List Start) (ds : List Handling) → Each (IsGood t starts) ds → Each IsSound ds
sound_of t starts ds good = each_map (IsGood t starts) IsSound (λ d g. g.sound) ds good

-- all that the laws of rings, and of two LANs, ask for
abbrev pub ring_run : (starts : List Start) (turns : List Turn) (s : Plant) (goes : PlantRun Ring starts turns s) (r : RunTold Ring starts turns s goes) → RingRun (length starts) r.history r.plant
ring_run starts turns s goes r = record {
  run = r.run;
  members = members_of Ring starts (done_in r.history) r.good;
  routed = routed_of Ring starts (done_in r.history) r.good;
  sound = sound_of Ring starts (done_in r.history) r.good;
}

abbrev pub lan_run : (starts : List Start) (turns : List Turn) (s : Plant) (goes : PlantRun TwinLan starts turns s) (r : RunTold TwinLan starts turns s goes) → LanRun (length starts) r.history r.plant
lan_run starts turns s goes r = record {
  run = r.run;
  members = members_of TwinLan starts (done_in r.history) r.good;
  routed = routed_of TwinLan starts (done_in r.history) r.good;
  sound = sound_of TwinLan starts (done_in r.history) r.good;
}

abbrev pub ring_premises : (starts : List Start) (own : HaveOwnAddresses starts) (turns : List Turn) (s : Plant) (goes : PlantRun Ring starts turns s) (r : RunTold Ring starts turns s goes) → IsWithinLimits starts turns →
    RingPremises (length starts) (mac_at starts) (in_mode_x starts) (widths_of starts) lanes_of r.history r.plant
ring_premises starts own turns s goes r limits = record {
  happened = ring_run starts turns s goes r;
  tables = have_tables Ring starts own turns s (made Ring starts turns s goes) goes r;
  limits = r.limits limits;
}

abbrev pub lan_premises : (starts : List Start) (own : HaveOwnAddresses starts) (turns : List Turn) (s : Plant) (goes : PlantRun TwinLan starts turns s) (r : RunTold TwinLan starts turns s goes) → IsWithinLimits starts turns →
    LanPremises (length starts) (mac_at starts) (in_mode_x starts) (widths_of starts) lanes_of r.history r.plant
lan_premises starts own turns s goes r limits = record {
  happened = lan_run starts turns s goes r;
  tables = have_tables TwinLan starts own turns s (made TwinLan starts turns s goes) goes r;
  limits = r.limits limits;
}

pub history_of : (t : Topology) (starts : List Start) (turns : List Turn) (s : Plant) (goes : PlantRun t starts turns s) (r : RunTold t starts turns s goes) → IsHistoryOf t starts turns s goes r.history r.plant r.run
history_of t starts turns s goes r = record {
  events = r.told;
  now = beside t starts s r.plant _ r.like;
  quiet = λ none. zip_none (FliesAs t starts) r.plant.flight (subst (λ cs. Zip (FliesAs t starts) cs r.plant.flight) none r.like.flight);
  up = r.like.up;
}

-- what was handed up, by its frames
one_oldest : (P : Frame → Type 0) (fs : List Frame) → One P fs → One P (oldest_first fs)
one_oldest P [] one = absurd one
one_oldest P (f ∷ fs) (inl is) = one_right P (oldest_first fs) (f ∷ []) (inl is)
one_oldest P (f ∷ fs) (inr one) = one_left P (oldest_first fs) (f ∷ []) (one_oldest P fs one)

each_oldest : (P : Frame → Type 0) (fs : List Frame) → Each P fs → Each P (oldest_first fs)
each_oldest P [] each = tt
each_oldest P (f ∷ fs) each = each_append P (oldest_first fs) (f ∷ []) (each_oldest P fs each.1) (each.0, tt)

zip_one : (R : ParcelImage → Frame → Type 0) (ps : List ParcelImage) (fs : List Frame) (f : Frame) → Zip R ps fs → One (λ g. g ≡ f) fs → One (λ p. R p f) ps
zip_one R [] [] f zip one = absurd one
zip_one R [] (g ∷ fs) f zip one = absurd zip
zip_one R (p ∷ ps) [] f zip one = absurd one
zip_one R (p ∷ ps) (g ∷ fs) f zip (inl same) = inl (subst (λ x. R p x) same zip.0)
zip_one R (p ∷ ps) (g ∷ fs) f zip (inr one) = inr (zip_one R ps fs f zip.1 one)

zip_each : (R : ParcelImage → Frame → Type 0) (P : Frame → Type 0) (ps : List ParcelImage) (fs : List Frame) → Zip R ps fs → Each P fs → Each (λ p. (f : Frame) × P f × R p f) ps
zip_each R P [] [] zip each = tt
zip_each R P [] (g ∷ fs) zip each = absurd zip
zip_each R P (p ∷ ps) [] zip each = absurd zip
zip_each R P (p ∷ ps) (g ∷ fs) zip each = ((g, each.0, zip.0), zip_each R P ps fs zip.1 each.1)

pub ideal_up : (t : Topology) (starts : List Start) (turns : List Turn) (s : Plant) (goes : PlantRun t starts turns s) (es : History) (p : law.Plant) (story : law.PlantRun (net_of t (length starts)) es p) → IsHistoryOf t starts turns s goes es p story → AreIdeal es → HandsUpIdeal starts s es
ideal_up t starts turns s goes es p story told ideal j ps at =
    zip_each (ParcelShows starts) (λ f. IsIdeal j f (done_in es)) ps (oldest_first (handed j (done_in es))) (told.up j ps at) (each_oldest (λ f. IsIdeal j f (done_in es)) (handed j (done_in es)) (ideal j))

pub whole_up : (HasWhole : Frame → ℕ → Type 0) (t : Topology) (starts : List Start) (turns : List Turn) (s : Plant) (goes : PlantRun t starts turns s) (es : History) (p : law.Plant) (story : law.PlantRun (net_of t (length starts)) es p) → IsHistoryOf t starts turns s goes es p story →
    ((f : Frame) (j : ℕ) → IsIdeal j f (done_in es) → HasWhole f j → IsHanded j f (done_in es)) → HandsUpWhole HasWhole starts s es
whole_up HasWhole t starts turns s goes es p story told loses j ps at f ideal whole =
    zip_one (ParcelShows starts) ps (oldest_first (handed j (done_in es))) f (told.up j ps at) (one_oldest (λ g. g ≡ f) (handed j (done_in es)) (loses f j ideal whole))
