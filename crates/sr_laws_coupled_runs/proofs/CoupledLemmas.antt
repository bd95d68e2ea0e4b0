-- The laws of coupled networks, over their runs.
use Rattle.std.proofs.Common.{◌≡◌, ℕ, ◌+◌, ◌<◌, List, length, sym, subst}
use Rattle.sr_node.specs.Starts.{Start}
use Rattle.sr_laws_plant.specs.Handlings.{Handling}
use Rattle.sr_laws_plant.specs.LanWays.{WholeChainsBring}
use Rattle.sr_laws_plant.specs.Lists.{Each}
use Rattle.sr_laws_plant.specs.ListLemmas.{each_map}
use Rattle.sr_laws_plant.specs.PlantEvents.{done_in}
use Rattle.sr_laws_plant.specs.RingLans.{RingLanRun, RingLanPremises, NoneGoesBack, RingLanHandsUpTheIdeal, RingLanLosesNothing}
use Rattle.sr_laws_plant.specs.RingLans as lans
use Rattle.sr_laws_plant.specs.Steadiness.{AllSteady, MembersAreSteady}
use Rattle.sr_laws_plant.specs.Tables.{HaveTables}
use Rattle.sr_laws_plant.specs.TwoRings.{TwoRingsRun, TwoRingsPremises, TwoRingsHandUpTheIdeal, TwoRingsLoseNothing}
use Rattle.sr_laws_plant.specs.TwoRings as rings
use Rattle.sr_laws_plant.proofs.RingLawLemmas.{consistent_in}
use Rattle.sr_plant.specs.declared.shapes.RingLanShape.{RingLanShape}
use Rattle.sr_plant.specs.declared.shapes.TwoRingsShape.{TwoRingsShape}
use Rattle.sr_plant.specs.declared.topology.Topology.{Topology}
use Rattle.sr_plant.specs.declared.topology.Topology.TheVariants.{RingLan, TwoRings}
use Rattle.sr_plant.specs.Plants.{Plant}
use Rattle.sr_plant.specs.Topologies.{lan_shape, two_shape, net_of, IsJoinedAs}
use Rattle.sr_laws_plant_runs.specs.PlantRuns.{Turn, PlantRun}
use Rattle.sr_laws_plant_runs.specs.Histories.{mac_at, in_mode_x, HaveOwnAddresses}
use Rattle.sr_laws_plant_runs.specs.Once.{HandsUpOnce}
use Rattle.sr_laws_plant_runs.specs.TableWidths.{widths_of}
use Rattle.sr_laws_plant_runs.specs.Traffic.{IsWithinLimits}
use Rattle.sr_laws_plant_runs.proofs.HistoryLemmas.{IsGood}
use Rattle.sr_laws_plant_runs.proofs.HistoryRunLemmas.{RunTold, run_told, made, made_of, have_tables, members_of, routed_of, sound_of, history_of, ideal_up, whole_up}
use Rattle.sr_laws_plant_runs.proofs.OnceLemmas.{once_up}
use Rattle.sr_laws_plant_runs.proofs.TableLemmas.{lanes_of}
use Rattle.sr_laws_coupled_runs.specs.CoupledLaws.{HasWholeChain, RingLansAreTold, TwoRingsAreTold}

-- how the nodes of a run are joined
pub joined_in : (t : Topology) (starts : List Start) (turns : List Turn) (v : Plant) → PlantRun t starts turns v → HaveOwnAddresses starts → IsJoinedAs t (length starts)
joined_in t starts turns v goes own = (made_of t starts (made t starts turns v goes) own).joined

-- within the limits each node runs steadily, whatever the topology
steady_in : MembersAreSteady → (t : Topology) (starts : List Start) (own : HaveOwnAddresses starts) (turns : List Turn) (v : Plant) (goes : PlantRun t starts turns v) (r : RunTold t starts turns v goes) → IsWithinLimits starts turns →
    AllSteady (widths_of starts) (mac_at starts) (done_in r.history)
steady_in steady t starts own turns v goes r limits =
    let tables = have_tables t starts own turns v (made t starts turns v goes) goes r in
    steady (length starts) (mac_at starts) (widths_of starts) (done_in r.history) tables.widths tables.addressed
    (each_map (IsGood t starts) (λ d. d.frame.src < length starts) (λ d g. g.source) (done_in r.history) r.good)
    (consistent_in (net_of t (length starts)) r.history r.plant r.run) (r.limits limits)

-- all that the laws ask for, of so many members
pub members_below : (t : Topology) (starts : List Start) (n : ℕ) → n ≡ length starts → (ds : List Handling) → Each (IsGood t starts) ds → Each (λ d. d.node < n) ds
members_below t starts n same ds good = subst (λ m. Each (λ d. d.node < m) ds) (sym same) (members_of t starts ds good)

abbrev pub ring_lan_run : (s : RingLanShape) (starts : List Start) (own : HaveOwnAddresses starts) (turns : List Turn) (v : Plant) (goes : PlantRun (RingLan s) starts turns v) (r : RunTold (RingLan s) starts turns v goes) → RingLanRun (lan_shape s) r.history r.plant
ring_lan_run s starts own turns v goes r = record {
  shape = record { a_inside = (joined_in (RingLan s) starts turns v goes own).a_inside; b_inside = (joined_in (RingLan s) starts turns v goes own).b_inside };
  run = r.run;
  members = members_below (RingLan s) starts (s.ring + s.lan) (joined_in (RingLan s) starts turns v goes own).sum (done_in r.history) r.good;
  routed = routed_of (RingLan s) starts (done_in r.history) r.good;
  sound = sound_of (RingLan s) starts (done_in r.history) r.good;
}

abbrev pub ring_lan_premises : (s : RingLanShape) (starts : List Start) (own : HaveOwnAddresses starts) (turns : List Turn) (v : Plant) (goes : PlantRun (RingLan s) starts turns v) (r : RunTold (RingLan s) starts turns v goes) → IsWithinLimits starts turns →
    RingLanPremises (lan_shape s) (mac_at starts) (in_mode_x starts) (widths_of starts) lanes_of r.history r.plant
ring_lan_premises s starts own turns v goes r limits = record {
  happened = ring_lan_run s starts own turns v goes r;
  tables = subst (λ n. HaveTables n (mac_at starts) (in_mode_x starts) (widths_of starts) lanes_of (net_of (RingLan s) (length starts)) r.history r.plant r.run) (sym (joined_in (RingLan s) starts turns v goes own).sum)
      (have_tables (RingLan s) starts own turns v (made (RingLan s) starts turns v goes) goes r);
  limits = r.limits limits;
}

abbrev pub two_rings_run : (s : TwoRingsShape) (starts : List Start) (own : HaveOwnAddresses starts) (turns : List Turn) (v : Plant) (goes : PlantRun (TwoRings s) starts turns v) (r : RunTold (TwoRings s) starts turns v goes) → TwoRingsRun (two_shape s) r.history r.plant
two_rings_run s starts own turns v goes r = record {
  joins = (joined_in (TwoRings s) starts turns v goes own).joins;
  run = r.run;
  members = members_below (TwoRings s) starts (s.left + s.right) (joined_in (TwoRings s) starts turns v goes own).sum (done_in r.history) r.good;
  routed = routed_of (TwoRings s) starts (done_in r.history) r.good;
  sound = sound_of (TwoRings s) starts (done_in r.history) r.good;
}

abbrev pub two_rings_premises : (s : TwoRingsShape) (starts : List Start) (own : HaveOwnAddresses starts) (turns : List Turn) (v : Plant) (goes : PlantRun (TwoRings s) starts turns v) (r : RunTold (TwoRings s) starts turns v goes) → IsWithinLimits starts turns →
    TwoRingsPremises (two_shape s) (mac_at starts) (in_mode_x starts) (widths_of starts) lanes_of r.history r.plant
two_rings_premises s starts own turns v goes r limits = record {
  happened = two_rings_run s starts own turns v goes r;
  tables = subst (λ n. HaveTables n (mac_at starts) (in_mode_x starts) (widths_of starts) lanes_of (net_of (TwoRings s) (length starts)) r.history r.plant r.run) (sym (joined_in (TwoRings s) starts turns v goes own).sum)
      (have_tables (TwoRings s) starts own turns v (made (TwoRings s) starts turns v goes) goes r);
  limits = r.limits limits;
}

pub ring_lans_told : RingLanHandsUpTheIdeal → MembersAreSteady → RingLanLosesNothing → WholeChainsBring → NoneGoesBack → RingLansAreTold
ring_lans_told ideal steady whole chain back s starts turns v goes own =
    let r = run_told (RingLan s) starts own turns v goes in
    let happened = ring_lan_run s starts own turns v goes r in
    let told = history_of (RingLan s) starts turns v goes r in
    record {
      history = r.history;
      plant = r.plant;
      run = happened;
      told = told;
      ideal = ideal_up (RingLan s) starts turns v goes r.history r.plant r.run told (ideal (lan_shape s) r.history r.plant happened);
      back = back (lan_shape s) r.history r.plant happened;
      within = λ limits. record {
        steady = steady_in steady (RingLan s) starts own turns v goes r limits;
        once = (whole (lan_shape s) (mac_at starts) (in_mode_x starts) (widths_of starts) lanes_of r.history r.plant (ring_lan_premises s starts own turns v goes r limits)).0;
      };
      whole = λ limits none. (let all = (whole (lan_shape s) (mac_at starts) (in_mode_x starts) (widths_of starts) lanes_of r.history r.plant (ring_lan_premises s starts own turns v goes r limits)).1 (told.quiet none) in
          record {
            up = whole_up (lans.HasWholeWay (lan_shape s) r.history) (RingLan s) starts turns v goes r.history r.plant r.run told all.0;
            chains = whole_up (HasWholeChain (lan_shape s) r.history) (RingLan s) starts turns v goes r.history r.plant r.run told
                (λ f j is has. chain (lan_shape s) (mac_at starts) (in_mode_x starts) (widths_of starts) lanes_of r.history r.plant (ring_lan_premises s starts own turns v goes r limits) (told.quiet none) f j is has.0 has.1);
            all = all.1;
          });
    }

pub two_rings_told : TwoRingsHandUpTheIdeal → MembersAreSteady → TwoRingsLoseNothing → TwoRingsAreTold
two_rings_told ideal steady whole s starts turns v goes own =
    let r = run_told (TwoRings s) starts own turns v goes in
    let happened = two_rings_run s starts own turns v goes r in
    let told = history_of (TwoRings s) starts turns v goes r in
    record {
      history = r.history;
      plant = r.plant;
      run = happened;
      told = told;
      ideal = ideal_up (TwoRings s) starts turns v goes r.history r.plant r.run told (ideal (two_shape s) r.history r.plant happened);
      within = λ limits. record {
        steady = steady_in steady (TwoRings s) starts own turns v goes r limits;
        once = (whole (two_shape s) (mac_at starts) (in_mode_x starts) (widths_of starts) lanes_of r.history r.plant (two_rings_premises s starts own turns v goes r limits)).0;
      };
      whole = λ limits none. (let all = (whole (two_shape s) (mac_at starts) (in_mode_x starts) (widths_of starts) lanes_of r.history r.plant (two_rings_premises s starts own turns v goes r limits)).1 (told.quiet none) in
          record { up = whole_up (rings.HasWholeWay (two_shape s) r.history) (TwoRings s) starts turns v goes r.history r.plant r.run told all.0; all = all.1 });
    }

-- no frame goes up twice
pub ring_lans_once : RingLanHandsUpTheIdeal → RingLanLosesNothing → (s : RingLanShape) → HandsUpOnce (RingLan s)
ring_lans_once ideal whole s starts turns v goes own limits j ps there =
    let r = run_told (RingLan s) starts own turns v goes in
    once_up starts turns j ps (done_in r.history) r.sends (ideal (lan_shape s) r.history r.plant (ring_lan_run s starts own turns v goes r) j)
    ((whole (lan_shape s) (mac_at starts) (in_mode_x starts) (widths_of starts) lanes_of r.history r.plant (ring_lan_premises s starts own turns v goes r limits)).0 j) (r.like.up j ps there)

pub two_rings_once : TwoRingsHandUpTheIdeal → TwoRingsLoseNothing → (s : TwoRingsShape) → HandsUpOnce (TwoRings s)
two_rings_once ideal whole s starts turns v goes own limits j ps there =
    let r = run_told (TwoRings s) starts own turns v goes in
    once_up starts turns j ps (done_in r.history) r.sends (ideal (two_shape s) r.history r.plant (two_rings_run s starts own turns v goes r) j)
    ((whole (two_shape s) (mac_at starts) (in_mode_x starts) (widths_of starts) lanes_of r.history r.plant (two_rings_premises s starts own turns v goes r limits)).0 j) (r.like.up j ps there)
