-- The laws of rings and of two LANs, over their runs.
use Rattle.std.proofs.Common.{length}
use Rattle.sr_laws_plant.specs.LanLaws.{HasWholeCopy, LansAreSteady, LansHandUpOnce, LansHandUpTheIdeal, LansLoseNothing}
use Rattle.sr_laws_plant.specs.PlantEvents.{done_in}
use Rattle.sr_laws_plant.specs.RingLaws.{HasWholeArc, RingIsSteady, RingHandsUpOnce, RingHandsUpTheIdeal, RingLosesNothing}
use Rattle.sr_plant.specs.declared.topology.Topology.TheVariants.{Ring, TwinLan}
use Rattle.sr_laws_plant_runs.specs.Histories.{mac_at, in_mode_x}
use Rattle.sr_laws_plant_runs.specs.TableWidths.{widths_of}
use Rattle.sr_laws_plant_runs.specs.RunLaws.{RingsAreTold, TwinLansAreTold}
use Rattle.sr_laws_plant_runs.specs.Once.{HandsUpOnce}
use Rattle.sr_laws_plant_runs.proofs.OnceLemmas.{once_up}
use Rattle.sr_laws_plant_runs.proofs.HistoryRunLemmas.{run_told, ring_run, lan_run, ring_premises, lan_premises, history_of, ideal_up, whole_up}
use Rattle.sr_laws_plant_runs.proofs.TableLemmas.{lanes_of}

pub rings_told : RingHandsUpTheIdeal → RingIsSteady → RingHandsUpOnce → RingLosesNothing → RingsAreTold
rings_told ideal steady once whole starts turns s run own =
    let n = length starts in
    let r = run_told Ring starts own turns s run in
    let happened = ring_run starts turns s run r in
    let told = history_of Ring starts turns s run r in
    record {
      history = r.history;
      plant = r.plant;
      run = happened;
      told = told;
      ideal = ideal_up Ring starts turns s run r.history r.plant r.run told (ideal n r.history r.plant happened);
      within = λ limits. (let premises = ring_premises starts own turns s run r limits in
          record {
            steady = steady n (mac_at starts) (widths_of starts) r.history r.plant happened premises.tables.addressed premises.tables.widths premises.limits;
            once = once n (mac_at starts) (in_mode_x starts) (widths_of starts) lanes_of r.history r.plant premises;
          });
      whole = λ limits none. (let all = whole n (mac_at starts) (in_mode_x starts) (widths_of starts) lanes_of r.history r.plant (ring_premises starts own turns s run r limits) (told.quiet none) in
          record { up = whole_up (HasWholeArc (length starts) r.history) Ring starts turns s run r.history r.plant r.run told all.1; all = all.2; arcs = all.0 });
    }

pub lans_told : LansHandUpTheIdeal → LansAreSteady → LansHandUpOnce → LansLoseNothing → TwinLansAreTold
lans_told ideal steady once whole starts turns s run own =
    let n = length starts in
    let r = run_told TwinLan starts own turns s run in
    let happened = lan_run starts turns s run r in
    let told = history_of TwinLan starts turns s run r in
    record {
      history = r.history;
      plant = r.plant;
      run = happened;
      told = told;
      ideal = ideal_up TwinLan starts turns s run r.history r.plant r.run told (ideal n r.history r.plant happened);
      within = λ limits. (let premises = lan_premises starts own turns s run r limits in
          record {
            steady = steady n (mac_at starts) (widths_of starts) r.history r.plant happened premises.tables.addressed premises.tables.widths premises.limits;
            once = once n (mac_at starts) (in_mode_x starts) (widths_of starts) lanes_of r.history r.plant premises;
          });
      whole = λ limits none. (let all = whole n (mac_at starts) (in_mode_x starts) (widths_of starts) lanes_of r.history r.plant (lan_premises starts own turns s run r limits) (told.quiet none) in
          record { up = whole_up (HasWholeCopy (length starts) r.history) TwinLan starts turns s run r.history r.plant r.run told all.1; all = all.2; copies = all.0 });
    }

-- no frame goes up twice
pub rings_once : RingHandsUpTheIdeal → RingHandsUpOnce → HandsUpOnce Ring
rings_once ideal once starts turns s run own limits j ps there =
    let n = length starts in
    let r = run_told Ring starts own turns s run in
    once_up starts turns j ps (done_in r.history) r.sends (ideal n r.history r.plant (ring_run starts turns s run r) j)
    (once n (mac_at starts) (in_mode_x starts) (widths_of starts) lanes_of r.history r.plant (ring_premises starts own turns s run r limits) j) (r.like.up j ps there)

pub lans_once : LansHandUpTheIdeal → LansHandUpOnce → HandsUpOnce TwinLan
lans_once ideal once starts turns s run own limits j ps there =
    let n = length starts in
    let r = run_told TwinLan starts own turns s run in
    once_up starts turns j ps (done_in r.history) r.sends (ideal n r.history r.plant (lan_run starts turns s run r) j)
    (once n (mac_at starts) (in_mode_x starts) (widths_of starts) lanes_of r.history r.plant (lan_premises starts own turns s run r limits) j) (r.like.up j ps there)
