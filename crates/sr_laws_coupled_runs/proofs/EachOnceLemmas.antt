-- In an unbroken coupled network each frame is handed up exactly once.
use Rattle.std.proofs.Common.{◌+◌, ◌<◌, inl, refl, arith}
use Rattle.sr_laws_plant.specs.Lossless.{LosslessRingLanIsIdeal, LosslessTwoRingsAreIdeal}
use Rattle.sr_laws_plant.specs.PlantEvents.{done_in}
use Rattle.sr_laws_plant.specs.RingLans.{RingLanHandsUpTheIdeal, RingLanLosesNothing}
use Rattle.sr_laws_plant.specs.TwoRings.{TwoRingsHandUpTheIdeal, TwoRingsLoseNothing}
use Rattle.sr_plant.specs.declared.shapes.RingLanShape.{RingLanShape}
use Rattle.sr_plant.specs.declared.shapes.TwoRingsShape.{TwoRingsShape}
use Rattle.sr_plant.specs.declared.topology.Topology.TheVariants.{RingLan, TwoRings}
use Rattle.sr_plant.specs.Topologies.{lan_shape, two_shape, joined_pair}
use Rattle.sr_laws_plant_runs.specs.Histories.{mac_at, in_mode_x}
use Rattle.sr_laws_plant_runs.specs.Once.{HandsUpEachOnce}
use Rattle.sr_laws_plant_runs.specs.TableWidths.{widths_of}
use Rattle.sr_laws_plant_runs.proofs.FrameLemmas.{address_at}
use Rattle.sr_laws_plant_runs.proofs.HistoryRunLemmas.{run_told, history_of}
use Rattle.sr_laws_plant_runs.proofs.OnceLemmas.{each_once}
use Rattle.sr_laws_plant_runs.proofs.RefusalLemmas.{unrefused}
use Rattle.sr_laws_plant_runs.proofs.SentLemmas.{only_what_others_sent}
use Rattle.sr_laws_plant_runs.proofs.TableLemmas.{lanes_of}
use Rattle.sr_laws_plant_runs.proofs.UnbrokenLemmas.{loses_nothing, ideal_for}
use Rattle.sr_laws_coupled_runs.proofs.CoupledLemmas.{joined_in, ring_lan_run, ring_lan_premises, two_rings_run, two_rings_premises}

pub ring_lans_each_once : RingLanHandsUpTheIdeal → RingLanLosesNothing → LosslessRingLanIsIdeal → (s : RingLanShape) → HandsUpEachOnce (RingLan s)
ring_lans_each_once ideal loses lossless s starts turns v goes own limits whole none j role ps at there =
    let r = run_told (RingLan s) starts own turns v goes in
    let premises = ring_lan_premises s starts own turns v goes r limits in
    let quiet = (history_of (RingLan s) starts turns v goes r).quiet none in
    let kept = loses_nothing (RingLan s) starts turns v goes r.history r.plant r.run r.told whole (unrefused (RingLan s) starts turns v goes own) in
    let sum = (joined_in (RingLan s) starts turns v goes own).sum in
    let low = (address_at starts j role at).1 in
    let within : j < s.ring + s.lan = omega (arith, sum, low) in
    let all = lossless (lan_shape s) (mac_at starts) (in_mode_x starts) (widths_of starts) lanes_of r.history r.plant premises quiet kept.lost j within in
    let up = each_once starts turns j ps (done_in r.history) r.sends (ideal (lan_shape s) r.history r.plant (ring_lan_run s starts own turns v goes r) j)
    ((loses (lan_shape s) (mac_at starts) (in_mode_x starts) (widths_of starts) lanes_of r.history r.plant premises).0 j) (r.like.up j ps there) in (
      up.0,
      up.1,
      up.2,
      only_what_others_sent (RingLan s) starts turns v j role ps goes own at there,
      λ w frame seq sent other meant host. (let found = r.finds w frame seq sent in
          up.3 w found.0 ((all found.0).1 (ideal_for starts w.node j role frame seq found.0 (done_in r.history) found.1 other at meant host)) found.1.source found.2),
    )

pub two_rings_each_once : TwoRingsHandUpTheIdeal → TwoRingsLoseNothing → LosslessTwoRingsAreIdeal → (s : TwoRingsShape) → HandsUpEachOnce (TwoRings s)
two_rings_each_once ideal loses lossless s starts turns v goes own limits whole none j role ps at there =
    let r = run_told (TwoRings s) starts own turns v goes in
    let premises = two_rings_premises s starts own turns v goes r limits in
    let quiet = (history_of (TwoRings s) starts turns v goes r).quiet none in
    let kept = loses_nothing (TwoRings s) starts turns v goes r.history r.plant r.run r.told whole (unrefused (TwoRings s) starts turns v goes own) in
    let sum = (joined_in (TwoRings s) starts turns v goes own).sum in
    let low = (address_at starts j role at).1 in
    let within : j < s.left + s.right = omega (arith, sum, low) in
    let all = lossless (two_shape s) (mac_at starts) (in_mode_x starts) (widths_of starts) lanes_of r.history r.plant (joined_pair s.first) (inl refl) premises quiet kept.lost j within in
    let up = each_once starts turns j ps (done_in r.history) r.sends (ideal (two_shape s) r.history r.plant (two_rings_run s starts own turns v goes r) j)
    ((loses (two_shape s) (mac_at starts) (in_mode_x starts) (widths_of starts) lanes_of r.history r.plant premises).0 j) (r.like.up j ps there) in (
      up.0,
      up.1,
      up.2,
      only_what_others_sent (TwoRings s) starts turns v j role ps goes own at there,
      λ w frame seq sent other meant host. (let found = r.finds w frame seq sent in
          up.3 w found.0 ((all found.0).1 (ideal_for starts w.node j role frame seq found.0 (done_in r.history) found.1 other at meant host)) found.1.source found.2),
    )
