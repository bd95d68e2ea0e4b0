-- In an unbroken network each frame is handed up exactly once.
use Rattle.std.proofs.Common.{ℕ, ◌<◌, List, [], ◌∷◌, length, refl, sym, subst, arith}
use Rattle.sr_node.specs.Starts.{Start}
use Rattle.sr_frame.specs.declared.ports.Port.TheVariants.{A}
use Rattle.sr_laws_plant.specs.LanLaws.{HasWholeCopy, LansHandUpOnce, LansHandUpTheIdeal, LansLoseNothing}
use Rattle.sr_laws_plant.specs.Ledger.{made_in}
use Rattle.sr_laws_plant.specs.PlantEvents.{done_in}
use Rattle.sr_laws_plant.specs.PlantEvents as law
use Rattle.sr_laws_plant.specs.RingLaws.{HasWholeArc, RingHandsUpOnce, RingHandsUpTheIdeal, RingLosesNothing}
use Rattle.sr_laws_plant.specs.RingParts.{Way, IsWhole}
use Rattle.sr_laws_plant.specs.Rings.{ring, ring_part}
use Rattle.sr_laws_plant.specs.TwinLans.{twin_lans, other_members, in_lan_a, in_lan_b}
use Rattle.sr_laws_plant.proofs.LedgerLemmas.{put_makes}
use Rattle.sr_plant.specs.declared.topology.Topology.TheVariants.{Ring, TwinLan}
use Rattle.sr_laws_plant_runs.specs.Histories.{HaveOwnAddresses, mac_at, in_mode_x}
use Rattle.sr_laws_plant_runs.specs.PlantRuns.{HaveAddresses}
use Rattle.sr_laws_plant_runs.specs.TableWidths.{widths_of}
use Rattle.sr_laws_plant_runs.specs.Once.{HandsUpEachOnce}
use Rattle.sr_laws_plant_runs.proofs.FrameLemmas.{address_at}
use Rattle.sr_laws_plant_runs.proofs.HistoryRunLemmas.{run_told, ring_premises, lan_premises, history_of}
use Rattle.sr_laws_plant_runs.proofs.OnceLemmas.{each_once}
use Rattle.sr_laws_plant_runs.proofs.RefusalLemmas.{unrefused}
use Rattle.sr_laws_plant_runs.proofs.SentLemmas.{only_what_others_sent}
use Rattle.sr_laws_plant_runs.proofs.TableLemmas.{lanes_of}
use Rattle.sr_laws_plant_runs.proofs.UnbrokenLemmas.{loses_nothing, ideal_for, open_all, arc, member_of, hop_of}

-- addresses that are no group's have six octets
own_six : (starts : List Start) → HaveOwnAddresses starts → HaveAddresses starts
own_six [] own = tt
own_six (r ∷ starts) own = (own.0.0, own_six starts own.1)

pub rings_each_once : RingHandsUpTheIdeal → RingHandsUpOnce → RingLosesNothing → HandsUpEachOnce Ring
rings_each_once ideal once loses starts turns s run own limits whole none j role ps at there =
    let n = length starts in
    let r = run_told Ring starts own turns s run in
    let premises = ring_premises starts own turns s run r limits in
    let all = loses n (mac_at starts) (in_mode_x starts) (widths_of starts) lanes_of r.history r.plant premises ((history_of Ring starts turns s run r).quiet none) in
    let up = each_once starts turns j ps (done_in r.history) r.sends (ideal n r.history r.plant premises.happened j)
    (once n (mac_at starts) (in_mode_x starts) (widths_of starts) lanes_of r.history r.plant premises j) (r.like.up j ps there) in
    let kept = loses_nothing Ring starts turns s run r.history r.plant r.run r.told whole (unrefused Ring starts turns s run own) in (
      up.0,
      up.1,
      up.2,
      only_what_others_sent Ring starts turns s j role ps run (own_six starts own) at there,
      λ w frame seq sent other meant host. (let found = r.finds w frame seq sent in
          let f = found.0 in
          let way = arc n f (law.turns r.history) (open_all (ring n) r.history r.plant f kept) w.node j other
          (subst (λ k. k < n) found.1.source found.1.shows.member) (address_at starts j role at).1 in
          let whole_arc : HasWholeArc n r.history f j = subst (λ k. (w : Way) × (m : ℕ) × IsWhole (ring n) (ring_part n) f (law.turns r.history) w k m j) (sym found.1.source) way in
          up.3 w f (all.1 f j (ideal_for starts w.node j role frame seq f (done_in r.history) found.1 other at meant host) whole_arc) found.1.source found.2),
    )

pub lans_each_once : LansHandUpTheIdeal → LansHandUpOnce → LansLoseNothing → HandsUpEachOnce TwinLan
lans_each_once ideal once loses starts turns s run own limits whole none j role ps at there =
    let n = length starts in
    let r = run_told TwinLan starts own turns s run in
    let premises = lan_premises starts own turns s run r limits in
    let all = loses n (mac_at starts) (in_mode_x starts) (widths_of starts) lanes_of r.history r.plant premises ((history_of TwinLan starts turns s run r).quiet none) in
    let up = each_once starts turns j ps (done_in r.history) r.sends (ideal n r.history r.plant premises.happened j)
    (once n (mac_at starts) (in_mode_x starts) (widths_of starts) lanes_of r.history r.plant premises j) (r.like.up j ps there) in
    let kept = loses_nothing TwinLan starts turns s run r.history r.plant r.run r.told whole (unrefused TwinLan starts turns s run own) in (
      up.0,
      up.1,
      up.2,
      only_what_others_sent TwinLan starts turns s j role ps run (own_six starts own) at there,
      λ w frame seq sent other meant host. (let found = r.finds w frame seq sent in
          let f = found.0 in
          let made : 0 < made_in (twin_lans n) (in_lan_a j) f (law.turns r.history) =
          put_makes (twin_lans n) (law.turns r.history) w.node A (in_lan_a j) f refl found.1.put (hop_of A 0 w.node j (other_members n w.node) (member_of n w.node j (address_at starts j role at).1 other)) in
          let whole_copy : HasWholeCopy n r.history f j = λ same. (let a = kept.lost (in_lan_a j) f in let b = kept.lost (in_lan_b j) f in omega (arith, same, a, b, made)) in
          up.3 w f (all.1 f j (ideal_for starts w.node j role frame seq f (done_in r.history) found.1 other at meant host) whole_copy) found.1.source found.2),
    )
