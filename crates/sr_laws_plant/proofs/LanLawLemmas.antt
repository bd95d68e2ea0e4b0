-- The laws of two LANs.
use Rattle.std.proofs.Common.{ℕ, Bool, refl, subst}
use Rattle.sr_frame.specs.declared.fields.Mac.{Mac}
use Rattle.sr_dup_window.specs.declared.lane_sets.Lanes.{Lanes}
use Rattle.sr_laws_plant.specs.Handlings.{Handling}
use Rattle.sr_laws_plant.specs.OneNode.{AreExact, Bars, bars_of}
use Rattle.sr_laws_plant.specs.Ledger.{LedgerRun}
use Rattle.sr_laws_plant.specs.PlantEvents.{Plant, IsQuiet, History, turns, done_in}
use Rattle.sr_laws_plant.specs.TwinLans.{twin_lans, danp_routes}
use Rattle.sr_laws_plant.specs.LanLaws.{LanRun, LanPremises, CopiesBring, LosesNothingAcross, LansHandUpTheIdeal, LansAreSteady}
use Rattle.sr_laws_plant.specs.LanLaws.{LansHandUpOnce, LansLoseNothing, ExactLansLoseNothing}
use Rattle.sr_laws_plant.proofs.BalanceLemmas.{run_of}
use Rattle.sr_laws_plant.proofs.HostLemmas.{danp_up, hands_up_ideal, hands_up_once}
use Rattle.sr_laws_plant.proofs.LanLemmas.{IsQuietLans, across, reached}
use Rattle.sr_laws_plant.proofs.SteadyLemmas.{members_are_steady}
use Rattle.sr_laws_plant.proofs.MemberLemmas.{of_members, members_are_exact}
use Rattle.sr_laws_plant.proofs.TableLemmas.{members_of}
use Rattle.sr_laws_plant.proofs.RingLawLemmas.{consistent_in, exactly_ideal}
use Rattle.sr_laws_plant.specs.Widths.{Widths}

pub lans_hand_up_the_ideal : LansHandUpTheIdeal
lans_hand_up_the_ideal n es p r = hands_up_ideal danp_routes (done_in es) danp_up (consistent_in (twin_lans n) es p r.run) r.routed r.sound

pub lans_are_steady : LansAreSteady
lans_are_steady n mac ws es p r addressed widths limits =
    let consistent = consistent_in (twin_lans n) es p r.run in
    members_are_steady n mac ws (done_in es) widths addressed (of_members n (done_in es) consistent r.members) consistent limits

quiet_lans : (n : ℕ) (bars : Bars) (es : History) (p : Plant) → LanRun n es p → AreExact bars (done_in es) → IsQuiet p →
    IsQuietLans n bars (turns es)
quiet_lans n bars es p r exact empty = record {
  run = subst (λ v. LedgerRun (twin_lans n) (turns es) v) empty (run_of (twin_lans n) es p r.run);
  consistent = consistent_in (twin_lans n) es p r.run;
  routed = r.routed;
  host = exact.host;
  exact = exact.exact;
}

pub exact_lans_lose_nothing : ExactLansLoseNothing
exact_lans_lose_nothing n bars es p r exact = (
  λ j. hands_up_once bars (done_in es) j (exact.exact j),
  λ empty. (
    copies empty,
    nothing empty,
    λ j whole. exactly_ideal es (lans_hand_up_the_ideal n es p r) j (λ f ideal. nothing empty f j ideal (whole f ideal)),
  ),
)
  where
    copies : IsQuiet p → CopiesBring n es
    copies empty f j sent whole = across n bars (turns es) (quiet_lans n bars es p r exact empty) f j sent whole

    nothing : IsQuiet p → LosesNothingAcross n es
    nothing empty f j ideal whole = reached n bars (turns es) (quiet_lans n bars es p r exact empty) f j ideal
        (copies empty f j ideal.sent whole)

-- under the premises members keep the law of one node
exact_of : (n : ℕ) (mac : ℕ → Mac) (x : ℕ → Bool) (ws : Widths) (lanes : Handling → Lanes) (es : History) (p : Plant) → LanPremises n mac x ws lanes es p →
    AreExact (bars_of x) (done_in es)
exact_of n mac x ws lanes es p h =
    let r = h.happened in
    let consistent = consistent_in (twin_lans n) es p r.run in
    let steady = lans_are_steady n mac ws es p r h.tables.addressed h.tables.widths h.limits in
    record {
      host = λ k. refl;
      exact = members_are_exact n mac x ws lanes (done_in es) (members_of n mac x ws lanes (twin_lans n) es p r.run h.tables) r.members consistent
          (λ k. (steady k).0);
    }

pub lans_hand_up_once : LansHandUpOnce
lans_hand_up_once n mac x ws lanes es p h = (exact_lans_lose_nothing n (bars_of x) es p h.happened (exact_of n mac x ws lanes es p h)).0

pub lans_lose_nothing : LansLoseNothing
lans_lose_nothing n mac x ws lanes es p h = (exact_lans_lose_nothing n (bars_of x) es p h.happened (exact_of n mac x ws lanes es p h)).1
