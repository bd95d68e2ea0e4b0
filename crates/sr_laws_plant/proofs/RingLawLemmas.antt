-- The laws of rings.
use Rattle.std.proofs.Common.{◌≡◌, ℕ, Bool, ◌<◌, true, List, refl, subst}
use Rattle.std.specs.Prelude.{◌↔◌, nat_lt}
use Rattle.std.proofs.lemmas.Bool.{lt-ltb}
use Rattle.sr_frame.specs.declared.fields.Mac.{Mac}
use Rattle.sr_frame.specs.declared.ports.Port.TheVariants.{H}
use Rattle.sr_dup_window.specs.declared.lane_sets.Lanes.{Lanes}
use Rattle.sr_laws_plant.specs.Lists.{Each}
use Rattle.sr_laws_plant.specs.Frames.{Frame}
use Rattle.sr_laws_plant.specs.Handlings.{Handling, IsSent, AreConsistent}
use Rattle.sr_laws_plant.specs.OneNode.{AreExact, Bars, bars_of, ComesIn, handed}
use Rattle.sr_laws_plant.specs.Ledger.{Net, LedgerRun}
use Rattle.sr_laws_plant.specs.PlantEvents.{Plant, IsQuiet, History, turns, done_in, PlantRun, CopiesAreAccountedFor}
use Rattle.sr_laws_plant.specs.Ideal.{IsIdeal, IsHanded, AreIdeal}
use Rattle.sr_laws_plant.specs.RingParts.{IsQuietRing, WholeArcsBring}
use Rattle.sr_laws_plant.specs.Rings.{ring, ring_part, danh_routes}
use Rattle.sr_laws_plant.specs.RingLaws.{RingRun, RingPremises, ArcsBring, LosesNothingRound, RingHandsUpTheIdeal, RingIsSteady}
use Rattle.sr_laws_plant.specs.RingLaws.{RingHandsUpOnce, RingLosesNothing, ExactRingLosesNothing}
use Rattle.sr_laws_plant.specs.ListLemmas.{one_is, one_each, each_map, each_of}
use Rattle.sr_laws_plant.proofs.FrameLemmas.{sent_in}
use Rattle.sr_laws_plant.proofs.LedgerLemmas.{conserved}
use Rattle.sr_laws_plant.proofs.OriginLemmas.{all_done}
use Rattle.sr_laws_plant.proofs.OrderLemmas.{orderly}
use Rattle.sr_laws_plant.proofs.BalanceLemmas.{run_of}
use Rattle.sr_laws_plant.proofs.HostLemmas.{danh_up, hands_up_ideal, hands_up_once}
use Rattle.sr_laws_plant.proofs.ArcLemmas.{arc, source_puts}
use Rattle.sr_laws_plant.proofs.RingLemmas.{ring_round, danh_round, reached}
use Rattle.sr_laws_plant.proofs.SteadyLemmas.{members_are_steady}
use Rattle.sr_laws_plant.proofs.MemberLemmas.{of_members, members_are_exact}
use Rattle.sr_laws_plant.proofs.TableLemmas.{members_of}
use Rattle.sr_laws_plant.specs.Widths.{Widths}

pub accounted : CopiesAreAccountedFor
accounted net es p run q f = conserved net (turns es) p.flight (run_of net es p run) q f

-- in a plant all that is done is consistent
pub consistent_in : (net : Net) (es : History) (p : Plant) → PlantRun net es p → AreConsistent (done_in es)
consistent_in net es p run = all_done net (turns es) p.flight (run_of net es p run) (orderly net es p run)

-- a source is a member
source_in : (ds : List Handling) (f : Frame) (n : ℕ) → AreConsistent ds → Each (λ d. d.node < n) ds → IsSent f ds → f.src < n
source_in ds f n consistent members sent =
    let from_host = sent_in ds f consistent sent in
    let home = one_is (λ e. (e.node < n) × ComesIn f.src H f e) ds (one_each (λ e. e.node < n) (ComesIn f.src H f) ds members from_host) in
    subst (λ i. i < n) home.1.1.0 home.1.0

-- what is handed up is ideal, and all of it is handed up
pub exactly_ideal : (es : History) → AreIdeal es → (j : ℕ) → ((f : Frame) → IsIdeal j f (done_in es) → IsHanded j f (done_in es)) →
    (f : Frame) → IsHanded j f (done_in es) ↔ IsIdeal j f (done_in es)
exactly_ideal es ideal j all f =
    (λ up. each_of (λ g. IsIdeal j g (done_in es)) (handed j (done_in es)) (ideal j) f up, all f)

pub ring_hands_up_the_ideal : RingHandsUpTheIdeal
ring_hands_up_the_ideal n es p r = hands_up_ideal danh_routes (done_in es) danh_up (consistent_in (ring n) es p r.run) r.routed r.sound

pub ring_is_steady : RingIsSteady
ring_is_steady n mac ws es p r addressed widths limits =
    let consistent = consistent_in (ring n) es p r.run in
    members_are_steady n mac ws (done_in es) widths addressed (of_members n (done_in es) consistent r.members) consistent limits

pub whole_arcs_bring : WholeArcsBring
whole_arcs_bring net routes bars r ts quiet f sent w i m j inside beside whole =
    arc net routes bars r ts quiet f j sent w m i inside beside whole

quiet_ring : (n : ℕ) (bars : Bars) (es : History) (p : Plant) → RingRun n es p → AreExact bars (done_in es) → IsQuiet p →
    IsQuietRing (ring n) danh_routes bars (ring_part n) (turns es)
quiet_ring n bars es p r exact empty = record {
  part = ring_round n;
  sends = danh_round n;
  run = subst (λ v. LedgerRun (ring n) (turns es) v) empty (run_of (ring n) es p r.run);
  consistent = consistent_in (ring n) es p r.run;
  members = each_map (λ d. d.node < n) (λ d. nat_lt d.node n ≡ true) (λ d less. lt-ltb d.node n less) (done_in es) r.members;
  routed = r.routed;
  sound = r.sound;
  exact = exact.exact;
}

pub exact_ring_loses_nothing : ExactRingLosesNothing
exact_ring_loses_nothing n bars es p r exact = (
  λ j. hands_up_once bars (done_in es) j (exact.exact j),
  λ empty. (
    arcs empty,
    nothing empty,
    λ j whole. exactly_ideal es (ring_hands_up_the_ideal n es p r) j (λ f ideal. nothing empty f j ideal (whole f ideal)),
  ),
)
  where
    arcs : IsQuiet p → ArcsBring n es
    arcs empty f i j w m sent inside beside whole =
        arc (ring n) danh_routes bars (ring_part n) (turns es) (quiet_ring n bars es p r exact empty) f j sent w m i inside beside whole

    nothing : IsQuiet p → LosesNothingRound n es
    nothing empty f j ideal (w, m, whole) =
        let quiet = quiet_ring n bars es p r exact empty in
        let inside : nat_lt f.src n ≡ true = lt-ltb f.src n (source_in (done_in es) f n quiet.consistent r.members ideal.sent) in
        let beside = source_puts (ring n) danh_routes bars (ring_part n) (turns es) f w quiet inside ideal.sent in
        reached n bars (turns es) j w f quiet exact.host ideal (arcs empty f f.src j w m ideal.sent inside beside whole)

-- under the premises members keep the law of one node
exact_of : (n : ℕ) (mac : ℕ → Mac) (x : ℕ → Bool) (ws : Widths) (lanes : Handling → Lanes) (es : History) (p : Plant) → RingPremises n mac x ws lanes es p →
    AreExact (bars_of x) (done_in es)
exact_of n mac x ws lanes es p h =
    let r = h.happened in
    let consistent = consistent_in (ring n) es p r.run in
    let steady = ring_is_steady n mac ws es p r h.tables.addressed h.tables.widths h.limits in
    record {
      host = λ k. refl;
      exact = members_are_exact n mac x ws lanes (done_in es) (members_of n mac x ws lanes (ring n) es p r.run h.tables) r.members consistent
          (λ k. (steady k).0);
    }

pub ring_hands_up_once : RingHandsUpOnce
ring_hands_up_once n mac x ws lanes es p h = (exact_ring_loses_nothing n (bars_of x) es p h.happened (exact_of n mac x ws lanes es p h)).0

pub ring_loses_nothing : RingLosesNothing
ring_loses_nothing n mac x ws lanes es p h = (exact_ring_loses_nothing n (bars_of x) es p h.happened (exact_of n mac x ws lanes es p h)).1
