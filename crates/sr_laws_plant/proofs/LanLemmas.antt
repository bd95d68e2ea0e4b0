-- Across two LANs.
use Rattle.std.proofs.Common.{◌≡◌, ◌⊎◌, ℕ, ◌<◌, inl, inr, true, false, not, List, [], arith, refl, sym, ap, ◌∙◌}
use Rattle.std.proofs.lemmas.Bool.{cases_lt, and_from, true≢false, eqb-true, eq-eqb}
use Rattle.sr_laws_plant.specs.Lists.{Each}
use Rattle.sr_frame.specs.declared.ports.Port.{Port}
use Rattle.sr_frame.specs.declared.ports.Port.TheVariants.{H, A, B, C}
use Rattle.sr_laws_plant.specs.Frames.{is_for, Frame}
use Rattle.sr_laws_plant.specs.Handlings.{AreConsistent, IsSent}
use Rattle.sr_laws_plant.specs.OneNode.{Bars, CameIn, IsExactAt, IsRouted}
use Rattle.sr_laws_plant.specs.Ledger.{Place, PlantTurn, handlings, LedgerRun, came_in}
use Rattle.sr_laws_plant.specs.Ports.{is_side}
use Rattle.sr_laws_plant.specs.TwinLans.{in_lan_a, in_lan_b, twin_lans, danp_routes, IsWholeInLans}
use Rattle.sr_laws_plant.specs.Ideal.{IsIdeal, IsHanded}
use Rattle.sr_laws_plant.proofs.OneNodeLemmas.{claimed, goes, handed_up}
use Rattle.sr_laws_plant.proofs.LedgerLemmas.{conserved, came_done}

-- two LANs with nothing in flight, whose members keep the law of one node
pub record IsQuietLans (n : ℕ) (bars : Bars) (ts : List PlantTurn) : Type 0 where
  pub run : LedgerRun (twin_lans n) ts []
  pub consistent : AreConsistent (handlings ts)
  pub routed : Each (IsRouted danp_routes) (handlings ts)
  pub host : (k : ℕ) → bars k H ≡ false
  pub exact : (k : ℕ) → IsExactAt bars k (handlings ts)

wants_up : (k : ℕ) (f : Frame) (p : Port) → is_side p ≡ true → f.supervision ≡ false → is_for k f.dest ≡ true → danp_routes k f p H ≡ true
wants_up k f H side host for = cc
wants_up k f A side host for = and_from _ _ (ap not host) for
wants_up k f B side host for = and_from _ _ (ap not host) for
wants_up k f C side host for = cc

-- up to the host
pub up : (n : ℕ) (bars : Bars) (ts : List PlantTurn) (j : ℕ) (p : Port) (f : Frame) → IsQuietLans n bars ts → is_side p ≡ true →
    IsIdeal j f (handlings ts) → CameIn j p f (handlings ts) → IsHanded j f (handlings ts)
up n bars ts j p f r side ideal came =
    elim (goes bars (handlings ts) j H f r.consistent (r.exact j)
    (claimed bars danp_routes (handlings ts) j p H f r.routed (wants_up j f p side ideal.host ideal.for) came)) [
      | inl put ↦ handed_up (handlings ts) j f put
      | inr barred ↦ absurd (true≢false (sym barred.0 ∙ r.host j))
    ]

-- From whichever members put it out: where not all copies for j were lost, one came in.
pub across : (n : ℕ) (bars : Bars) (ts : List PlantTurn) → IsQuietLans n bars ts → (f : Frame) (j : ℕ) → IsSent f (handlings ts) →
    IsWholeInLans (twin_lans n) f ts j → (j ≡ f.src) ⊎ ((p : Port) × (is_side p ≡ true) × CameIn j p f (handlings ts))
across n bars ts r f j sent whole =
    elim (cases_lt 0 (came_in at_a f ts)) [
      | inl came ↦ at_port A refl came
      | inr none ↦
          elim (cases_lt 0 (came_in at_b f ts)) [
            | inl came ↦ at_port B refl came
            | inr neither ↦
                let all_a = conserved (twin_lans n) ts [] r.run at_a f in
                let all_b = conserved (twin_lans n) ts [] r.run at_b f in
                absurd (whole (omega (arith, all_a, all_b)))
          ]
    ]
  where
    at_a : Place
    at_a = in_lan_a j

    at_b : Place
    at_b = in_lan_b j

    at_port : (p : Port) → is_side p ≡ true → 0 < came_in (record { node = j; port = p }) f ts →
        (j ≡ f.src) ⊎ ((q : Port) × (is_side q ≡ true) × CameIn j q f (handlings ts))
    at_port p side came =
        elim (came_done (twin_lans n) ts [] (record { node = j; port = p }) f r.run r.consistent sent came) [
          | inl own ↦ inl (eqb-true j f.src own)
          | inr in_there ↦ inr (p, side, in_there)
        ]

-- what is ideal for j is handed up
pub reached : (n : ℕ) (bars : Bars) (ts : List PlantTurn) → IsQuietLans n bars ts → (f : Frame) (j : ℕ) → IsIdeal j f (handlings ts) →
    (j ≡ f.src) ⊎ ((p : Port) × (is_side p ≡ true) × CameIn j p f (handlings ts)) → IsHanded j f (handlings ts)
reached n bars ts r f j ideal (inl source) = absurd (true≢false (sym (eq-eqb j f.src source) ∙ ideal.other))
reached n bars ts r f j ideal (inr (p, side, came)) = up n bars ts j p f r side ideal came
